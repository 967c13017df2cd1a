use Rattle.sig_cells.proofs.{Holds, IsTold}
use Rattle.sig_cells.proofs.implied.is_told.Given as goal

abbrev pub invariant-loop : goal.invariant-loop
invariant-loop l = record {
  known : Holds l.store.nodes l.pair.known.guard;
  told : Holds l.store.nodes l.pair.told.guard;
  leads : IsTold l.store.nodes l.pair.known l.pair.told → IsTold l.store.nodes l.fn.known l.fn.told;
}

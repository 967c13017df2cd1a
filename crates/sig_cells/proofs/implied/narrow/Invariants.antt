use Rattle.sig_cells.proofs.{IsNarrowed}
use Rattle.sig_cells.proofs.implied.narrow.Given as goal

abbrev pub invariant-loop : goal.invariant-loop
invariant-loop l = IsNarrowed l.store.nodes l.fn.known l.fn.guard l.left

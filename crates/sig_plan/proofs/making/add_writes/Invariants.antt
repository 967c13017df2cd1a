use Rattle.sig_plan.proofs.{◌*◌, take, Extends, of_each, writes_of, SpendsSoFar}
use Rattle.sig_plan.proofs.making.add_writes.Given as goal

abbrev pub invariant-loop-number : goal.invariant-loop-number
invariant-loop-number l = record {
  spends : SpendsSoFar (2 * l.number) l.source.clocks.now l.initial.store l.store;
  adds : Extends l.initial.store.nodes l.store.nodes l.source.clocks.now (λ presence. of_each (writes_of l.source.signals.now presence) 0 (take l.number l.equations)) l.initial.ops.items l.ops.items;
}

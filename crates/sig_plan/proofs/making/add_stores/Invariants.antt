use Rattle.sig_plan.proofs.{take, Adds, of_each, stores_of}
use Rattle.sig_plan.proofs.making.add_stores.Given as goal

abbrev pub invariant-loop-number : goal.invariant-loop-number
invariant-loop-number l = Adds l.source.clocks.now (λ presence. of_each (stores_of l.source.signals.now presence) 0 (take l.number l.equations)) l.initial.ops.items l.ops.items

use Rattle.sig_interleaving.proofs.{AreOpened}
use Rattle.sig_interleaving.proofs.making.opened.Given as goal

abbrev pub invariant-loop-actor : goal.invariant-loop-actor
invariant-loop-actor l = AreOpened l.plan l.inputs l.limit l.actor l.states.items

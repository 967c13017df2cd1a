-- the lists have the variables of the blocks so far
use Rattle.sig_dd.proofs.{◌*◌, AreTestedBelow}
use Rattle.sig_dd.proofs.store.Store.supports.Given as goal

abbrev pub invariant-loop-block : goal.invariant-loop-block
invariant-loop-block l = AreTestedBelow l.self.nodes (l.block * 64) l.roots l.lists.items

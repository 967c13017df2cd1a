use Rattle.sig_solve.proofs.{are_proposed}
use Rattle.sig_solve.proofs.awaiting.guide_of.Goals as goal

pub base_of-requires : goal.base_of-requires
base_of-requires c = are_proposed c.args.store.now c.args.asked.now c.requires

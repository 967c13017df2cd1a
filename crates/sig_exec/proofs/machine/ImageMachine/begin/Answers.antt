use Rattle.sig_exec.proofs.{cells_in, state_cleared}
use Rattle.sig_exec.proofs.machine.ImageMachine.begin.Goals as goal

pub returns-clause-cleared : goal.returns-clause-cleared
returns-clause-cleared c = λ image lowered flows lowers is. state_cleared image lowered lowers flows c.args.self.now.instant (cells_in c.args.self.now) is c.args.instant c.requires

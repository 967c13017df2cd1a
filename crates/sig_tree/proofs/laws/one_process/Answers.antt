use Rattle.sig_tree.proofs.{model_once, program_once}
use Rattle.sig_tree.proofs.laws.one_process.Goals as goal

pub returns-clause-process : goal.returns-clause-process
returns-clause-process c = model_once

pub returns-clause-program : goal.returns-clause-program
returns-clause-program c = program_once

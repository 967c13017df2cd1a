use Rattle.sig_program.proofs.{program_apart, program_once}
use Rattle.sig_program.proofs.laws.one_verdict.Goals as goal

pub returns-clause-apart : goal.returns-clause-apart
returns-clause-apart c = program_apart

pub returns-clause-one : goal.returns-clause-one
returns-clause-one c = program_once

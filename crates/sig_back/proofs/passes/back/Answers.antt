use Rattle.sig_back.proofs.{Err, Ok, first, given}
use Rattle.sig_back.proofs.passes.back.Goals as goal

pub returns-in-Ok-clause-first : goal.returns-in-Ok-clause-first
returns-in-Ok-clause-first c = first c.args.kernel (Ok c.in-Ok.plan) c.requires.valid c.in-Ok.ensures.accepted tt

pub returns-in-Err-clause-given : goal.returns-in-Err-clause-given
returns-in-Err-clause-given c = given {T = Unit {0}} c.args.kernel (Err c.in-Err.answer) c.requires.valid c.in-Err.ensures.refused

pub returns-in-Err-clause-first : goal.returns-in-Err-clause-first
returns-in-Err-clause-first c = first {T = Unit {0}} c.args.kernel (Err c.in-Err.answer) c.requires.valid tt c.in-Err.ensures.refused

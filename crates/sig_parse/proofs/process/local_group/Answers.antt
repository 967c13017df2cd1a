use Rattle.sig_parse.proofs.{declared_of, local_group, handed, covered, local_group_inside, local_group_end}
use Rattle.sig_parse.proofs.process.local_group.Goals as goal

pub returns-clause-reads : goal.returns-clause-reads
returns-clause-reads c = local_group (declared_of c.in_ok-one.one) c.in_ok-_ended._ended c.in_ok-one.ensures.reads c.in_ok-_ended.ensures.reads

pub returns-in_err-one-clause-refuses : goal.returns-in_err-one-clause-refuses
returns-in_err-one-clause-refuses c = handed _ _ _ c.from_residual.ensures (λ text. local_group_inside (c.in_err-one.ensures.refuses text))

pub returns-in_err-_ended-clause-refuses : goal.returns-in_err-_ended-clause-refuses
returns-in_err-_ended-clause-refuses c = handed _ _ _ c.from_residual-in_err-_ended.ensures (λ text. local_group_end (declared_of c.in_ok-one.one) (covered c.in_ok-one.ensures.reads) c.in_ok-one.ensures.settles (c.in_err-_ended.ensures.refuses text))

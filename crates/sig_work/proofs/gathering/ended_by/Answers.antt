use Rattle.sig_work.proofs.gathering.ended_by.Goals as goal

pub returns-clause-cause : goal.returns-clause-cause
returns-clause-cause c = (c.least_failure-word.result, c.least_failure-word.ensures, c.cause_named.ensures)

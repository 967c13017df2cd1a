use Rattle.sig_judge.proofs.{some_trace, some_verdict}
use Rattle.sig_judge.proofs.laws.traces_have_a_verdict.Goals as goal

pub returns-clause-verdict : goal.returns-clause-verdict
returns-clause-verdict c = some_verdict c.functions_give_one_value.ensures.one

pub returns-clause-file : goal.returns-clause-file
returns-clause-file c = some_trace

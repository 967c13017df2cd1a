use Rattle.sig_judge_command.proofs.{one_judge_outcome, some_judge_outcome}
use Rattle.sig_judge_command.proofs.laws.judges_have_one_outcome.Goals as goal

pub returns-clause-every : goal.returns-clause-every
returns-clause-every c =
    some_judge_outcome c.texts_have_a_verdict.ensures.flat c.texts_have_a_verdict.ensures.names c.traces_have_a_verdict.ensures.file c.traces_have_a_verdict.ensures.verdict

pub returns-clause-one : goal.returns-clause-one
returns-clause-one c = λ held program traces. one_judge_outcome program traces held

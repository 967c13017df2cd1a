use Rattle.sig_parse.proofs.{one_answer, no_answer}
use Rattle.sig_parse.proofs.laws.one_refusal.Goals as goal

pub returns-clause-one : goal.returns-clause-one
returns-clause-one c = one_answer

pub returns-clause-apart : goal.returns-clause-apart
returns-clause-apart c = no_answer

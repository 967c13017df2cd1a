use Rattle.sig_c.proofs.HelperAnswers.{helper_answers}
use Rattle.sig_c.proofs.laws.helpers_answer.Goals as goal

pub returns : goal.returns
returns c = helper_answers

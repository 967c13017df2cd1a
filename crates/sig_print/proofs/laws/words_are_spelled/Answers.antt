use Rattle.sig_print.proofs.{both_limits, leaves_of, IsModel, process_words, each_good, model_good, leaves_good}
use Rattle.sig_print.proofs.laws.words_are_spelled.Goals as goal

pub returns : goal.returns
returns c = λ text processes (tokens, are, tree).
    each_good (λ process. IsModel both_limits process 0) process_words (λ process. model_good both_limits process 0) processes
    (leaves_of text tokens) (leaves_good text tokens (c.each_token.ensures.spelled text tokens are)) tree.1

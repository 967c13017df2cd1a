use Rattle.sig_lex.proofs.{some_token, token_slices, token_last, token_spelled, token_words}
use Rattle.sig_lex.proofs.laws.each_token.Goals as goal

pub returns-clause-some : goal.returns-clause-some
returns-clause-some c = some_token

pub returns-clause-slices : goal.returns-clause-slices
returns-clause-slices c = token_slices

pub returns-clause-last : goal.returns-clause-last
returns-clause-last c = token_last

pub returns-clause-spelled : goal.returns-clause-spelled
returns-clause-spelled c = token_spelled

pub returns-clause-words : goal.returns-clause-words
returns-clause-words c = token_words

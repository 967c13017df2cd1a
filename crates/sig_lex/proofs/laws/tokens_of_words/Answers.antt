use Rattle.sig_lex.proofs.{spaced_tokens, printed_tokens}
use Rattle.sig_lex.proofs.laws.tokens_of_words.Goals as goal

pub returns-clause-spaced : goal.returns-clause-spaced
returns-clause-spaced c = spaced_tokens

pub returns-clause-printed : goal.returns-clause-printed
returns-clause-printed c = printed_tokens

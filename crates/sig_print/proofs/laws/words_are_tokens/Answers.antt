use Rattle.sig_print.proofs.{flat_map, process_words}
use Rattle.sig_print.proofs.laws.words_are_tokens.Goals as goal

pub returns : goal.returns
returns c = λ text processes is. c.tokens_of_words.ensures.printed (flat_map process_words processes) (c.words_are_spelled.ensures text processes is)

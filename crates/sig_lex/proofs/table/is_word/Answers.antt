use Rattle.sig_lex.proofs.{words, listed}
use Rattle.sig_lex.proofs.table.is_word.Goals as goal

pub returns : goal.returns
returns c = listed words c.args.bytes.now _ c.contains.ensures.value

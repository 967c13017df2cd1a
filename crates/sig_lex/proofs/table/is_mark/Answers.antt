use Rattle.sig_lex.proofs.{marks, listed}
use Rattle.sig_lex.proofs.table.is_mark.Goals as goal

pub returns : goal.returns
returns c = listed marks c.args.bytes.now _ c.contains.ensures.value

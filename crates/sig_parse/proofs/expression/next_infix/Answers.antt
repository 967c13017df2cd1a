use Rattle.sig_parse.proofs.{no_operator}
use Rattle.sig_parse.proofs.expression.next_infix.Goals as goal

pub returns-in-None : goal.returns-in-None
returns-in-None c = no_operator c.args.parser.now.leaves c.in-None.ensures

use Rattle.sig_parse.proofs.{terminal_of, leaf_missing}
use Rattle.sig_parse.proofs.parser.Parser.expect.Goals as goal

pub returns-in-None-clause-refuses : goal.returns-in-None-clause-refuses
returns-in-None-clause-refuses c = leaf_missing (terminal_of c.args.keyword) c.in-None.ensures

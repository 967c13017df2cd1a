use Rattle.sig_parse.proofs.{name_missing}
use Rattle.sig_parse.proofs.parser.Parser.name.Goals as goal

pub returns-in-None-clause-refuses : goal.returns-in-None-clause-refuses
returns-in-None-clause-refuses c = name_missing c.in-None.ensures

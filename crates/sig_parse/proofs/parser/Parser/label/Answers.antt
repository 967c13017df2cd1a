use Rattle.sig_parse.proofs.{label_missing}
use Rattle.sig_parse.proofs.parser.Parser.label.Goals as goal

pub returns-in-None-clause-refuses : goal.returns-in-None-clause-refuses
returns-in-None-clause-refuses c = label_missing c.in-None.ensures

use Rattle.sig_parse.proofs.{codes, name, leaf_missing}
use Rattle.sig_parse.proofs.parser.Parser.run_on.Goals as goal

pub returns-in-None-clause-refuses : goal.returns-in-None-clause-refuses
returns-in-None-clause-refuses c = leaf_missing (name (codes "RunOn")) c.in-None.ensures

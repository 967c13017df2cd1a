use Rattle.sig_parse.proofs.{ContinuesNothing, InNumber, refused_here, number_refused}
use Rattle.sig_parse.proofs.constant.negative.Goals as goal

pub returns-in-None-clause-refuses : goal.returns-in-None-clause-refuses
returns-in-None-clause-refuses c = refused_here InNumber ContinuesNothing c.in-None.ensures.0 (number_refused c.args.parser.now.leaves c.in-None.ensures.1)

use Rattle.sig_parse.proofs.{whether}
use Rattle.sig_parse.proofs.parser.Parser.is.Goals as goal

pub returns-in-Some : goal.returns-in-Some
returns-in-Some c = whether c.in-Some.found c.args.keyword c.is_same.result _ c.is_same.ensures c.in-Some.ensures

use Rattle.sig_parse.proofs.{refl, no_prefix, not_prefix}
use Rattle.sig_parse.proofs.expression.prefix.Goals as goal

pub returns-in_default-clause-reads : goal.returns-in_default-clause-reads
returns-in_default-clause-reads c = (refl, λ op own. no_prefix op c.args.parser.now.leaves c.in_default.ensures)

pub returns-in-None-clause-reads : goal.returns-in-None-clause-reads
returns-in-None-clause-reads c = (refl, λ op own. not_prefix op c.in-Some.keyword c.args.parser.now.leaves c.in-Some.ensures (c.in-None.ensures.none op own))

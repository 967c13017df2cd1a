use Rattle.sig_parse.proofs.{refl, sym, ◌∙◌, level_number, none_of_level, no_operator, starts_operator, other_level, one_level}
use denote.Enum.Bare.{same_false}
use Rattle.sig_parse.specs.contracts.operator.Level.{the_type}
use Rattle.sig_parse.proofs.expression.infix.Goals as goal

pub returns-in_default-clause-reads : goal.returns-in_default-clause-reads
returns-in_default-clause-reads c = (refl, none_of_level (level_number c.args.level) c.args.parser.now.leaves (no_operator c.args.parser.now.leaves c.in_default.ensures))

pub returns-in_default-infix_of-clause-reads : goal.returns-in_default-infix_of-clause-reads
returns-in_default-infix_of-clause-reads c = (
  refl,
  other_level c.in-Some-infix_of.op (level_number c.args.level) c.args.parser.now.leaves (starts_operator c.in-Some.keyword c.in-Some-infix_of.op c.args.parser.now.leaves c.in-Some.ensures c.in-Some-infix_of.ensures)
      (λ e. same_false the_type c.level_of.result c.args.level (sym c.eq.ensures ∙ c.if-eq.false) (one_level c.level_of.result c.args.level (c.level_of.ensures.own ∙ e))),
)

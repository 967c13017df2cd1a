use Rattle.sig_parse.proofs.{rules, sym, ◌∙◌}
use denote.Enum.Bare.{same_true, true_same}
use Rattle.sig_parse.specs.contracts.keyword.Keyword.{the_type}
use Rattle.sig_parse.proofs.keyword.is_same.Goals as goal

pub returns : goal.returns
returns c = (λ is. same_true the_type (search rules) _ _ (sym c.eq.ensures ∙ is), λ e. c.eq.ensures ∙ true_same the_type c.args.a c.args.b e)

use Rattle.sig_kinds.proofs.{ap, ◌∙◌, ◌++◌, expression_of, kinds_of_one}
use Rattle.sig_kinds.proofs.kinds.add_right.Goals as goal

pub returns-in_ok-add_expression-in-Value : goal.returns-in_ok-add_expression-in-Value
returns-in_ok-add_expression-in-Value c names = rw c.in-Value.is (c.in_ok-add_expression-in-Value.ensures ∙ ap (λ l. c.args.all.now.items ++ l) (kinds_of_one c.args.scope.now (expression_of c.in-Value.e)))

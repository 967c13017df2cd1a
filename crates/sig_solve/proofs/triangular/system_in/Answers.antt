use Rattle.sig_solve.proofs.{ap, sym, ◌∙◌, SystemView}
use Rattle.sig_solve.proofs.triangular.system_in.Goals as goal

pub returns-then-are_same-clause-conditions : goal.returns-then-are_same-clause-conditions
returns-then-are_same-clause-conditions c =
    sym (c.as_slice.ensures.value ∙ ap (λ (s : SystemView). s.conditions) c.first.view_is) ∙ c.are_same.ensures c.if-are_same.true

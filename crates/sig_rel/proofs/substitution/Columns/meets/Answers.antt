use Rattle.sig_rel.proofs.{inl, inr, ap, sym, ◌∙◌, IfOk-weaker, test, Fun, is_met, values_at, constant_met, default_met, when_met}
use Rattle.sig_rel.proofs.substitution.Columns.meets.Goals as goal

pub returns-in-Fun-clause-value : goal.returns-in-Fun-clause-value
returns-in-Fun-clause-value c =
    let is = c.in-Fun.is ∙ ap (Fun c.in-Fun.y c.in-Fun.op) (sym c.as_slice.ensures) in
    IfOk-weaker c.meets_function.result _ _ (λ r value truths.
    value truths ∙ ap (is_met c.args.signals.now c.args.least.now (values_at c.args.store.now.nodes c.args.self.now truths)) (sym is)) c.meets_function.ensures.value

pub returns-in-When-clause-value : goal.returns-in-When-clause-value
returns-in-When-clause-value c =
    let signals = c.args.signals.now in
    let least = c.args.least.now in
    let form = c.args.form.now in
    let y = c.in-When.y in
    IfOk-weaker c.meets_given.result _ _ (λ r value truths.
    let values = values_at c.args.store.now.nodes c.args.self.now truths in
    let now = test c.meets_given.new.store.nodes r truths in
    elim c.in-When.is [
      | inl (x, b, is) ↦ when_met signals least values form y x b now is (value truths)
      | inr (inl (constant, b, is)) ↦ constant_met signals least values form y constant b now is (value truths)
      | inr (inr (u, v, is)) ↦ default_met signals least values form y u v now is (value truths)
    ]) c.meets_given.ensures.value

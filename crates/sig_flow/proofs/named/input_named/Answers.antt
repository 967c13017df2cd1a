use Rattle.sig_flow.proofs.{◌≡◌, arith, ap, sym, ◌∙◌, get_or_default, Signal, kind_absent, kind_at}
use Rattle.sig_flow.proofs.named.input_named.Goals as goal

pub returns-then-has_name-clause-found : goal.returns-then-has_name-clause-found
returns-then-has_name-clause-found c =
    let here : c.index-inputs-i.result.name ≡ c.args.name.now = c.has_name.ensures.0 c.if-has_name.true in
    let at = λ (d : Signal). get_or_default c.args.inputs.now c.loop-i.i d c.index-inputs-i.result c.loop-i-test.true ∙ sym c.index-inputs-i.is in
    let same = λ (d : Signal). ap (λ (s : Signal). s.name) (at d) ∙ here in
    record {
      within = c.loop-i-test.true;
      same = same;
      kind = λ d. kind_at c.args.inputs.now c.args.name.now c.loop-i.i d c.loop-i-test.true c.loop-i.invariant (same d);
    }

pub returns-clause-absent : goal.returns-clause-absent
returns-clause-absent c =
    kind_absent c.args.inputs.now c.args.name.now (λ k d lt. c.loop-i.invariant k d (omega arith))

use Rattle.sig_plan.proofs.{Bool, List, not, ◌&&◌, ◌∙◌, IfOk-weaker, Spans, test, Share-then, Agree-kept, Depends-of_one, Spans-kept, Spans-of}
use Rattle.sig_plan.proofs.source.without.Goals as goal

pub returns-clause-value : goal.returns-clause-value
returns-clause-value c =
    let v = c.args.v in
    let first = λ (truths : List Bool). Agree-kept c.args.store.now c.negate.new.self c.in_ok-absent.ensures.kept v c.requires.v truths in
    IfOk-weaker c.conj.result _ _ (λ r is. record {
      holds = is.holds;
      function = λ truths. is.function truths ∙ (λ j. first truths j && c.in_ok-absent.ensures.value.function truths j);
    }) c.conj.ensures.value

pub returns-clause-spends : goal.returns-clause-spends
returns-clause-spends c vs over_v over_u =
    let s = c.args.store.now in
    let t = c.negate.new.self in
    let absent : Spans t.nodes c.in_ok-absent.absent vs = Spans-of t.nodes (λ truths. not (test s.nodes c.args.u truths)) c.in_ok-absent.absent c.in_ok-absent.ensures.value vs (λ w depends. over_u w (Depends-of_one not (test s.nodes c.args.u) w depends)) in
    Share-then s t c.conj.new.self 1 1 vs _ (c.in_ok-absent.ensures.spends.over vs (over_u, tt) tt)
    (c.conj.ensures.spends.over vs (Spans-kept s t c.in_ok-absent.ensures.kept c.args.v c.requires.v vs over_v, (absent, tt)) tt)

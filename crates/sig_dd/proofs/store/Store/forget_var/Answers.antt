use Rattle.sig_dd.proofs.{ℕ, true, false, List, arith, sym, ◌∙◌, ap, subst, ◌||◌, with_truth, test, Spans, Share, Bool, refusal_is, Share-then, Share-wider, IsRefOf-same, Spans-append, Spans-fixed, test-kept, IfOk-weaker}
use Rattle.sig_dd.proofs.store.Store.forget_var.Goals as goal

-- the disjunction is of the two restrictions
pub returns-clause-value : goal.returns-clause-value
returns-clause-value c =
    let at_low = λ (ts : List Bool). test-kept c.restrict.new.self c.restrict-2.new.self c.in_ok-high.ensures.kept c.in_ok-low.low c.in_ok-low.ensures.value.holds ts ∙ c.in_ok-low.ensures.value.function ts in
    let at_high = λ (ts : List Bool). c.in_ok-high.ensures.value.function ts ∙ test-kept c.args.self.now c.restrict.new.self c.in_ok-low.ensures.kept c.args.f c.requires (with_truth ts c.args.v true) in
    IfOk-weaker c.disj.result _ _
    (IsRefOf-same c.disj.new.self.nodes _ _ (λ ts.
    ap (λ b. b || test c.restrict-2.new.self.nodes c.in_ok-high.high ts) (at_low ts)
    ∙ ap (λ b. test c.args.self.now.nodes c.args.f (with_truth ts c.args.v false) || b) (at_high ts)))
    c.disj.ensures.value

-- what the restrictions depend on
low_spans : (c : goal.After-disj) (vs : List ℕ) → Spans c.args.self.now.nodes c.args.f vs → Spans c.restrict-2.new.self.nodes c.in_ok-low.low vs
low_spans c vs sf =
    Spans-append c.restrict.new.self c.restrict-2.new.self c.in_ok-high.ensures.kept c.in_ok-low.low c.in_ok-low.ensures.value.holds vs
    (Spans-fixed c.args.self.now.nodes c.restrict.new.self.nodes c.args.f c.in_ok-low.low c.args.v false c.in_ok-low.ensures.value vs sf)

high_spans : (c : goal.After-disj) (vs : List ℕ) → Spans c.args.self.now.nodes c.args.f vs → Spans c.restrict-2.new.self.nodes c.in_ok-high.high vs
high_spans c vs sf =
    Spans-fixed c.restrict.new.self.nodes c.restrict-2.new.self.nodes c.args.f c.in_ok-high.high c.args.v true c.in_ok-high.ensures.value vs
    (Spans-append c.args.self.now c.restrict.new.self c.in_ok-low.ensures.kept c.args.f c.requires vs sf)

pub returns-in_err-low-clause-spends : goal.returns-in_err-low-clause-spends
returns-in_err-low-clause-spends c = record {
  over = λ vs s us. subst (Share 3 vs c.args.self.now c.restrict.new.self) (sym (refusal_is c.from_residual.result c.in_err-low.field-0.0 c.from_residual.ensures.1))
      (Share-wider c.args.self.now c.restrict.new.self 1 3 vs vs _ (omega arith) (c.in_err-low.ensures.spends.over vs s us));
}

pub returns-in_err-high-clause-spends : goal.returns-in_err-high-clause-spends
returns-in_err-high-clause-spends c = record {
  over = λ vs s us.
      let spans = Spans-append c.args.self.now c.restrict.new.self c.in_ok-low.ensures.kept c.args.f c.requires vs s.0 in
      subst (Share 3 vs c.args.self.now c.restrict-2.new.self) (sym (refusal_is c.from_residual-in_err-high.result c.in_err-high.field-0.0 c.from_residual-in_err-high.ensures.1))
      (Share-wider c.args.self.now c.restrict-2.new.self 2 3 vs vs _ (omega arith)
      (Share-then c.args.self.now c.restrict.new.self c.restrict-2.new.self 1 1 vs _ (c.in_ok-low.ensures.spends.over vs s us) (c.in_err-high.ensures.spends.over vs (spans, tt) us)));
}

pub returns-clause-spends : goal.returns-clause-spends
returns-clause-spends c = record {
  over = λ vs s us.
      let spans = Spans-append c.args.self.now c.restrict.new.self c.in_ok-low.ensures.kept c.args.f c.requires vs s.0 in
      let both = Share-then c.args.self.now c.restrict.new.self c.restrict-2.new.self 1 1 vs _ (c.in_ok-low.ensures.spends.over vs s us) (c.in_ok-high.ensures.spends.over vs (spans, tt) us) in
      Share-then c.args.self.now c.restrict-2.new.self c.disj.new.self 2 1 vs _ both (c.disj.ensures.spends.over vs (low_spans c vs s.0, (high_spans c vs s.0, tt)) tt);
}

use Rattle.sig_rel.proofs.{◌≡◌, ◌+◌, ◌*◌, ◌&&◌, Ok, Err, length, true, ap, ◌∙◌, subst, arith, item_at, test, SpanAll, is_met, Makes, itself, SpanColumns, values_at, constant_spans, made_none, makes_err, makes_then, makes_wider, columns_hold, columns_span, columns_values, one_more_asked}
use Rattle.sig_rel.proofs.substitution.Columns.residue.Goals as goal

pub loop-equation-init : goal.loop-equation-init
loop-equation-init c =
    let r = c.args.store.now in
    let w = c.constant-whole.result in
    record {
      made = made_none 0 (SpanColumns r.nodes c.args.self.now) r itself w c.requires.store (c.constant-whole.ensures.value.holds, tt) (λ vs wide. (constant_spans r.nodes true w vs c.constant-whole.ensures.value, tt));
      value = λ truths. c.constant-whole.ensures.value.function truths;
    }

pub join-requires-clause-hold : goal.join-requires-clause-hold
join-requires-clause-hold c = columns_hold c.args.store.now c.loop-equation.store c.loop-equation.invariant.made.kept c.args.self.now c.requires.hold

pub join-requires-clause-whole : goal.join-requires-clause-whole
join-requires-clause-whole c = c.loop-equation.invariant.made.held.0

pub returns-in_err-whole-clause-made : goal.returns-in_err-whole-clause-made
returns-in_err-whole-clause-made c =
    let r = c.args.store.now in
    let s = c.loop-equation.store in
    let t = c.join.new.store in
    let u = c.args.self.now in
    let w = c.loop-equation.whole in
    let k = c.loop-equation.equation-index in
    let e = c.in_err-whole.field-0.0 in
    let so_far = c.loop-equation.invariant.made in
    let count : length c.as_slice-equation-items.result.now ≡ length c.args.kernel.now.equations = ap length c.as_slice-equation-items.ensures in
    let lt = c.loop-equation-test.true in
    makes_err (11 * k + 11) (11 * length c.args.kernel.now.equations) (SpanColumns r.nodes u) (SpanColumns r.nodes u) r t itself itself e c.from_residual.result
    (makes_then (11 * k) 11 (SpanColumns r.nodes u) (SpanColumns r.nodes u) (λ vs. SpanColumns s.nodes u vs × SpanAll s.nodes (itself w) vs) r s t itself itself w (Err e) so_far c.in_err-whole.ensures.made
    (λ vs wide. wide) (λ vs wide spans. (columns_span r s so_far.kept u c.requires.hold vs wide, spans))) (omega (arith, count, lt)) (λ vs wide. wide) c.from_residual.ensures.1

pub loop-equation-preserved : goal.loop-equation-preserved
loop-equation-preserved c =
    let r = c.args.store.now in
    let s = c.loop-equation.store in
    let t = c.join.new.store in
    let u = c.args.self.now in
    let w = c.loop-equation.whole in
    let x = c.in_ok-whole.whole in
    let k = c.loop-equation.equation-index in
    let so_far = c.loop-equation.invariant.made in
    let count : length c.as_slice-equation-items.result.now ≡ length c.args.kernel.now.equations = ap length c.as_slice-equation-items.ensures in
    let lt = c.loop-equation-test.true in
    let sum : 11 * k + 11 ≡ 11 * (k + 1) = omega arith in
    record {
      made = subst (λ n. Makes n (SpanColumns r.nodes u) r t itself (Ok x)) sum
          (makes_then (11 * k) 11 (SpanColumns r.nodes u) (SpanColumns r.nodes u) (λ vs. SpanColumns s.nodes u vs × SpanAll s.nodes (itself w) vs) r s t itself itself w (Ok x) so_far c.in_ok-whole.ensures.made
          (λ vs wide. wide) (λ vs wide spans. (columns_span r s so_far.kept u c.requires.hold vs wide, spans)));
      value = λ truths. one_more_asked c.args.kernel.now.signals c.as_slice-signals.result.now c.args.kernel.now.equations c.args.least.now (values_at r.nodes u truths) k c.equation-item.result
          (test s.nodes w truths) (test t.nodes x truths) c.as_slice-signals.ensures (omega (arith, count, lt))
          (item_at c.as_slice-equation-items.result.now c.args.kernel.now.equations k c.equation-item.result c.as_slice-equation-items.ensures lt c.equation-item.is)
          (c.loop-equation.invariant.value truths)
          (c.in_ok-whole.ensures.value truths
          ∙ ap (λ values. test s.nodes w truths && is_met c.as_slice-signals.result.now c.args.least.now values c.equation-item.result.form) (columns_values r s so_far.kept u c.requires.hold truths));
    }

pub returns-clause-made : goal.returns-clause-made
returns-clause-made c =
    let r = c.args.store.now in
    let u = c.args.self.now in
    let count : length c.as_slice-equation-items.result.now ≡ length c.args.kernel.now.equations = ap length c.as_slice-equation-items.ensures in
    let le = c.loop-equation.auto.equation-index-end in
    makes_wider (11 * c.loop-equation.equation-index) (11 * length c.args.kernel.now.equations) (SpanColumns r.nodes u) (SpanColumns r.nodes u) r c.loop-equation.store itself
    (Ok c.loop-equation.whole) c.loop-equation.invariant.made (omega (arith, count, le)) (λ vs wide. wide)

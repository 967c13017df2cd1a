use Rattle.sig_rel.proofs.{◌≡◌, ◌+◌, ◌-◌, Ok, Err, false, length, sym, subst, arith, SpanAll, classes_below, count_one, is_own, IsSomePresent, Makes, itself, SpanColumns, constant_spans, made_none, makes_err, makes_then, makes_wider, classes_first, classes_from, classes_from_within, columns_hold, columns_span, none_present, one_more_present}
use Rattle.sig_rel.proofs.substitution.Columns.some_present.Goals as goal

pub loop-class-init : goal.loop-class-init
loop-class-init c =
    let r = c.args.store.now in
    let u = c.args.self.now in
    let least = c.args.least.now in
    let w = c.constant-some.result in
    let value = c.constant-some.ensures.value in
    record {
      made = made_none (classes_from least (length least)) (SpanColumns r.nodes u) r itself w c.requires.store (value.holds, tt) (λ vs wide. (constant_spans r.nodes false w vs value, tt));
      value = none_present r.nodes least u w value.function;
    }

pub or_present-requires-clause-store : goal.or_present-requires-clause-store
or_present-requires-clause-store c = c.loop-class.invariant.made.store

pub or_present-requires-clause-hold : goal.or_present-requires-clause-hold
or_present-requires-clause-hold c = columns_hold c.args.store.now c.loop-class.store c.loop-class.invariant.made.kept c.args.self.now c.requires.hold

pub or_present-requires-clause-some : goal.or_present-requires-clause-some
or_present-requires-clause-some c = c.loop-class.invariant.made.held.0

pub returns-in_err-some-clause-made : goal.returns-in_err-some-clause-made
returns-in_err-some-clause-made c =
    let r = c.args.store.now in
    let s = c.loop-class.store in
    let t = c.or_present.new.store in
    let u = c.args.self.now in
    let least = c.args.least.now in
    let w = c.loop-class.some in
    let k = c.loop-class.class in
    let e = c.in_err-some.field-0.0 in
    let so_far = c.loop-class.invariant.made in
    let low = c.loop-class-test.true in
    let high = c.loop-class.auto.class in
    let more = classes_first least k low high in
    let within = classes_from_within least (k - 1) (omega (arith, high)) in
    makes_err (classes_from least k + count_one (is_own least (k - 1))) (classes_below least (length least)) (SpanColumns r.nodes u) (SpanColumns r.nodes u) r t itself itself e c.from_residual.result
    (makes_then (classes_from least k) (count_one (is_own least (k - 1))) (SpanColumns r.nodes u) (SpanColumns r.nodes u) (λ vs. SpanColumns s.nodes u vs × SpanAll s.nodes (itself w) vs) r s t itself itself w (Err e) so_far c.in_err-some.ensures.made
    (λ vs wide. wide) (λ vs wide spans. (columns_span r s so_far.kept u c.requires.hold vs wide, spans))) (omega (arith, more, within)) (λ vs wide. wide) c.from_residual.ensures.1

pub loop-class-preserved : goal.loop-class-preserved
loop-class-preserved c =
    let r = c.args.store.now in
    let s = c.loop-class.store in
    let t = c.or_present.new.store in
    let u = c.args.self.now in
    let least = c.args.least.now in
    let w = c.loop-class.some in
    let x = c.in_ok-some.some in
    let k = c.loop-class.class in
    let so_far = c.loop-class.invariant.made in
    let low = c.loop-class-test.true in
    let high = c.loop-class.auto.class in
    record {
      made = subst (λ n. Makes n (SpanColumns r.nodes u) r t itself (Ok x)) (sym (classes_first least k low high))
          (makes_then (classes_from least k) (count_one (is_own least (k - 1))) (SpanColumns r.nodes u) (SpanColumns r.nodes u) (λ vs. SpanColumns s.nodes u vs × SpanAll s.nodes (itself w) vs) r s t itself itself w (Ok x) so_far c.in_ok-some.ensures.made
          (λ vs wide. wide) (λ vs wide spans. (columns_span r s so_far.kept u c.requires.hold vs wide, spans)));
      value = one_more_present r s t so_far.kept least u c.requires.hold k low high w x c.loop-class.invariant.value c.in_ok-some.ensures.value;
    }

pub returns-clause-made : goal.returns-clause-made
returns-clause-made c =
    let r = c.args.store.now in
    let u = c.args.self.now in
    let least = c.args.least.now in
    let k = c.loop-class.class in
    let high = c.loop-class.auto.class in
    makes_wider (classes_from least k) (classes_below least (length least)) (SpanColumns r.nodes u) (SpanColumns r.nodes u) r c.loop-class.store itself (Ok c.loop-class.some) c.loop-class.invariant.made
    (classes_from_within least k high) (λ vs wide. wide)

pub returns-clause-value : goal.returns-clause-value
returns-clause-value c =
    let past = c.loop-class-test.false in
    let same : c.loop-class.class ≡ 0 = omega (arith, past) in
    subst (λ k. IsSomePresent c.args.store.now.nodes c.loop-class.store.nodes c.args.least.now c.args.self.now k c.loop-class.some) same c.loop-class.invariant.value

use Rattle.sig_rel.proofs.{[], ◌∷◌, ◌&&◌, not, Ok, Err, ◌∙◌, ap, arith, if◌then◌else◌, IfOk-weaker, same_truth, test, SpanAll, itself, Keeps-trans, Spans-kept, conj_is_choice, same_is, test_kept, made_choice, made_one, made_two, makes_err, makes_spans, makes_then}
use Rattle.sig_rel.proofs.statuses.Known.same.Goals as goal

pub returns-in_err-alike-clause-made : goal.returns-in_err-alike-clause-made
returns-in_err-alike-clause-made c =
    let r = c.args.store.now in
    let x = c.args.self in
    let y = c.args.other in
    makes_err 2 5 (SpanAll r.nodes (x.present ∷ x.truth ∷ y.present ∷ y.truth ∷ [])) (SpanAll r.nodes (y.truth ∷ x.truth ∷ [])) r c.same_truth.new.store itself itself c.in_err-alike.field-0.0 c.from_residual.result
    c.in_err-alike.ensures.made (omega arith) (λ vs wide. (wide.1.1.1.0, (wide.1.0, tt))) c.from_residual.ensures.1

pub returns-in_err-both-clause-made : goal.returns-in_err-both-clause-made
returns-in_err-both-clause-made c =
    let r = c.args.store.now in
    let s = c.same_truth.new.store in
    let t = c.conj.new.self in
    let x = c.args.self in
    let y = c.args.other in
    let a = c.in_ok-alike.alike in
    let e = c.in_err-both.field-0.0 in
    let second = made_two s t c.in_err-both.ensures.store c.in_err-both.ensures.kept (Err e) (λ p q. p && q) y.present a c.in_err-both.ensures.value c.in_err-both.ensures.spends in
    let both = makes_then 2 1 (SpanAll r.nodes (x.present ∷ x.truth ∷ y.present ∷ y.truth ∷ [])) (SpanAll r.nodes (y.truth ∷ x.truth ∷ [])) (SpanAll s.nodes (y.present ∷ a ∷ [])) r s t itself itself a (Err e)
    c.in_ok-alike.ensures.made second (λ vs wide. (wide.1.1.1.0, (wide.1.0, tt))) (λ vs wide spans. (Spans-kept r s c.in_ok-alike.ensures.made.kept y.present c.requires.other.0 vs wide.1.1.0, spans)) in
    makes_err 3 5 (SpanAll r.nodes (x.present ∷ x.truth ∷ y.present ∷ y.truth ∷ [])) (SpanAll r.nodes (x.present ∷ x.truth ∷ y.present ∷ y.truth ∷ [])) r t itself itself e c.from_residual-in_err-both.result
    both (omega arith) (λ vs wide. wide) c.from_residual-in_err-both.ensures.1

pub returns-in_err-neither-clause-made : goal.returns-in_err-neither-clause-made
returns-in_err-neither-clause-made c =
    let r = c.args.store.now in
    let s = c.same_truth.new.store in
    let t = c.conj.new.self in
    let u = c.negate.new.self in
    let x = c.args.self in
    let y = c.args.other in
    let a = c.in_ok-alike.alike in
    let b = c.in_ok-both.both in
    let e = c.in_err-neither.field-0.0 in
    let kept = c.in_ok-alike.ensures.made.kept in
    let second = made_two s t c.in_ok-both.ensures.store c.in_ok-both.ensures.kept (Ok b) (λ p q. p && q) y.present a c.in_ok-both.ensures.value c.in_ok-both.ensures.spends in
    let third = made_one t u c.in_err-neither.ensures.store c.in_err-neither.ensures.kept (Err e) not y.present c.in_err-neither.ensures.value c.in_err-neither.ensures.spends in
    let both = makes_then 2 1 (SpanAll r.nodes (x.present ∷ x.truth ∷ y.present ∷ y.truth ∷ [])) (SpanAll r.nodes (y.truth ∷ x.truth ∷ [])) (SpanAll s.nodes (y.present ∷ a ∷ [])) r s t itself itself a (Ok b)
    c.in_ok-alike.ensures.made second (λ vs wide. (wide.1.1.1.0, (wide.1.0, tt))) (λ vs wide spans. (Spans-kept r s kept y.present c.requires.other.0 vs wide.1.1.0, spans)) in
    let all = makes_then 3 1 (SpanAll r.nodes (x.present ∷ x.truth ∷ y.present ∷ y.truth ∷ [])) (SpanAll r.nodes (x.present ∷ x.truth ∷ y.present ∷ y.truth ∷ [])) (SpanAll t.nodes (y.present ∷ [])) r t u itself itself b (Err e)
    both third (λ vs wide. wide) (λ vs wide spans. (Spans-kept r t (Keeps-trans r s t kept c.in_ok-both.ensures.kept) y.present c.requires.other.0 vs wide.1.1.0, tt)) in
    makes_err 4 5 (SpanAll r.nodes (x.present ∷ x.truth ∷ y.present ∷ y.truth ∷ [])) (SpanAll r.nodes (x.present ∷ x.truth ∷ y.present ∷ y.truth ∷ [])) r u itself itself e c.from_residual-in_err-neither.result
    all (omega arith) (λ vs wide. wide) c.from_residual-in_err-neither.ensures.1

pub returns-clause-made : goal.returns-clause-made
returns-clause-made c =
    let r = c.args.store.now in
    let s = c.same_truth.new.store in
    let t = c.conj.new.self in
    let u = c.negate.new.self in
    let v = c.ite.new.self in
    let x = c.args.self in
    let y = c.args.other in
    let a = c.in_ok-alike.alike in
    let b = c.in_ok-both.both in
    let n = c.in_ok-neither.neither in
    let kept = c.in_ok-alike.ensures.made.kept in
    let to_t = Keeps-trans r s t kept c.in_ok-both.ensures.kept in
    let later = c.in_ok-neither.ensures.kept in
    let second = made_two s t c.in_ok-both.ensures.store c.in_ok-both.ensures.kept (Ok b) (λ p q. p && q) y.present a c.in_ok-both.ensures.value c.in_ok-both.ensures.spends in
    let third = made_one t u c.in_ok-neither.ensures.store later (Ok n) not y.present c.in_ok-neither.ensures.value c.in_ok-neither.ensures.spends in
    let fourth = made_choice u v c.ite.ensures.store c.ite.ensures.kept c.ite.result x.present b n c.ite.ensures.value c.ite.ensures.spends in
    let both = makes_then 2 1 (SpanAll r.nodes (x.present ∷ x.truth ∷ y.present ∷ y.truth ∷ [])) (SpanAll r.nodes (y.truth ∷ x.truth ∷ [])) (SpanAll s.nodes (y.present ∷ a ∷ [])) r s t itself itself a (Ok b)
    c.in_ok-alike.ensures.made second (λ vs wide. (wide.1.1.1.0, (wide.1.0, tt))) (λ vs wide spans. (Spans-kept r s kept y.present c.requires.other.0 vs wide.1.1.0, spans)) in
    let all = makes_then 3 1 (SpanAll r.nodes (x.present ∷ x.truth ∷ y.present ∷ y.truth ∷ [])) (SpanAll r.nodes (x.present ∷ x.truth ∷ y.present ∷ y.truth ∷ [])) (SpanAll t.nodes (y.present ∷ [])) r t u itself itself b (Ok n)
    both third (λ vs wide. wide) (λ vs wide spans. (Spans-kept r t to_t y.present c.requires.other.0 vs wide.1.1.0, tt)) in
    makes_then 4 1 (SpanAll r.nodes (x.present ∷ x.truth ∷ y.present ∷ y.truth ∷ [])) (SpanAll r.nodes (x.present ∷ x.truth ∷ y.present ∷ y.truth ∷ [])) (SpanAll u.nodes (x.present ∷ b ∷ n ∷ [])) r u v itself itself n c.ite.result
    all fourth (λ vs wide. wide)
    (λ vs wide spans.
    let of_b = makes_spans 3 (SpanAll r.nodes (x.present ∷ x.truth ∷ y.present ∷ y.truth ∷ [])) r t itself b both vs wide in
    (Spans-kept r u (Keeps-trans r t u to_t later) x.present c.requires.held.0 vs wide.0, (Spans-kept t u later b c.in_ok-both.ensures.value.holds vs of_b.0, spans)))

pub returns-clause-value : goal.returns-clause-value
returns-clause-value c =
    let r = c.args.store.now in
    let s = c.same_truth.new.store in
    let t = c.conj.new.self in
    let u = c.negate.new.self in
    let x = c.args.self in
    let y = c.args.other in
    let kept = c.in_ok-alike.ensures.made.kept in
    let to_t = Keeps-trans r s t kept c.in_ok-both.ensures.kept in
    let later = c.in_ok-neither.ensures.kept in
    IfOk-weaker c.ite.result _ _ (λ h is truths.
    is.function truths
    ∙ (λ j. if test_kept r u (Keeps-trans r t u to_t later) x.present c.requires.held.0 truths j then (test_kept t u later c.in_ok-both.both c.in_ok-both.ensures.value.holds truths
    ∙ c.in_ok-both.ensures.value.function truths ∙ (λ i. test_kept r s kept y.present c.requires.other.0 truths i && c.in_ok-alike.ensures.value truths i)
    ∙ conj_is_choice (test r.nodes y.present truths) (same_truth (test r.nodes y.truth truths) (test r.nodes x.truth truths))) j
    else (c.in_ok-neither.ensures.value.function truths ∙ ap not (test_kept r t to_t y.present c.requires.other.0 truths)) j)
    ∙ same_is (test r.nodes x.present truths) (test r.nodes x.truth truths) (test r.nodes y.present truths) (test r.nodes y.truth truths)) c.ite.ensures.value

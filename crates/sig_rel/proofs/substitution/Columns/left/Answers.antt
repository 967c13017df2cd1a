use Rattle.sig_rel.proofs.{◌+◌, ◌*◌, [], ◌∷◌, Ok, Err, length, ◌∙◌, arith, Spans-kept, classes_below, left_refs, itself, SpanColumns, makes_err, makes_ok, makes_spans, makes_then, columns_span, some_of_kept, HoldAll-kept, test_kept}
use Rattle.sig_rel.proofs.substitution.Columns.left.Goals as goal

pub returns-in_err-residue-clause-made : goal.returns-in_err-residue-clause-made
returns-in_err-residue-clause-made c =
    let r = c.args.store.now in
    let u = c.args.self.now in
    let m = 11 * length c.args.kernel.now.equations in
    let n = classes_below c.args.least.now (length c.args.least.now) in
    makes_err m (m + n) (SpanColumns r.nodes u) (SpanColumns r.nodes u) r c.residue.new.store itself left_refs c.in_err-residue.field-0.0 c.from_residual.result
    c.in_err-residue.ensures.made (omega arith) (λ vs wide. wide) c.from_residual.ensures.1

pub returns-in_err-speaks-clause-made : goal.returns-in_err-speaks-clause-made
returns-in_err-speaks-clause-made c =
    let r = c.args.store.now in
    let s = c.residue.new.store in
    let t = c.some_present.new.store in
    let u = c.args.self.now in
    let m = 11 * length c.args.kernel.now.equations in
    let n = classes_below c.args.least.now (length c.args.least.now) in
    let x = c.in_ok-residue.residue in
    let e = c.in_err-speaks.field-0.0 in
    let first = c.in_ok-residue.ensures.made in
    makes_err (m + n) (m + n) (SpanColumns r.nodes u) (SpanColumns r.nodes u) r t itself left_refs e c.from_residual-in_err-speaks.result
    (makes_then m n (SpanColumns r.nodes u) (SpanColumns r.nodes u) (SpanColumns s.nodes u) r s t itself itself x (Err e) first c.in_err-speaks.ensures.made (λ vs wide. wide)
    (λ vs wide spans. columns_span r s first.kept u c.requires.hold vs wide)) (omega arith) (λ vs wide. wide) c.from_residual-in_err-speaks.ensures.1

pub returns-clause-made : goal.returns-clause-made
returns-clause-made c =
    let r = c.args.store.now in
    let s = c.residue.new.store in
    let t = c.some_present.new.store in
    let u = c.args.self.now in
    let m = 11 * length c.args.kernel.now.equations in
    let n = classes_below c.args.least.now (length c.args.least.now) in
    let x = c.in_ok-residue.residue in
    let y = c.in_ok-speaks.speaks in
    let first = c.in_ok-residue.ensures.made in
    let second = c.in_ok-speaks.ensures.made in
    let both = makes_then m n (SpanColumns r.nodes u) (SpanColumns r.nodes u) (SpanColumns s.nodes u) r s t itself itself x (Ok y) first second (λ vs wide. wide)
    (λ vs wide spans. columns_span r s first.kept u c.requires.hold vs wide) in
    makes_ok (m + n) (SpanColumns r.nodes u) r t itself left_refs y (record { residue = x; speaks = y }) both
    ((HoldAll-kept s t second.kept (x ∷ []) first.held).0, second.held)
    (λ vs wide spans.
    let of_x = makes_spans m (SpanColumns r.nodes u) r s itself x first vs wide in
    (Spans-kept s t second.kept x first.held.0 vs of_x.0, spans))

pub returns-clause-residue : goal.returns-clause-residue
returns-clause-residue c truths =
    test_kept c.residue.new.store c.some_present.new.store c.in_ok-speaks.ensures.made.kept c.in_ok-residue.residue c.in_ok-residue.ensures.made.held.0 truths ∙ c.in_ok-residue.ensures.value truths

pub returns-clause-speaks : goal.returns-clause-speaks
returns-clause-speaks c =
    some_of_kept c.args.store.now c.residue.new.store c.in_ok-residue.ensures.made.kept c.some_present.new.store.nodes c.args.least.now c.args.self.now c.requires.hold c.in_ok-speaks.speaks c.in_ok-speaks.ensures.value

use Rattle.sig_rel.proofs.{◌*◌, ◌∙◌, itself, SpanColumns, given_by, no_ref, step_at, values_at, made_none, makes_spans, element_made, element_refused, is_written, not_written}
use Rattle.sig_rel.proofs.substitution.Columns.write.Goals as goal

pub returns-in_err-value-in-Some-clause-made : goal.returns-in_err-value-in-Some-clause-made
returns-in_err-value-in-Some-clause-made c =
    let s = c.args.store.now in
    element_refused c.args.kernel.now c.args.rules.now c.args.element c.in-Some.form.now c.in-Some.ensures s c.value.new.store (SpanColumns s.nodes c.args.self.now) c.in_err-value-in-Some.field-0.0 c.from_residual.result c.in_err-value-in-Some.ensures.made c.from_residual.ensures.1

pub returns-in_ok-value-in-Some-clause-made : goal.returns-in_ok-value-in-Some-clause-made
returns-in_ok-value-in-Some-clause-made c =
    let s = c.args.store.now in
    element_made c.args.kernel.now c.args.rules.now c.args.element c.in-Some.form.now c.in-Some.ensures s c.value.new.store (SpanColumns s.nodes c.args.self.now) c.in_ok-value-in-Some.value c.in_ok-value-in-Some.ensures.made

pub returns-in_ok-value-in-Some-clause-written : goal.returns-in_ok-value-in-Some-clause-written
returns-in_ok-value-in-Some-clause-written c =
    let s = c.args.store.now in
    let made = c.in_ok-value-in-Some.ensures.made in
    let given = c.in-Some.ensures in
    is_written c.args.kernel.now c.args.rules.now s c.args.self.now c.requires.hold c.args.element c.value.new.store made.kept c.set.new.self c.in_ok-value-in-Some.value c.set.ensures made.held.0
    (λ vs span. (makes_spans 3 (SpanColumns s.nodes c.args.self.now) s c.value.new.store itself c.in_ok-value-in-Some.value made vs span).0) given.0 c.in-Some.form.now given.1
    (λ truths b told. c.in_ok-value-in-Some.ensures.value truths b ((λ j. given_by (c.as_slice-signals.ensures j) (c.as_slice.ensures.value j) (values_at s.nodes c.args.self.now truths) c.in-Some.form.now c.args.element) ∙ told))

pub returns-in-None-clause-made : goal.returns-in-None-clause-made
returns-in-None-clause-made c =
    let s = c.args.store.now in
    made_none (3 * step_at c.args.rules.now c.args.element) (SpanColumns s.nodes c.args.self.now) s no_ref tt c.requires.store tt (λ vs wide. tt)

pub returns-in-None-clause-written : goal.returns-in-None-clause-written
returns-in-None-clause-written c = not_written c.args.kernel.now c.args.rules.now c.args.store.now c.args.self.now c.requires.hold c.args.element c.in-None.ensures

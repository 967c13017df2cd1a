use Rattle.sig_rel.proofs.{[], ◌∷◌, arith, ap, sym, ◌∙◌, IfOk-weaker, SpanAll, truth_by_form, itself, SpanColumns, operand_at, values_at, presence_spans, truth_spans, made_choice, makes_wider}
use Rattle.sig_rel.specs.inner.TruthFunctions.{truth_given}
use Rattle.sig_rel.proofs.substitution.Columns.truth.Goals as goal

pub returns-in-Fun-clause-value : goal.returns-in-Fun-clause-value
returns-in-Fun-clause-value c =
    let nodes = c.args.store.now.nodes in
    let u = c.args.self.now in
    IfOk-weaker c.function.result _ _ (λ h gives truths b told.
    gives truths b (ap (λ os. truth_given c.args.signals.now c.in-Fun.op os (operand_at nodes u truths)) c.as_slice.ensures ∙ sym (ap (truth_by_form c.args.signals.now c.args.least.now (values_at nodes u truths)) c.in-Fun.is) ∙ told))
    c.function.ensures.value

pub returns-in-Default-clause-made : goal.returns-in-Default-clause-made
returns-in-Default-clause-made c =
    let r = c.args.store.now in
    let u = c.args.self.now in
    let p = c.present_of-present.result in
    let f = c.truth_of-first.result in
    let g = c.truth_of-second.result in
    makes_wider 1 3 (SpanColumns r.nodes u) (SpanAll r.nodes (p ∷ f ∷ g ∷ [])) r c.ite.new.self itself c.ite.result
    (made_choice r c.ite.new.self c.ite.ensures.store c.ite.ensures.kept c.ite.result p f g c.ite.ensures.value c.ite.ensures.spends) (omega arith)
    (λ vs span. (presence_spans r.nodes u vs span p _ c.present_of-present.ensures, (truth_spans r.nodes u vs span f _ c.truth_of-first.ensures, (truth_spans r.nodes u vs span g _ c.truth_of-second.ensures, tt))))

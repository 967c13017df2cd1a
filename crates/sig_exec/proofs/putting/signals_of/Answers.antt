use Rattle.sig_exec.proofs.{◌≡◌, ◌+◌, ◌∷◌, [], ◌∙◌, ℕ, List, Some, slice_get, length, length-append, ap, sym, subst, AreOutputsOfFirst, Signal, outputs_more}
use Rattle.sig_exec.proofs.putting.signals_of.Goals as goal

pub loop-output-preserved : goal.loop-output-preserved
loop-output-preserved c =
    let image = c.args.image.now in
    let own = c.loop-output.signals.items in
    let output = c.loop-output.output in
    let made : Signal = c.in_ok-output_of.field-0 in
    let there : slice_get image.signals (image.inputs + output) ≡ Some c.signal_at.result.now =
    ap (λ (n : ℕ). slice_get image.signals (n + output)) (sym {A = ℕ} c.inputs_of-inputs.ensures) ∙ c.signal_at.ensures in
    record {
      count = ap (λ (l : List Signal). length l) c.in_ok-push.ensures.items ∙ length-append own (made ∷ []) ∙ ap (λ (n : ℕ). n + 1) c.loop-output.invariant.count;
      each = subst (AreOutputsOfFirst image) (sym {A = List Signal} c.in_ok-push.ensures.items)
          (outputs_more image own output c.loop-output.invariant.count c.loop-output.invariant.each made c.signal_at.result.now there c.in_ok-output_of.ensures);
    }

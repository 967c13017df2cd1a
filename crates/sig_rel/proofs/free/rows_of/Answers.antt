use Rattle.sig_rel.proofs.{◌++◌, ◌∷◌, [], ◌∙◌, ℕ, sym, ap, arith, map-range_with_len_more, slice_index, present_at, truth_ref}
use Rattle.sig_rel.proofs.free.rows_of.Goals as goal

pub loop-signal-preserved : goal.loop-signal-preserved
loop-signal-preserved c =
    let k = c.loop-signal.signal in
    let columns = c.args.columns.now in
    let here = c.present_at.ensures ∙ ap (present_at columns) (c.least_of.ensures ∙ ap (λ least. slice_index least k) c.as_slice-least.ensures.value) in
    record {
      present = c.in_ok-push.ensures.items ∙ (λ j. c.loop-signal.invariant.present j ++ here j ∷ [])
          ∙ sym (map-range_with_len_more (λ (signal : ℕ). present_at columns (slice_index c.args.rules.now.least.items signal)) 0 k k (omega arith));
      truth = c.in_ok-push-2.ensures.items ∙ (λ j. c.loop-signal.invariant.truth j ++ c.truth_of.ensures j ∷ [])
          ∙ sym (map-range_with_len_more (truth_ref c.args.kernel.now c.args.rules.now columns) 0 k k (omega arith));
    }

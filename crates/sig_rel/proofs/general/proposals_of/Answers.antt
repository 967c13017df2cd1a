use Rattle.sig_rel.proofs.{ℕ, List, Option, ap, arith, get_or, ◌∙◌, slice_get, SigId, number_of, mapped_more}
use Rattle.sig_rel.proofs.general.proposals_of.Goals as goal

pub loop-condition-preserved : goal.loop-condition-preserved
loop-condition-preserved c =
    let here = c.number_in.ensures ∙ ap (λ (rows : List (Option ℕ)). number_of (slice_get rows (get_or c.args.conditions.now c.loop-condition.condition-index (record { 0 = 0 })).0)) c.as_slice.ensures.value in
    mapped_more (λ (condition : SigId). number_of (slice_get c.args.unknowns.now.truth.items condition.0)) c.args.conditions.now c.loop-condition.condition-index (record { 0 = 0 }) c.loop-condition.proposals.items _ c.number_in.result
    (omega (arith, c.loop-condition-test.true)) c.loop-condition.invariant here c.in_ok-push.ensures.items

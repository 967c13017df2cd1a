use Rattle.sig_rel.proofs.{ℕ, List, Option, ap, arith, get_or, ◌∙◌, slice_get, number_of, mapped_more}
use Rattle.sig_rel.proofs.numbering.Numbering.presences.Goals as goal

pub loop-class-preserved : goal.loop-class-preserved
loop-class-preserved c =
    let here = c.number_in.ensures ∙ ap (λ (rows : List (Option ℕ)). number_of (slice_get rows (get_or c.args.least.now c.loop-class.class-index 0))) c.as_slice.ensures.value in
    mapped_more (λ (class : ℕ). number_of (slice_get c.args.self.now.class.items class)) c.args.least.now c.loop-class.class-index 0 c.loop-class.present.items _ c.number_in.result
    (omega (arith, c.loop-class-test.true)) c.loop-class.invariant here c.in_ok-push.ensures.items

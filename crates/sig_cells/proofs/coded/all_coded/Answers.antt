use Rattle.sig_cells.proofs.{◌≡◌, ◌+◌, ◌∷◌, [], ◌∙◌, ap, refl, sym, subst, length, length-append, slice_get, slice_get_read, Some, ℕ, arith, ArePairs, pairs_push, IsCoded}
use Rattle.sig_cells.proofs.coded.all_coded.Goals as goal

pub loop-place-preserved : goal.loop-place-preserved
loop-place-preserved c =
    let instructions = c.args.instructions.now.items in
    let coded = c.loop-place.coded.items in
    let one = c.coded_of.result in
    let instruction = c.index-instruction.result.now in
    let test = c.loop-place-test.true in
    let at = slice_get_read instructions (length instructions) c.loop-place.place instruction refl (omega (arith, test)) c.index-instruction.ensures in
    record {
      count = ap length c.in_ok-push.ensures.items ∙ length-append coded (one ∷ []) ∙ ap (λ (n : ℕ). n + 1) c.loop-place.invariant.count;
      each = subst (ArePairs (λ _. IsCoded) instructions) (sym c.in_ok-push.ensures.items)
          (pairs_push (λ _. IsCoded) instructions coded instruction one c.loop-place.invariant.each (subst (λ n. slice_get instructions n ≡ Some instruction) (sym c.loop-place.invariant.count) at) c.coded_of.ensures);
    }

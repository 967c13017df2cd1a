use Rattle.sig_exec.proofs.{◌≡◌, ◌+◌, ◌∷◌, [], ◌∙◌, ap, sym, subst, arith, length, length-append, List, ℕ, Some, slice_get, AreForFirst, Instruction, grows_longer, grows_then, one_more}
use Rattle.sig_exec.proofs.lowering.instructions_of.Goals as goal

pub loop-place-preserved : goal.loop-place-preserved
loop-place-preserved c =
    let image = c.args.image.now in
    let old = c.loop-place.cells.items in
    let new = c.instruction_of.new.cells.items in
    let instructions = c.loop-place.instructions.items in
    let instruction : Instruction = c.in_ok-instruction_of.field-0 in
    let op = c.op_at.result.now in
    let at = subst (λ (n : ℕ). slice_get image.ops n ≡ Some op) (sym c.loop-place.invariant.count) c.op_at.ensures.is in
    let grows = c.in_ok-instruction_of.ensures.grows in
    record {
      count = ap (λ (l : List Instruction). length l) c.in_ok-push.ensures.items ∙ length-append instructions (instruction ∷ []) ∙ ap (λ (n : ℕ). n + 1) c.loop-place.invariant.count;
      each = subst (AreForFirst image new) (sym c.in_ok-push.ensures.items) (one_more image old new instructions instruction op c.loop-place.invariant.each grows at c.in_ok-instruction_of.ensures.is);
      grows = grows_then c.args.cells.now.items old new c.loop-place.invariant.grows grows;
      room = let longer = grows_longer old new grows in let room = c.loop-place.invariant.room in omega (arith, longer, room);
    }

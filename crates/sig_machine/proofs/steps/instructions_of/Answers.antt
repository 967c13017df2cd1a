use Rattle.sig_machine.proofs.{◌≡◌, ◌+◌, ◌++◌, ◌∷◌, [], ◌∙◌, ap, arith, append_assoc, sym, subst, length, length-append, slice_get, Some, ℕ, ℤ, List, AreForSteps, AreInstructionsWithin, one_more_step, one_more_within}
use Rattle.sig_machine.proofs.steps.instructions_of.Goals as goal

pub instruction_of-requires : goal.instruction_of-requires
instruction_of-requires c =
    let (more, grown) = c.loop-number.invariant.grows in
    let longer = ap length grown ∙ length-append c.args.cells.now.items more in
    omega (arith, c.requires, longer)

pub loop-number-preserved : goal.loop-number-preserved
loop-number-preserved c =
    let plan = c.args.plan.now in
    let old = c.loop-number.cells.items in
    let new = c.instruction_of.new.cells.items in
    let instructions = c.loop-number.instructions.items in
    let instruction = c.in_ok-instruction.instruction in
    let (more, grown) = c.loop-number.invariant.grows in
    let (rest, all) = c.in_ok-instruction.ensures.grows in
    let here : slice_get c.args.steps.now (length instructions) ≡ Some c.step_in-step.result = subst (λ n. slice_get c.args.steps.now n ≡ Some c.step_in-step.result) (sym c.loop-number.invariant.count) c.step_in-step.ensures in
    record {
      grows = (more ++ rest, all ∙ ap (λ (xs : List ℤ). xs ++ rest) grown ∙ append_assoc c.args.cells.now.items more rest);
      count = ap length c.in_ok-push.ensures.items ∙ length-append instructions (instruction ∷ []) ∙ ap (λ (n : ℕ). n + 1) c.loop-number.invariant.count;
      each = subst (AreForSteps plan c.args.steps.now new) (sym c.in_ok-push.ensures.items)
          (one_more_step plan c.args.steps.now old new instructions c.step_in-step.result instruction c.loop-number.invariant.each c.in_ok-instruction.ensures.grows here c.in_ok-instruction.ensures.is);
      within = λ some. subst (AreInstructionsWithin plan.kernel.inputs (length new)) (sym c.in_ok-push.ensures.items)
          (one_more_within plan.kernel.inputs old new instructions instruction (c.loop-number.invariant.within some) c.in_ok-instruction.ensures.grows
          (c.in_ok-instruction.ensures.within (let longer = ap length grown ∙ length-append c.args.cells.now.items more in omega (arith, some, longer))));
    }

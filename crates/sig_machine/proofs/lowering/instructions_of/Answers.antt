use Rattle.sig_machine.proofs.{◌≡◌, ◌+◌, ◌++◌, ◌∷◌, [], ◌∙◌, ap, sym, subst, append_assoc, arith, length, length-append, List, ℕ, ℤ, OpId, Kernel, StandsAt, Instruction, AreForFirst, one_more}
use Rattle.sig_machine.proofs.lowering.instructions_of.Goals as goal

pub loop-place-preserved : goal.loop-place-preserved
loop-place-preserved c =
    let plan = c.args.plan.now in
    let kernel = c.kernel_of-kernel.result.now in
    let old = c.loop-place.cells.items in
    let new = c.work_of.new.cells.items in
    let instructions = c.loop-place.instructions.items in
    let instruction : Instruction = record { work = c.in_ok-work.work; target = c.target_of-target.result } in
    let op = c.op_at-op.result.now in
    let (more, grown) = c.loop-place.invariant.grows in
    let (rest, all) = c.in_ok-work.ensures.grows in
    let stands = subst (λ (n : ℕ). StandsAt plan n op) (sym c.loop-place.invariant.count) c.op_at-op.ensures.op in
    record {
      count = ap length c.in_ok-push.ensures.items ∙ length-append instructions (instruction ∷ []) ∙ ap (λ (n : ℕ). n + 1) c.loop-place.invariant.count;
      grows = (more ++ rest, all ∙ ap (λ (xs : List ℤ). xs ++ rest) grown ∙ append_assoc c.args.cells.now.items more rest);
      each = subst (AreForFirst plan kernel new) (sym c.in_ok-push.ensures.items)
          (one_more plan kernel old new instructions instruction op c.loop-place.invariant.each c.in_ok-work.ensures.grows stands (record { target = c.target_of-target.ensures; work = c.in_ok-work.ensures.work }));
    }

pub returns-clause-each : goal.returns-clause-each
returns-clause-each c =
    let plan = c.args.plan.now in
    let kernel = c.kernel_of-kernel.result.now in
    let cells = c.loop-place.cells.items in
    let instructions = c.loop-place.instructions.items in
    let all : length c.order_of-place-end.result.now ≡ length plan.order = ap (λ (order : List OpId). length order) c.order_of-place-end.ensures in
    let end = c.loop-place.auto.place-end in
    let test = c.loop-place-test.false in
    record {
      count = omega (arith, end, test, all, c.loop-place.invariant.count);
      each = subst (λ (k : Kernel). AreForFirst plan k cells instructions) c.kernel_of-kernel.ensures.kernel c.loop-place.invariant.each;
    }

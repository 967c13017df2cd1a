use Rattle.sig_machine.proofs.{◌≡◌, ◌+◌, ◌∙◌, ◌++◌, ◌∷◌, [], pos, ℤ, Option, Instruction, AreNextTold, cell, cell_front, code_of, listed, ap, arith, sym, subst, false, length, length-append, replicate, ℕ, List, SigId, Kernel, Step, initial_in, memories_at, memories_stay, conditions_differ, conditions_within, opens, opens_as, outside, AreDifferent, AreForSteps, AreOwnBelow, AreVariables, AreWithin, WritesOwn, ActorMachine}
use Rattle.sig_machine.proofs.actor.ActorMachine.new.Goals as goal

-- so many signals, twice
abbrev twice : Kernel → ℕ
twice kernel = length kernel.signals + length kernel.signals

pub instructions_of-requires : goal.instructions_of-requires
instructions_of-requires c =
    let count = c.in_ok-cells.ensures.count in
    let same = ap twice c.kernel_of-kernel.ensures.kernel in
    let pushed = ap length c.in_ok-push.ensures.items ∙ length-append c.in_ok-cells.cells.items (pos 0 ∷ []) in
    omega (arith, count, same, pushed)

pub variables_of-requires-clause-within : goal.variables_of-requires-clause-within
variables_of-requires-clause-within c =
    let plan = c.args.plan.now in
    let count : length c.as_slice-signals.result.now ≡ length plan.kernel.signals = ap length c.as_slice-signals.ensures ∙ ap (λ (k : Kernel). length k.signals) c.kernel_of-kernel.ensures.kernel in
    subst (λ (n : ℕ). AreWithin n c.conditions_of-conditions.result.now) (sym count)
    (subst (λ (cs : List SigId). AreWithin (length plan.kernel.signals) cs) (sym c.conditions_of-conditions.ensures)
    (conditions_within plan.kernel plan.clocks.conditions c.kernel_of-kernel.ensures.accepted.clocks.conditions))

pub variables_of-requires-clause-differ : goal.variables_of-requires-clause-differ
variables_of-requires-clause-differ c =
    let plan = c.args.plan.now in
    subst (λ (cs : List SigId). AreDifferent cs) (sym c.conditions_of-conditions.ensures)
    (conditions_differ plan.kernel plan.clocks.conditions c.kernel_of-kernel.ensures.accepted.clocks.conditions)

pub returns-clause-machine : goal.returns-clause-machine
returns-clause-machine c =
    let plan = c.args.plan.now in
    let count : length c.as_slice-signals.result.now ≡ length plan.kernel.signals = ap length c.as_slice-signals.ensures ∙ ap (λ (k : Kernel). length k.signals) c.kernel_of-kernel.ensures.kernel in
    let first = c.in_ok-cells.cells.items in
    let cells = c.instructions_of.new.cells.items in
    let (more, grown) = c.in_ok-listed.ensures.grows in
    let pushed : c.push.new.self.items ≡ first ++ pos 0 ∷ [] = c.in_ok-push.ensures.items in
    let one = ap length pushed ∙ length-append first (pos 0 ∷ []) in
    let longer = ap length grown ∙ length-append c.push.new.self.items more in
    let all = c.in_ok-cells.ensures.count in
    let same = ap twice c.kernel_of-kernel.ensures.kernel in
    let same_count = ap (λ (k : Kernel). length k.signals) c.kernel_of-kernel.ensures.kernel in
    let a : ActorMachine = record { machine = c.in_ok-machine.machine; own = c.own_of-own.result; last = c.in_ok-last.last; instructions = c.in_ok-instructions.instructions; next_told = c.in_ok-next_told.next_told; variables = c.in_ok-variables.variables; truths = c.in_ok-truths.truths } in
    let listed_is : listed a.instructions ≡ c.in_ok-listed.listed.items = c.in_ok-instructions.ensures.listed in
    outside plan c.args.actor c.args.inputs.now a (opens plan c.kernel_of-kernel.ensures.accepted c.args.actor c.args.inputs.now c.requires.fits a cells
    (c.in_ok-machine.ensures.signals ∙ count) c.in_ok-machine.ensures.instant c.in_ok-machine.ensures.cells c.in_ok-machine.ensures.stamps
    (c.in_ok-machine.ensures.taken ∙ ap (λ (n : ℕ). replicate n 0) (ap length c.as_slice-4.ensures))
    (omega (arith, longer, all, same, one))
    (λ signal below.
    ap (λ (xs : List ℤ). cell xs signal) grown ∙ cell_front c.push.new.self.items more signal (omega (arith, below, one, all, same_count))
    ∙ ap (λ (xs : List ℤ). cell xs signal) pushed ∙ cell_front first (pos 0 ∷ []) signal (omega (arith, below, all, same_count))
    ∙ c.in_ok-cells.ensures.zero signal (omega (arith, below, same_count)))
    (let a = c.in_ok-last.ensures.count in let b = c.len.ensures in let d = c.instructions_of.new.cells.ok.0 in omega (arith, a, b, d))
    (subst (λ (k : Kernel). AreOwnBelow (length k.signals) a.own) c.kernel_of-kernel.ensures.kernel c.own_of-own.ensures.below)
    (subst (λ (instructions : List Instruction). WritesOwn a.own (length plan.kernel.signals) instructions) (sym listed_is)
    (subst (λ (k : Kernel). WritesOwn a.own (length k.signals) c.in_ok-listed.listed.items) c.kernel_of-kernel.ensures.kernel
    (subst (λ (instructions : List Instruction). WritesOwn a.own (length c.kernel_of-kernel.result.now.signals) instructions) c.as_slice-3.ensures.value c.own_of-own.ensures.targets)))
    (c.in_ok-instructions.ensures.within plan.kernel.inputs (length cells) (c.in_ok-listed.ensures.within (omega (arith, one))))
    (ap length listed_is ∙ c.in_ok-listed.ensures.count ∙ ap length c.steps_of.ensures)
    (subst (λ (instructions : List Instruction). AreForSteps plan (code_of plan c.args.actor).steps cells instructions) (sym listed_is)
    (subst (λ (steps : List Step). AreForSteps plan steps cells c.in_ok-listed.listed.items) c.steps_of.ensures c.in_ok-listed.ensures.each))
    (subst (λ (n : ℕ). AreVariables plan.clocks.conditions n a.variables.items) count
    (subst (λ (cs : List SigId). AreVariables cs (length c.as_slice-signals.result.now) a.variables.items) c.conditions_of-conditions.ensures c.in_ok-variables.ensures))
    (subst (λ (instructions : List Instruction). AreNextTold instructions a.variables.items a.next_told.items) (sym listed_is)
    (subst (λ (instructions : List Instruction). AreNextTold instructions a.variables.items a.next_told.items) c.as_slice.ensures.value
    (subst (λ (variables : List (Option ℕ)). AreNextTold c.as_slice.result.now variables a.next_told.items) c.as_slice-2.ensures.value c.in_ok-next_told.ensures)))
    (c.in_ok-truths.ensures ∙ ap (λ (cs : List SigId). replicate (length cs) false) c.conditions_of-conditions.ensures))

pub returns-clause-opening : goal.returns-clause-opening
returns-clause-opening c =
    let plan = c.args.plan.now in
    let count : length c.as_slice-signals.result.now ≡ length plan.kernel.signals = ap length c.as_slice-signals.ensures ∙ ap (λ (k : Kernel). length k.signals) c.kernel_of-kernel.ensures.kernel in
    let first = c.in_ok-cells.cells.items in
    let (more, grown) = c.in_ok-listed.ensures.grows in
    let pushed : c.push.new.self.items ≡ first ++ pos 0 ∷ [] = c.in_ok-push.ensures.items in
    let one = ap length pushed ∙ length-append first (pos 0 ∷ []) in
    let all = c.in_ok-cells.ensures.count in
    let same = ap twice c.kernel_of-kernel.ensures.kernel in
    let a : ActorMachine = record { machine = c.in_ok-machine.machine; own = c.own_of-own.result; last = c.in_ok-last.last; instructions = c.in_ok-instructions.instructions; next_told = c.in_ok-next_told.next_told; variables = c.in_ok-variables.variables; truths = c.in_ok-truths.truths } in
    let opening : memories_at (length plan.kernel.signals) first ≡ initial_in plan.kernel.equations =
    subst (λ (k : Kernel). memories_at (length k.signals) first ≡ initial_in k.equations) c.kernel_of-kernel.ensures.kernel c.in_ok-cells.ensures.opening in
    opens_as plan c.kernel_of-kernel.ensures.accepted c.args.actor c.args.inputs.now c.requires.fits a c.instructions_of.new.cells.items
    (c.in_ok-machine.ensures.signals ∙ count) c.in_ok-machine.ensures.instant c.in_ok-machine.ensures.cells c.in_ok-machine.ensures.stamps
    (c.in_ok-machine.ensures.taken ∙ ap (λ (n : ℕ). replicate n 0) (ap length c.as_slice-4.ensures))
    (ap (memories_at (length plan.kernel.signals)) grown ∙ memories_stay c.push.new.self.items more (length plan.kernel.signals) (omega (arith, all, same, one))
    ∙ ap (memories_at (length plan.kernel.signals)) pushed ∙ memories_stay first (pos 0 ∷ []) (length plan.kernel.signals) (omega (arith, all, same)) ∙ opening)

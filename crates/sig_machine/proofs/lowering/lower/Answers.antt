use Rattle.sig_machine.proofs.{◌≡◌, ◌≤◌, ◌+◌, ◌∙◌, ap, sym, subst, arith, length, length-append, List, ℕ, AreConditionsBelow, AreGuards, AreFor, AreGuardsOf, IsCode, Kernel, Node, Ref, Scope, SigId, StoreView, code_guards, code_instructions, conditions_below, initial_in, memories_at, memories_stay, same_scope, scope_of, Instruction}
use Rattle.sig_machine.proofs.lowering.lower.Goals as goal

pub new-requires-clause-guards : goal.new-requires-clause-guards
new-requires-clause-guards c =
    let plan = c.args.plan.now in
    let accepted = c.kernel_of-kernel.ensures.accepted in
    let signals : c.signal_count-signals.result ≡ length plan.kernel.signals = c.signal_count-signals.ensures ∙ ap (λ (k : Kernel). length k.signals) c.kernel_of-kernel.ensures.kernel in
    subst (λ (scope : Scope). AreGuards scope c.as_slice.result.now)
    (sym (same_scope c.store_of.result.now.nodes plan.store.nodes c.conditions_of.result.now plan.clocks.conditions c.signal_count-signals.result (length plan.kernel.signals)
    (ap (λ (s : StoreView). s.nodes) c.store_of.ensures.store) c.conditions_of.ensures signals))
    (code_guards plan accepted c.as_slice.result.now (subst (λ (guards : List Ref). AreGuardsOf plan guards) (sym c.as_slice.ensures.value) c.in_ok-guards.ensures))

pub new-requires-clause-below : goal.new-requires-clause-below
new-requires-clause-below c =
    let plan = c.args.plan.now in
    let accepted = c.kernel_of-kernel.ensures.accepted in
    let signals : c.signal_count-signals.result ≡ length plan.kernel.signals = c.signal_count-signals.ensures ∙ ap (λ (k : Kernel). length k.signals) c.kernel_of-kernel.ensures.kernel in
    subst (λ (n : ℕ). AreConditionsBelow n c.conditions_of.result.now) (sym signals)
    (subst (λ (conditions : List SigId). AreConditionsBelow (length plan.kernel.signals) conditions) (sym c.conditions_of.ensures) (conditions_below plan accepted))

pub returns : goal.returns
returns c =
    let plan = c.args.plan.now in
    let accepted = c.kernel_of-kernel.ensures.accepted in
    let kernel = c.kernel_of-kernel.result.now in
    let same : kernel ≡ plan.kernel = c.kernel_of-kernel.ensures.kernel in
    let signals : c.signal_count-signals.result ≡ length plan.kernel.signals = c.signal_count-signals.ensures ∙ ap (λ (k : Kernel). length k.signals) same in
    let before = c.in_ok-cells.cells.items in
    let cells = c.instructions_of.new.cells.items in
    let (more, grown) = c.in_ok-instructions.ensures.grows in
    let longer : length cells ≡ length before + length more = ap length grown ∙ length-append before more in
    let few : length before ≡ length plan.kernel.signals + length plan.kernel.signals = c.in_ok-cells.ensures.count ∙ ap (λ (k : Kernel). length k.signals + length k.signals) same in
    let room : length plan.kernel.signals + length plan.kernel.signals ≤ length cells = omega (arith, longer, few) in
    let store : c.store_of.result.now.nodes ≡ plan.store.nodes = ap (λ (s : StoreView). s.nodes) c.store_of.ensures.store in
    let code = c.in_ok-code.code in
    record {
      signals = signals;
      cells = omega (arith, room, signals);
      opening =
          ap (λ (n : ℕ). memories_at n cells) c.signal_count-signals.ensures
          ∙ ap (memories_at (length kernel.signals)) grown
          ∙ memories_stay before more (length kernel.signals) (let n = c.in_ok-cells.ensures.count in omega (arith, n))
          ∙ c.in_ok-cells.ensures.opening
          ∙ ap (λ (k : Kernel). initial_in k.equations) same;
      instructions = subst (λ (instructions : List Instruction). AreFor plan cells instructions) (sym c.in_ok-code.ensures.instructions) c.in_ok-instructions.ensures.each;
      guards = subst (λ (guards : List Ref). AreGuardsOf plan guards) (sym (c.in_ok-code.ensures.guards ∙ c.as_slice.ensures.value)) c.in_ok-guards.ensures;
      asks = ap (λ (conditions : List SigId). scope_of plan.store.nodes conditions code.signals) (c.in_ok-code.ensures.conditions ∙ c.conditions_of.ensures)
          ∙ ap (λ (n : ℕ). scope_of plan.store.nodes plan.clocks.conditions n) (c.in_ok-code.ensures.signals ∙ signals);
      code = subst (λ (nodes : List Node). IsCode nodes plan.kernel.inputs (length cells) code) store
          (c.in_ok-code.ensures.code plan.kernel.inputs (length cells) (omega (arith, room, signals))
          (code_instructions plan accepted cells c.in_ok-instructions.instructions.items c.in_ok-instructions.ensures.each room));
    }

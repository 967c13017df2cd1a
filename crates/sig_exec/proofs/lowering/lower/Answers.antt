use Rattle.sig_exec.proofs.{◌≤◌, ◌∙◌, sym, subst, ℕ, List, length, SigId, are_below, are_guards, lowers_by, AreGuards, AreBelow, IsCode, AreWithin}
use Rattle.sig_cells.specs.Guards.{scope_of}
use Rattle.sig_exec.proofs.lowering.lower.Goals as goal

pub new-requires-2-clause-guards : goal.new-requires-2-clause-guards
new-requires-2-clause-guards c =
    let image = c.args.image.now in
    let nodes = c.in_ok-functions.functions.store.nodes in
    subst (AreGuards (scope_of nodes c.conditions_of.result.now c.signal_count.result)) (sym c.as_slice.ensures.value)
    (subst (λ (n : ℕ). AreGuards (scope_of nodes c.conditions_of.result.now n) c.in_ok-guards.guards.items) (sym c.signal_count.ensures)
    (subst (λ (l : List SigId). AreGuards (scope_of nodes l (length image.signals)) c.in_ok-guards.guards.items) (sym c.conditions_of.ensures)
    (are_guards image c.images_are_right.ensures c.in_ok-functions.functions c.in_ok-functions.ensures c.in_ok-guards.guards.items c.in_ok-guards.ensures)))

pub new-requires-2-clause-below : goal.new-requires-2-clause-below
new-requires-2-clause-below c =
    let image = c.args.image.now in
    subst (λ (n : ℕ). AreBelow n c.conditions_of.result.now) (sym c.signal_count.ensures)
    (subst (λ (l : List SigId). AreBelow (length image.signals) l) (sym c.conditions_of.ensures) (are_below image c.images_are_right.ensures))

pub returns : goal.returns
returns c =
    let image = c.args.image.now in
    let made = c.in_ok-code.ensures in
    lowers_by image c.images_are_right.ensures (record { functions = c.in_ok-functions.functions; code = c.in_ok-code.code; cells = c.instructions_of.new.cells }) c.in_ok-cells.cells.items c.in_ok-cells.ensures
    c.in_ok-instructions.ensures.grows c.in_ok-functions.ensures c.in_ok-instructions.instructions.items c.in_ok-instructions.ensures.each c.in_ok-guards.guards.items c.in_ok-guards.ensures
    (made.signals ∙ c.signal_count.ensures) (made.conditions ∙ c.conditions_of.ensures) made.instructions (made.guards ∙ c.as_slice.ensures.value)
    (subst (λ (n : ℕ). (inputs cells : ℕ) → n ≤ cells → AreWithin inputs cells c.in_ok-instructions.instructions.items → IsCode c.in_ok-functions.functions.store.nodes inputs cells c.in_ok-code.code) c.signal_count.ensures made.code)

use Rattle.sig_code.proofs.{[], ◌∷◌, refl, subst, sym, Adds, AreHeld, doing, adds_step, CodeView}
use Rattle.sig_code.proofs.slots.add.Goals as goal

pub returns : goal.returns
returns c =
    let nodes = c.args.store.now.nodes in
    let at = c.args.at in
    let old : CodeView = record { steps = c.code.inside.steps.items; slots = c.code.inside.slots.items } in
    let new : CodeView = record { steps = c.push.new.self.items; slots = c.slot_of.new.slots.items } in
    subst (λ (was : CodeView). Adds nodes (doing nodes at.guard at.pos c.args.kind ∷ []) was new) c.code.view_is
    (adds_step nodes at.guard at.pos c.args.kind c.in_ok-slot.slot old c.slot_of.new.slots.items new c.requires.guard
    (subst (λ (was : CodeView). AreHeld nodes was.slots) (sym c.code.view_is) c.requires.slots) c.in_ok-slot.ensures refl c.in_ok-push.ensures.items)

use Rattle.std.proofs.Common.{◌≡◌, ◌∙◌, ap, length, refl, subst, sym, List, Option, Some}
use Rattle.std.proofs.lemmas.Option.{slice_get_read}
use Rattle.std.specs.Option.{unwrap_or}
use Rattle.std.specs.Prelude.{slice_get}
use Rattle.sig_dd.specs.Nodes.{Holds}
use Rattle.sig_model.specs.Actors.{code_of, no_code}
use Rattle.sig_plan.specs.Codes.{CodeView}
use Rattle.sig_plan.specs.Plans.{PlanView}
use Rattle.sig_plan.specs.declared.code.Slot.{Slot}
use Rattle.sig_tests_actors.proofs.tests.steps.guard_at.Goals as goal

-- the store holds the guard of each slot
pub returns : goal.returns
returns c =
    let plan = c.args.plan.now in
    let slot = c.in_ok-slot.slot.now in
    let slots = c.slots.result.now in
    let first : slice_get plan.codes 0 ≡ Some c.in_ok-code.code.now =
    ap (λ (p : PlanView). slice_get p.codes 0) (sym c.plan.view_is) ∙ ap (λ (l : List CodeView). slice_get l 0) (sym c.deref.ensures.value) ∙ sym c.in_ok-code.ensures.value in
    let code : code_of plan 0 ≡ c.in_ok-code.code.now = ap (λ (o : Option CodeView). unwrap_or o no_code) first in
    let at : slice_get slots c.args.number ≡ Some slot =
    slice_get_read slots (length slots) c.args.number slot refl c.in_ok-slot.ensures.lookup.3.0 c.in_ok-slot.ensures.lookup.1 in
    let there = (c.accepted_plans_are_runnable.ensures plan c.plans_are_accepted.ensures).held 0 c.args.number slot
    (ap (λ (k : CodeView). slice_get k.slots c.args.number) code ∙ ap (λ (l : List Slot). slice_get l c.args.number) (sym c.slots.ensures) ∙ at) in
    subst (λ (p : PlanView). Holds p.store.nodes slot.guard) (sym c.plan.view_is) there

-- What an actor has of signals before a step of its code.
use Rattle.std.specs.Prelude.{◌≡◌, ◌<◌, ◌⊎◌}
use Rattle.sig_plan.specs.Prelude.{ℕ, Bool, true, List, slice_get, Some, SigId, test}
use Rattle.sig_plan.specs.Codes.{CodeView, op_id}
use Rattle.sig_plan.specs.Plans.{PlanView}
use Rattle.sig_plan.specs.declared.code.Slot.{Slot}
use Rattle.sig_plan.specs.declared.code.Step.{Step}
use Rattle.sig_plan.specs.declared.code.StepKind.TheVariants.{Do, Receive}
use Rattle.sig_plan.specs.declared.op.Op.{Op}
use Rattle.sig_plan.specs.declared.parts.LinkInfo.{LinkInfo}

-- the step writes the signal or receives it
abbrev pub Gives : PlanView → SigId → Step → Type 0
Gives plan x step =
    ((number : ℕ) × (op : Op) × (slice_get plan.ops number ≡ Some op) × (op.writes ≡ Some x) × (step.kind ≡ Do (op_id number)))
    ⊎ ((link : ℕ) × (info : LinkInfo) × (slice_get plan.links link ≡ Some info) × (info.signal ≡ Some x) × (step.kind ≡ Receive link))

-- the guard of a step's slot
pub record HasGuard (code : CodeView) (step : Step) (slot : Slot) : Type 0 where
  pub has : slice_get code.slots step.slot ≡ Some slot

-- before the place k of a code a step whose guard holds for the proposal has written or received the signal
pub record HasBefore (plan : PlanView) (code : CodeView) (proposal : List Bool) (k : ℕ) (x : SigId) : Type 0 where
  pub place : ℕ
  pub step : Step
  pub slot : Slot
  pub before : place < k
  pub is : slice_get code.steps place ≡ Some step
  pub guarded : HasGuard code step slot
  pub holds : test plan.store.nodes slot.guard proposal ≡ true
  pub gives : Gives plan x step

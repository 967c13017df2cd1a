-- What every accepted plan gives to those who run it.
use Rattle.std.specs.Prelude.{◌≡◌, ◌<◌}
use Rattle.sig_model.specs.Prelude.{ℕ, length, slice_get, Option, Some, EqId, SigId, Depends, Holds, Implies, test, PlanView, Slot, Step, Op}
use Rattle.sig_model.specs.Actors.{code_of}
use Rattle.sig_model.specs.Operating.{defined_by}
use Rattle.sig_model.specs.Progress.{fills}
use Rattle.sig_model.specs.Turns.{carried}

-- a signal of a plan is there, where there is one
abbrev pub IsThere : PlanView → Option SigId → Type 0
IsThere plan x = (y : SigId) → x ≡ Some y → y.0 < length plan.kernel.signals

-- a step of an actor is in a slot with this guard
pub record IsInSlot (plan : PlanView) (k number : ℕ) (slot : Slot) : Type 0 where
  pub step : Step
  pub is : slice_get (code_of plan k).steps number ≡ Some step
  pub has : slice_get (code_of plan k).slots step.slot ≡ Some slot

-- a step of an actor fills the register of a signal
pub record FillsAt (plan : PlanView) (k number : ℕ) (x : SigId) : Type 0 where
  pub step : Step
  pub is : slice_get (code_of plan k).steps number ≡ Some step
  pub does : fills plan step.kind ≡ Some x

pub record IsRunnable (plan : PlanView) : Type 0 where
  -- operations write signals that are there, links carry such, and equations define such
  pub writes : (number : ℕ) (op : Op) → slice_get plan.ops number ≡ Some op → IsThere plan op.writes
  pub carries : (j : ℕ) → IsThere plan (carried plan.links j)
  pub defines : (e : EqId) → IsThere plan (defined_by plan.kernel e)
  -- each actor has a step, and each step a slot
  pub begins : (k : ℕ) → k < length plan.codes → 0 < length (code_of plan k).steps
  pub slots : (k number : ℕ) (step : Step) → slice_get (code_of plan k).steps number ≡ Some step → step.slot < length (code_of plan k).slots
  -- guards are held by the store and depend on conditions alone
  pub held : (k number : ℕ) (slot : Slot) → slice_get (code_of plan k).slots number ≡ Some slot → Holds plan.store.nodes slot.guard
  pub needs : (k number : ℕ) (slot : Slot) → slice_get (code_of plan k).slots number ≡ Some slot
      → (v : ℕ) → Depends (test plan.store.nodes slot.guard) v → v < length plan.clocks.conditions
  -- a slot is met first behind all that stand before it; a guard implies that of its slot's parent, which stands before it
  pub first : (k number earlier : ℕ) (step : Step) → slice_get (code_of plan k).steps number ≡ Some step → earlier < step.slot
      → (m : ℕ) × (other : Step) × (m < number) × (slice_get (code_of plan k).steps m ≡ Some other) × (other.slot ≡ earlier)
  pub parents : (k number parent : ℕ) (slot : Slot) → slice_get (code_of plan k).slots number ≡ Some slot → slot.parent ≡ Some parent
      → (parent < number) × (above : Slot) × (slice_get (code_of plan k).slots parent ≡ Some above) × Implies plan.store.nodes slot.guard above.guard
  -- a condition that a step's guard needs is filled by earlier steps alone
  pub earlier : (k number filling v : ℕ) (slot : Slot) (condition : SigId) → IsInSlot plan k number slot
      → Depends (test plan.store.nodes slot.guard) v → slice_get plan.clocks.conditions v ≡ Some condition
      → FillsAt plan k filling condition → filling < number

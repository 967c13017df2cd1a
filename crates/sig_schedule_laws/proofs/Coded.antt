-- The code of an actor.
use Rattle.sig_schedule_laws.proofs.Common.{◌≡◌, ◌<◌, ℕ, length, refl, ap, sym, ◌∙◌, Option, None, Some, slice_get, unwrap_or, code_of, no_code, CodeView, PlanView, Slot, Step, some_at}

-- a code that is there is that of its actor
pub code_is : (plan : PlanView) (k : ℕ) (code : CodeView) → slice_get plan.codes k ≡ Some code → code_of plan k ≡ code
code_is plan k code at = ap (λ (o : Option CodeView). unwrap_or o no_code) at

coded : (plan : PlanView) (k : ℕ) (code : CodeView) → slice_get plan.codes k ≡ Some code → slice_get plan.codes k ≡ Some (code_of plan k)
coded plan k code at = at ∙ ap Some (sym (code_is plan k code at))

-- an actor that has a step or a slot has a code
pub step_coded : (plan : PlanView) (k number : ℕ) (step : Step) → slice_get (code_of plan k).steps number ≡ Some step → slice_get plan.codes k ≡ Some (code_of plan k)
step_coded plan k number step there = by (slice_get plan.codes k) refl there where
  by : (o : Option CodeView) → slice_get plan.codes k ≡ o → slice_get (unwrap_or o no_code).steps number ≡ Some step → slice_get plan.codes k ≡ Some (code_of plan k)
  by None at is = absurd (let e : None ≡ Some step = is in cc)
  by (Some code) at is = coded plan k code at

pub slot_coded : (plan : PlanView) (k number : ℕ) (slot : Slot) → slice_get (code_of plan k).slots number ≡ Some slot → slice_get plan.codes k ≡ Some (code_of plan k)
slot_coded plan k number slot there = by (slice_get plan.codes k) refl there where
  by : (o : Option CodeView) → slice_get plan.codes k ≡ o → slice_get (unwrap_or o no_code).slots number ≡ Some slot → slice_get plan.codes k ≡ Some (code_of plan k)
  by None at is = absurd (let e : None ≡ Some slot = is in cc)
  by (Some code) at is = coded plan k code at

-- each number below that of the codes has one
pub actor_coded : (plan : PlanView) (k : ℕ) → k < length plan.codes → slice_get plan.codes k ≡ Some (code_of plan k)
actor_coded plan k lt = let found = some_at plan.codes k lt in coded plan k found.0 found.1

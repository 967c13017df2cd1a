-- What is done at one instant of the reference.
use Rattle.sig_schedule_laws.proofs.Common.{compiled_operations, compiled_order, ◌≡◌, ◌<◌, ℕ, ℤ, Bool, true, List, length, sym, ◌∙◌, Some, is_some, slice_get, Instant, seen_at, SigId, abstraction_of, KeepsTo, Speaks, is_present, Memory, IsNext, compiled, Compiled, own_keeps, own_present, own_speaks, own_written, truths_of, StandsAt, Operation, operations_in, Precedes, Writes, IsAccepted, PlanView, numbers_of, written_by_one, written_present, stands_somewhere, at_contained, slice_get_within}
use Rattle.sig_clock.specs.Reactions.{Reaction}

-- an operation stands at some place
pub stands_of : (plan : PlanView) → IsAccepted plan → (number : ℕ) (p : Operation) → slice_get (operations_in plan.store.nodes plan.ops) number ≡ Some p
    → (j : ℕ) × StandsAt (operations_in plan.store.nodes plan.ops) (numbers_of plan.order) j number p
stands_of plan accepted number p at =
    let operations = operations_in plan.store.nodes plan.ops in
    let there = stands_somewhere (Precedes plan.clocks.conditions operations) (length operations) (numbers_of plan.order) accepted.order number (slice_get_within operations number p at) in
    (there.0, record { place = at_contained (numbers_of plan.order) number there; is = at })

module _ (plan : PlanView) (accepted : IsAccepted plan) (memory : Memory) (next : ℕ → ℤ) (instant : Instant) (is : IsNext plan.kernel memory next instant) where
  abbrev c : Compiled plan.kernel plan.clocks.conditions (compiled_operations plan) (compiled_order plan)
  c = compiled plan accepted

  abbrev own : List Bool
  own = truths_of plan.clocks.conditions (seen_at instant)

  abbrev left : Reaction
  left = abstraction_of plan.kernel.signals instant

  pub speaks : Speaks plan.kernel left
  speaks = own_speaks plan.kernel plan.clocks.conditions (compiled_operations plan) (compiled_order plan) c memory next instant is

  pub keeps : KeepsTo plan.clocks.conditions own left
  keeps = own_keeps plan.kernel plan.clocks.conditions (compiled_operations plan) (compiled_order plan) c memory next instant is

  pub present_is : (x : ℕ) → is_present left x ≡ is_some (seen_at instant x)
  present_is = own_present plan.kernel plan.clocks.conditions (compiled_operations plan) (compiled_order plan) c memory next instant is

  pub clock_is : (x : SigId) → x.0 < length plan.kernel.signals → is_some (seen_at instant x.0) ≡ c.has.presence x own
  clock_is x lt = sym (present_is x.0) ∙ c.has.functions x.0 lt own left speaks keeps

  -- what is done writes what is there
  pub done_there : (number : ℕ) (p : Operation) (x : SigId) → slice_get (compiled_operations plan) number ≡ Some p → Writes p x → p.guard own ≡ true → is_some (seen_at instant x.0) ≡ true
  done_there number p x at writes done = sym (present_is x.0) ∙ written_present plan.kernel c.valid plan.clocks.conditions (compiled_operations plan) c.has own left speaks keeps number p x at writes done

  -- and what is there is written by one that is done
  pub there_done : (x : SigId) → x.0 < length plan.kernel.signals → is_some (seen_at instant x.0) ≡ true → (number : ℕ) × (p : Operation) × (slice_get (compiled_operations plan) number ≡ Some p) × Writes p x × (p.guard own ≡ true)
  there_done x lt some = own_written plan.kernel plan.clocks.conditions (compiled_operations plan) (compiled_order plan) c memory next instant is x lt some

  pub done_once : (i j : ℕ) (p q : Operation) (x : SigId) → slice_get (compiled_operations plan) i ≡ Some p → slice_get (compiled_operations plan) j ≡ Some q → Writes p x → Writes q x → p.guard own ≡ true → q.guard own ≡ true → i ≡ j
  done_once i j p q x at_i at_j writes_i writes_j done_i done_j = written_by_one plan.kernel c.valid plan.clocks.conditions (compiled_operations plan) c.has own left speaks keeps i j p q x at_i at_j writes_i writes_j done_i done_j

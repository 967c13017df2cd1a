-- What the links of a kernel hold, and what the end of a run names.
use Rattle.sig_loaded.proofs.Common.{◌≡◌, ◌≤◌, ◌*◌, ◌⊎◌, ℕ, ℤ, List, length, Contains, inl, inr, ⊎_elim, sym, ap, subst, arith, cases_lt, Option, None, Some, slice_get, IsValid, IsAcceptedKernel, links_once, some_links, Trace, ITEMS, Place, Kernel, HasOperations, Operation, operations_in, operations_of, IsAccepted, PlanView, numbers_of, Cause, Exhausted, Overflow, ZeroDivisor, Limit, Ended, LinkInfo, plan_operations, equation_below, written_below, one_either, IsEnd, IsNamedCause, Meets, IsOfKernel, HoldFew, HoldTooMany, contains_at}

-- ---- the items of a kernel's links

-- they are not too many and few
pub items_apart : (kernel : Kernel) → IsValid kernel → (capacity : ℕ) → HoldTooMany kernel capacity → HoldFew kernel capacity → ⊥
items_apart kernel valid capacity many few =
    let same : length few.links ≡ length many.links = ap (λ (links : List LinkInfo). length links) (links_once kernel valid few.links many.links few.are many.are) in
    let within : length many.links * capacity ≤ ITEMS = subst (λ n. n * capacity ≤ ITEMS) same few.fact in
    omega (arith, many.fact, within)

-- and they are one of these
pub items_are : (kernel : Kernel) → IsAcceptedKernel kernel → (capacity : ℕ) → HoldTooMany kernel capacity ⊎ HoldFew kernel capacity
items_are kernel accepted capacity =
    let links = some_links kernel accepted in
    ⊎_elim (λ many. inl (record { links = links.0; are = links.1; fact = many })) (λ few. inr (record { links = links.0; are = links.1; fact = few }))
    (cases_lt ITEMS (length links.0 * capacity))

-- ---- the cause of an end names what is there

module _ (plan : PlanView) (accepted : IsAccepted plan) where
  has : HasOperations plan.kernel plan.clocks.conditions (operations_in plan.store.nodes plan.ops)
  has = plan_operations plan accepted

  meets_there : (number : ℕ) (p : Operation) → slice_get (operations_in plan.store.nodes plan.ops) number ≡ Some p → (cause : Cause) → Meets p cause → IsOfKernel plan.kernel cause
  meets_there number p is (Exhausted x) meets =
      let among : Contains (operations_of plan.kernel has.presence) p =
      subst (λ (ps : List Operation). Contains ps p) has.are (contains_at (operations_in plan.store.nodes plan.ops) number p is) in
      written_below plan.kernel accepted.valid plan.clocks.conditions (operations_in plan.store.nodes plan.ops) has number p is x
      ((one_either plan.kernel has.presence p among).0 x meets).0
  meets_there number p is (Overflow e) meets =
      equation_below plan.kernel accepted.valid plan.clocks.conditions (operations_in plan.store.nodes plan.ops) has number p is e meets.1
  meets_there number p is (ZeroDivisor e) meets =
      equation_below plan.kernel accepted.valid plan.clocks.conditions (operations_in plan.store.nodes plan.ops) has number p is e meets.1
  meets_there number p is Limit meets = tt

  named_there : (flows : List (List ℤ)) (limit : ℕ) (trace : Trace) (cause : Cause) (place : Option Place)
      → IsNamedCause plan.kernel (operations_in plan.store.nodes plan.ops) (numbers_of plan.order) flows limit trace cause place → IsOfKernel plan.kernel cause
  named_there flows limit trace cause None named = subst (λ (c : Cause). IsOfKernel plan.kernel c) (sym named.1) tt
  named_there flows limit trace cause (Some place) named =
      let at = named.1.is.at in
      meets_there at.number at.operation at.is cause at.meets

  pub end_there : (flows : List (List ℤ)) (limit : ℕ) (trace : Trace) (place : Option Place) (end : Ended) → IsEnd plan flows limit trace place end → IsOfKernel plan.kernel end.cause
  end_there flows limit trace place end ends = named_there flows limit trace end.cause place ends.cause

-- What is so of an accepted kernel, by any of its plans.
use Rattle.sig_deciding_laws.proofs.Common.{◌≡◌, ◌∙◌, ◌≤◌, ◌+◌, ℕ, ℤ, List, length, refl, sym, subst, All, Option, Some, LINKS, Trace, Instant, Place, AreFlowsFor, IsValid, Kernel, SigId, IsAcceptedKernel, Operation, operations_in, IsCompiledOrder, Precedes, AreParts, IsAccepted, PlanView, numbers_of, LinkInfo, Ended, operations_once, plan_operations, same_order, WritesWithin, operations_fine, parts_once, IsEnd, IsNamedCause, place_at, Memory, IsNext, same_instant, HasOneReaction, StopsBefore, IsFirstFault, compiled, one_reaction, some_end, one_end, end_at_first, AreKernelLinks, AreOrdered, IsKernelEnd, IsPlanOf}
use Rattle.sig_deciding_laws.proofs.KernelPlans.{accepted_plan}

-- ---- once

pub ordered_once : (kernel : Kernel) → IsValid kernel → (operations others : List Operation) (order other : List ℕ) → AreOrdered kernel operations order → AreOrdered kernel others other
    → (operations ≡ others) × (order ≡ other)
ordered_once kernel valid operations others order other one two =
    let same = operations_once kernel valid one.conditions two.conditions operations others one.has two.has in
    let own : IsCompiledOrder two.conditions others order =
    subst (λ (cs : List SigId). IsCompiledOrder cs others order) same.0 (subst (λ (ps : List Operation). IsCompiledOrder one.conditions ps order) same.1 one.compiled) in
    (same.1, same_order (Precedes two.conditions others) (length others) order other own two.compiled)

pub links_once : (kernel : Kernel) → IsValid kernel → (a b : List LinkInfo) → AreKernelLinks kernel a → AreKernelLinks kernel b → a ≡ b
links_once kernel valid a b one two =
    let same = operations_once kernel valid one.conditions two.conditions one.operations two.operations one.has two.has in
    let own : AreParts kernel two.conditions two.operations one.parts =
    subst (λ (cs : List SigId). AreParts kernel cs two.operations one.parts) same.0 (subst (λ (ps : List Operation). AreParts kernel one.conditions ps one.parts) same.1 one.split) in
    let fine : All (WritesWithin (length kernel.signals)) two.operations =
    subst (All (WritesWithin (length kernel.signals))) (sym two.has.are) (operations_fine kernel two.has.presence valid) in
    one.are ∙ (parts_once kernel two.conditions two.operations fine one.parts two.parts own two.split).1 ∙ sym two.are

pub some_links : (kernel : Kernel) → IsAcceptedKernel kernel → (links : List LinkInfo) × AreKernelLinks kernel links × (length links ≤ LINKS)
some_links kernel accepted = (
  accepted.parts.links,
  record { conditions = accepted.conditions; operations = accepted.operations; has = accepted.has; parts = accepted.parts; split = accepted.split; are = refl },
  accepted.few,
)

-- ---- plans

module _ (plan : PlanView) (accepted : IsAccepted plan) where
  pub plan_ordered : AreOrdered plan.kernel (operations_in plan.store.nodes plan.ops) (numbers_of plan.order)
  plan_ordered = record { conditions = plan.clocks.conditions; has = plan_operations plan accepted; compiled = accepted.order }

  pub plan_links : AreKernelLinks plan.kernel plan.links
  plan_links = record {
    conditions = plan.clocks.conditions;
    operations = operations_in plan.store.nodes plan.ops;
    has = plan_operations plan accepted;
    parts = accepted.parts;
    split = accepted.split;
    are = sym accepted.links;
  }

  module _ (flows : List (List ℤ)) (limit : ℕ) (trace : Trace) (place : Option Place) (ended : Ended) where
    pub kernel_end : IsEnd plan flows limit trace place ended → IsKernelEnd plan.kernel flows limit trace place ended
    kernel_end ends = record {
      operations = operations_in plan.store.nodes plan.ops;
      order = numbers_of plan.order;
      ordered = plan_ordered;
      longest = ends.longest;
      instants = ends.instants;
      cause = ends.cause;
    }

    pub plan_end : IsKernelEnd plan.kernel flows limit trace place ended → IsEnd plan flows limit trace place ended
    plan_end ends =
        let same = ordered_once plan.kernel accepted.valid ends.operations (operations_in plan.store.nodes plan.ops) ends.order (numbers_of plan.order) ends.ordered plan_ordered in
        record {
          longest = ends.longest;
          instants = ends.instants;
          cause = subst (λ (order : List ℕ). IsNamedCause plan.kernel (operations_in plan.store.nodes plan.ops) order flows limit trace ended.cause place) same.1
              (subst (λ (operations : List Operation). IsNamedCause plan.kernel operations ends.order flows limit trace ended.cause place) same.0 ends.cause);
        }

  pub plan_reacts : HasOneReaction plan.kernel
  plan_reacts = one_reaction plan.kernel plan.clocks.conditions (operations_in plan.store.nodes plan.ops) (numbers_of plan.order) (compiled plan accepted)

-- ---- ends

-- what is so of the ends of a kernel's runs
abbrev SomeEnd : Kernel → Type 0
SomeEnd kernel = (flows : List (List ℤ)) → AreFlowsFor kernel flows → (limit : ℕ) → (trace : Trace) × (place : Option Place) × (ended : Ended) × IsKernelEnd kernel flows limit trace place ended

abbrev OneEnd : Kernel → Type 0
OneEnd kernel = (flows : List (List ℤ)) → AreFlowsFor kernel flows → (limit : ℕ) (t u : Trace) (p q : Option Place) (a b : Ended)
    → IsKernelEnd kernel flows limit t p a → IsKernelEnd kernel flows limit u q b → (t ≡ u) × (p ≡ q) × (a ≡ b)

abbrev AtFirst : Kernel → Type 0
AtFirst kernel = (flows : List (List ℤ)) → AreFlowsFor kernel flows → (limit : ℕ) (trace : Trace) (place : Place) (ended : Ended) → (operations : List Operation) (order : List ℕ) → AreOrdered kernel operations order
    → IsKernelEnd kernel flows limit trace (Some place) ended
    → (instant : Instant) × (k : ℕ) × StopsBefore kernel flows trace instant × IsFirstFault kernel operations order flows trace instant k ended.cause × (place ≡ place_at (length trace + 1) k)

module _ (plan : PlanView) (accepted : IsAccepted plan) where
  some_of_plan : SomeEnd plan.kernel
  some_of_plan flows fit limit = let end = some_end plan accepted flows fit limit in (end.0, end.1, end.2, kernel_end plan accepted flows limit end.0 end.1 end.2 end.3)

  one_of_plan : OneEnd plan.kernel
  one_of_plan flows fit limit t u p q a b x y = one_end plan accepted flows fit limit t u p q a b (plan_end plan accepted flows limit t p a x) (plan_end plan accepted flows limit u q b y)

  first_of_plan : AtFirst plan.kernel
  first_of_plan flows fit limit trace place ended operations order ordered ends =
      let same = ordered_once plan.kernel accepted.valid (operations_in plan.store.nodes plan.ops) operations (numbers_of plan.order) order (plan_ordered plan accepted) ordered in
      let first = end_at_first plan accepted flows fit limit trace place ended (plan_end plan accepted flows limit trace (Some place) ended ends) in
      let of_operations : IsFirstFault plan.kernel operations (numbers_of plan.order) flows trace first.0 first.1 ended.cause =
      subst (λ (ps : List Operation). IsFirstFault plan.kernel ps (numbers_of plan.order) flows trace first.0 first.1 ended.cause) same.0 first.3 in
      (first.0, first.1, first.2, subst (λ (is : List ℕ). IsFirstFault plan.kernel operations is flows trace first.0 first.1 ended.cause) same.1 of_operations, first.4)

-- ---- no two reactions

abbrev AtMost : Kernel → Type 0
AtMost kernel = (memory : Memory) (next : ℕ → ℤ) (a b : Instant) → IsNext kernel memory next a → IsNext kernel memory next b → a ≡ b

at_most_of_plan : (plan : PlanView) → IsAccepted plan → AtMost plan.kernel
at_most_of_plan plan accepted memory next a b is also =
    same_instant plan.kernel plan.clocks.conditions (operations_in plan.store.nodes plan.ops) (numbers_of plan.order) (compiled plan accepted) memory next a b is also

-- ---- accepted kernels

module _ (kernel : Kernel) (valid : IsValid kernel) (accepted : IsAcceptedKernel kernel) where
  plan : (plan : PlanView) × IsAccepted plan × (plan.kernel ≡ kernel)
  plan = accepted_plan kernel valid accepted

  pub some_order : (operations : List Operation) × (order : List ℕ) × AreOrdered kernel operations order
  some_order = (
    operations_in plan.0.store.nodes plan.0.ops,
    numbers_of plan.0.order,
    subst (λ (k : Kernel). AreOrdered k (operations_in plan.0.store.nodes plan.0.ops) (numbers_of plan.0.order)) plan.2 (plan_ordered plan.0 plan.1),
  )

  pub reacts_once : HasOneReaction kernel
  reacts_once = subst HasOneReaction plan.2 (plan_reacts plan.0 plan.1)

  pub one_at_most : (memory : Memory) (next : ℕ → ℤ) (a b : Instant) → IsNext kernel memory next a → IsNext kernel memory next b → a ≡ b
  one_at_most = subst AtMost plan.2 (at_most_of_plan plan.0 plan.1)

  pub some_kernel_end : (flows : List (List ℤ)) → AreFlowsFor kernel flows → (limit : ℕ) → (trace : Trace) × (place : Option Place) × (ended : Ended) × IsKernelEnd kernel flows limit trace place ended
  some_kernel_end = subst SomeEnd plan.2 (some_of_plan plan.0 plan.1)

  pub one_kernel_end : (flows : List (List ℤ)) → AreFlowsFor kernel flows → (limit : ℕ) (t u : Trace) (p q : Option Place) (a b : Ended)
      → IsKernelEnd kernel flows limit t p a → IsKernelEnd kernel flows limit u q b → (t ≡ u) × (p ≡ q) × (a ≡ b)
  one_kernel_end = subst OneEnd plan.2 (one_of_plan plan.0 plan.1)

  pub kernel_end_at_first : (flows : List (List ℤ)) → AreFlowsFor kernel flows → (limit : ℕ) (trace : Trace) (place : Place) (ended : Ended)
      → (operations : List Operation) (order : List ℕ) → AreOrdered kernel operations order → IsKernelEnd kernel flows limit trace (Some place) ended
      → (instant : Instant) × (k : ℕ) × StopsBefore kernel flows trace instant × IsFirstFault kernel operations order flows trace instant k ended.cause × (place ≡ place_at (length trace + 1) k)
  kernel_end_at_first = subst AtFirst plan.2 (first_of_plan plan.0 plan.1)

-- ---- a plan of a kernel

module _ (kernel : Kernel) (plan : PlanView) (planned : IsPlanOf kernel plan) (flows : List (List ℤ)) (limit : ℕ) (trace : Trace) (place : Option Place) (ended : Ended) where
  pub end_of_kernel : IsEnd plan flows limit trace place ended → IsKernelEnd kernel flows limit trace place ended
  end_of_kernel ends = subst (λ (k : Kernel). IsKernelEnd k flows limit trace place ended) planned.same (kernel_end plan planned.accepted flows limit trace place ended ends)

pub some_plan : (kernel : Kernel) → IsValid kernel → IsAcceptedKernel kernel → (plan : PlanView) × IsPlanOf kernel plan
some_plan kernel valid accepted = let plan = accepted_plan kernel valid accepted in (plan.0, record { accepted = plan.1; same = plan.2 })

-- There is one named cause.
use Rattle.sig_meaning_laws.proofs.Common.{◌≡◌, ◌<◌, ◌≤◌, ◌+◌, ◌++◌, ◌⊎◌, inl, inr, ℕ, suc, ℤ, pos, negsuc, neg_ℤ, true, false, List, [], ◌∷◌, length, refl, ap, sym, subst, ◌∙◌, arith, None, Option, Some, slice_get, div-zero, Function, Quotient, Remainder, Instant, IsLongest, Trace, Unbounded, has_64_bits, EqId, Place, one_longest, IsFunction, IsKernelTrace, IsReaction, Meets, Memory, function_of, remembered, AreFlowsFor, Equation, Form, Fun, Kernel, comes_from, StopsBefore, IsFirstFault, Computes, GoesOn, HasFault, IsEnd, IsFirstCause, IsNamedCause, MeetsFault, MeetsAt, place_at, IsReference, divides_by_zero, result_of, Operation, operations_in, IsAccepted, PlanView, numbers_of, Cause, Exhausted, Overflow, ZeroDivisor, Limit, Ended, Read, Compute, contains_at, at_element}
use Rattle.sig_meaning_laws.proofs.Accepted.{compiled}
use Rattle.sig_meaning_laws.proofs.NamedCause.{first_fault}
use Rattle.sig_meaning_laws.proofs.EndOfRun.{fitting}
use Rattle.sig_meaning_laws.proofs.FirstFaults.{one_computes}
use Rattle.sig_meaning_laws.proofs.Longest.{IsClean, longest_cut, same_values}
use Rattle.sig_meaning_laws.proofs.Longest.{clean as clean_of}
use Rattle.sig_meaning_laws.proofs.FirstFaultIsNamed.{first_cause, reference_goes_on}
use Rattle.sig_meaning_laws.proofs.Results.{determined, equal}

-- a quotient or a remainder by 0 is 0
by_zero_small : (a : ℤ) → has_64_bits (result_of Quotient (a ∷ pos 0 ∷ [])) ≡ true
by_zero_small (pos n) = subst (λ m. has_64_bits (pos m) ≡ true) (sym (div-zero n)) refl
by_zero_small (negsuc n) = subst (λ m. has_64_bits (neg_ℤ (pos m)) ≡ true) (sym (div-zero (suc n))) refl

zero_small : (function : Function) (values : List ℤ) → divides_by_zero function values ≡ true → has_64_bits (result_of function values) ≡ true
zero_small Quotient (a ∷ b ∷ []) is = subst (λ d. has_64_bits (result_of Quotient (a ∷ d ∷ [])) ≡ true) (sym ((equal b (pos 0)).yes is)) (by_zero_small a)
zero_small Remainder (a ∷ b ∷ []) is = subst (λ d. has_64_bits (result_of Remainder (a ∷ d ∷ [])) ≡ true) (sym ((equal b (pos 0)).yes is)) refl
zero_small function values is = absurd (let e : false ≡ true = is in cc)

module _ (kernel : Kernel) (memory : Memory) (instant : Instant) (is : IsReaction Unbounded kernel memory instant) where
  computed_result : (e : EqId) (c : Computes kernel instant e) → c.result ≡ result_of (function_of c.function) c.values
  computed_result e c =
      let met : Meets Unbounded memory instant c.equation.form =
      at_element (λ (q : Equation). Meets Unbounded memory instant q.form) kernel.equations c.equation (contains_at kernel.equations e.0 c.equation c.is) is.equations in
      let of_form : Meets Unbounded memory instant (Fun c.target c.function c.operands) = subst (λ (form : Form). Meets Unbounded memory instant form) c.form met in
      let given : IsFunction Unbounded (function_of c.function) instant c.operands (Some c.result) = subst (λ s. IsFunction Unbounded (function_of c.function) instant c.operands s) c.gives of_form in
      determined (function_of c.function) given.0 c.result given.2 ∙ ap (result_of (function_of c.function)) (same_values instant c.operands given.0 c.values given.1 c.have)

  -- a result by 0 is not outside 64 bits
  never_both : (e d : EqId) → Some e ≡ Some d → (a : Computes kernel instant e) → has_64_bits a.result ≡ false → (b : Computes kernel instant d) → divides_by_zero (function_of b.function) b.values ≡ true → ⊥
  never_both e d same a large b by_zero =
      let one : d ≡ e = cc in
      let moved = subst (λ (n : EqId). (c : Computes kernel instant n) × (divides_by_zero (function_of c.function) c.values ≡ true)) one (b, by_zero) in
      let results = one_computes kernel instant e a moved.0 in
      let small : has_64_bits a.result ≡ true = ap has_64_bits (results.0 ∙ computed_result e moved.0) ∙ zero_small (function_of moved.0.function) moved.0.values moved.1 in
      let clash : true ≡ false = sym small ∙ large in cc

  -- an operation meets one fault
  same_cause : (flows : List (List ℤ)) (trace : Trace) (q : Operation) (a b : Cause) → MeetsFault q a → MeetsFault q b → HasFault kernel flows trace instant a → HasFault kernel flows trace instant b → a ≡ b
  same_cause flows trace q (Exhausted x) (Exhausted y) one two has also = let e : Read x ≡ Read y = sym one ∙ two in let same : x ≡ y = cc in ap Exhausted same
  same_cause flows trace q (Overflow e) (Overflow d) one two has also = let f : Some e ≡ Some d = sym one.1 ∙ two.1 in let same : e ≡ d = cc in ap Overflow same
  same_cause flows trace q (Overflow e) (ZeroDivisor d) one two has also = absurd (never_both e d (sym one.1 ∙ two.1) has.0 has.1 also.0 also.1)
  same_cause flows trace q (ZeroDivisor e) (Overflow d) one two has also = absurd (never_both d e (sym two.1 ∙ one.1) also.0 also.1 has.0 has.1)
  same_cause flows trace q (ZeroDivisor e) (ZeroDivisor d) one two has also = let f : Some e ≡ Some d = sym one.1 ∙ two.1 in let same : e ≡ d = cc in ap ZeroDivisor same
  same_cause flows trace q Limit b one two has also = absurd one
  same_cause flows trace q _ Limit one two has also = absurd two
  same_cause flows trace q (Exhausted x) _ one two has also = absurd (let e : Read x ≡ Compute = sym one ∙ two.0 in cc)
  same_cause flows trace q _ (Exhausted y) one two has also = absurd (let f : Compute ≡ Read y = sym one.0 ∙ two in cc)

same_operation : (operations : List Operation) (order : List ℕ) (i j : ℕ) (a b : Cause) → i ≡ j → (x : MeetsAt operations order i a) (y : MeetsAt operations order j b) → x.operation ≡ y.operation
same_operation operations order i j a b same x y =
    let numbers : Some x.number ≡ Some y.number = sym x.ordered ∙ ap (λ k. slice_get order k) same ∙ y.ordered in
    let number : x.number ≡ y.number = cc in
    let both : Some x.operation ≡ Some y.operation = sym x.is ∙ ap (λ k. slice_get operations k) number ∙ y.is in
    cc

-- the first cause is one, where the trace goes on at all
pub one_cause : (kernel : Kernel) (operations : List Operation) (order : List ℕ) (flows : List (List ℤ)) (trace : Trace) (instant : Instant) → GoesOn kernel flows trace instant
    → (a b : Cause) (p q : Place) → IsFirstCause kernel operations order flows trace a p → IsFirstCause kernel operations order flows trace b q → (p ≡ q) × (a ≡ b)
one_cause kernel operations order flows trace instant goes a b p q x y =
    let less : x.first ≤ y.first = x.least y.first b y.is in
    let more : y.first ≤ x.first = y.least x.first a x.is in
    let same : x.first ≡ y.first = omega (arith, less, more) in
    let one : x.is.at.operation ≡ y.is.at.operation = same_operation operations order x.first y.first a b same x.is.at y.is.at in (
      x.met ∙ ap (λ k. place_at (length trace + 1) k) same ∙ sym y.met,
      same_cause kernel (remembered trace) instant (comes_from Unbounded kernel trace instant goes.is).1 flows trace y.is.at.operation a b
          (subst (λ (o : Operation). MeetsFault o a) one x.is.at.meets) y.is.at.meets (x.is.every instant goes) (y.is.every instant goes),
    )

-- ---- the end of a run of an accepted plan

module _ (plan : PlanView) (accepted : IsAccepted plan) (flows : List (List ℤ)) (fit : AreFlowsFor plan.kernel flows) (limit : ℕ) where
  abbrev Operations : List Operation
  Operations = operations_in plan.store.nodes plan.ops

  abbrev Order : List ℕ
  Order = numbers_of plan.order

  -- the reference goes on behind a longest trace that is shorter than the limit, and its first fault is the cause
  record Stops (trace : Trace) : Type 0 where
    instant : Instant
    stops : StopsBefore plan.kernel flows trace instant
    goes : GoesOn plan.kernel flows trace instant
    place : ℕ
    cause : Cause
    first : IsFirstFault plan.kernel Operations Order flows trace instant place cause
    named : IsFirstCause plan.kernel Operations Order flows trace cause (place_at (length trace + 1) place)

  stopped : (trace : Trace) → IsLongest (IsKernelTrace plan.kernel) flows limit trace → length trace < limit → Stops trace
  stopped trace longest short = by (longest_cut (fitting plan accepted flows fit) limit trace longest).ends where
    by : (length trace ≡ limit) ⊎ ((length trace < limit) × (instant : Instant) × StopsBefore plan.kernel flows trace instant) → Stops trace
    by (inl at) = absurd (omega (arith, at, short))
    by (inr ends) =
        let f = fitting plan accepted flows fit in
        let c = compiled plan accepted in
        let is_clean : IsClean plan.kernel flows (length trace) trace = clean_of f trace longest.is longest.fits longest.speaks in
        let next : IsReference plan.kernel flows (suc (length trace)) (trace ++ ends.1 ∷ []) = subst (λ n. IsReference plan.kernel flows n (trace ++ ends.1 ∷ [])) (omega arith) ends.2.next in
        let found = first_fault plan.kernel plan.clocks.conditions Operations Order c flows f trace is_clean ends.1 next ends.2.beyond in
        record {
          instant = ends.1;
          stops = ends.2;
          goes = reference_goes_on plan.kernel plan.clocks.conditions Operations Order c flows f trace is_clean ends.1 next;
          place = found.0;
          cause = found.1;
          first = found.2;
          named = first_cause plan.kernel plan.clocks.conditions Operations Order c flows f trace is_clean ends.1 next found.0 found.1 found.2;
        }

  same_named : (trace : Trace) → IsLongest (IsKernelTrace plan.kernel) flows limit trace → (p q : Option Place) (a b : Cause) → IsNamedCause plan.kernel Operations Order flows limit trace a p
      → IsNamedCause plan.kernel Operations Order flows limit trace b q → (p ≡ q) × (a ≡ b)
  same_named trace longest None None a b x y = (refl, x.1 ∙ sym y.1)
  same_named trace longest (Some p) (Some q) a b x y =
      let s = stopped trace longest x.0 in
      let one = one_cause plan.kernel Operations Order flows trace s.instant s.goes a b p q x.1 y.1 in
      (ap Some one.0, one.1)
  same_named trace longest _ _ a b x y = absurd (omega (arith, x.0, y.0))

  pub one_end : (t u : Trace) (p q : Option Place) (a b : Ended) → IsEnd plan flows limit t p a → IsEnd plan flows limit u q b → (t ≡ u) × (p ≡ q) × (a ≡ b)
  one_end t u p q a b x y =
      let traces : t ≡ u = one_longest (IsKernelTrace plan.kernel) flows limit t u x.longest y.longest in
      let named = same_named u y.longest p q a.cause b.cause (subst (λ trace. IsNamedCause plan.kernel Operations Order flows limit trace a.cause p) traces x.cause) y.cause in
      let counts : a.instants ≡ b.instants = x.instants ∙ ap length traces ∙ sym y.instants in
      (traces, named.0, λ j. record { instants = counts j; cause = named.1 j })

  -- the cause is the first fault of the reference
  pub end_at_first : (trace : Trace) (place : Place) (ended : Ended) → IsEnd plan flows limit trace (Some place) ended
      → (instant : Instant) × (k : ℕ) × StopsBefore plan.kernel flows trace instant × IsFirstFault plan.kernel Operations Order flows trace instant k ended.cause × (place ≡ place_at (length trace + 1) k)
  end_at_first trace place ended x =
      let s = stopped trace x.longest x.cause.0 in
      let one = one_cause plan.kernel Operations Order flows trace s.instant s.goes s.cause ended.cause (place_at (length trace + 1) s.place) place s.named x.cause.1 in
      (s.instant, s.place, s.stops, subst (λ (cause : Cause). IsFirstFault plan.kernel Operations Order flows trace s.instant s.place cause) one.1 s.first, sym one.0)

-- An instant that is within bounds has no fault.
use Rattle.sig_meaning_laws.proofs.Common.{◌≡◌, ◌<◌, ℕ, ℤ, true, false, List, length, map, ap, sym, subst, ◌∙◌, arith, Contains, Some, length-map, Gives, Bounded, Instant, IsOfKind, Trace, has_64_bits, seen_at, EqId, SigId, Signal, of_kind, IsFunction, IsReaction, Meets, Memory, function_of, remembered, kind_of, Equation, Form, Fun, Kernel, IsWithinBounds, IsFaultAt, Computes, HasFault, MeetsFault, divides_by_zero, Operation, Cause, Exhausted, Overflow, ZeroDivisor, Limit, contains_at, at_element, some_at}
use Rattle.sig_meaning_laws.proofs.Agreement.{Compiled}
use Rattle.sig_meaning_laws.proofs.NamedCause.{beyond_end, kinds_length}
use Rattle.sig_meaning_laws.proofs.FirstFaults.{one_either}
use Rattle.sig_meaning_laws.proofs.Longest.{same_values}
use Rattle.sig_meaning_laws.proofs.Results.{never_by_zero}
use Rattle.sig_meaning_laws.proofs.Small.{small_value}

module _ (kernel : Kernel) (memory : Memory) (instant : Instant) (is : IsReaction Bounded kernel memory instant) where
  small_result : (e : EqId) (c : Computes kernel instant e) → has_64_bits c.result ≡ true
  small_result e c =
      let lt : c.target.0 < length kernel.signals = beyond_end kernel.signals instant c.target.0 c.result
      (kinds_length Bounded (map (λ (signal : Signal). signal.kind) kernel.signals) instant is.kinds ∙ length-map kernel.signals (λ (signal : Signal). signal.kind)) c.gives in
      let s = some_at kernel.signals c.target.0 lt in
      let of : IsOfKind Bounded s.0.kind (seen_at instant c.target.0) = of_kind Bounded kernel.signals instant c.target.0 s.0.kind is.kinds (ap kind_of s.1) in
      small_value s.0.kind c.result (subst (λ seen. IsOfKind Bounded s.0.kind seen) c.gives of)

  no_zero : (e : EqId) (c : Computes kernel instant e) → divides_by_zero (function_of c.function) c.values ≡ true → ⊥
  no_zero e c by_zero =
      let met : Meets Bounded memory instant c.equation.form =
      at_element (λ (q : Equation). Meets Bounded memory instant q.form) kernel.equations c.equation (contains_at kernel.equations e.0 c.equation c.is) is.equations in
      let of_form : Meets Bounded memory instant (Fun c.target c.function c.operands) = subst (λ (form : Form). Meets Bounded memory instant form) c.form met in
      let given : IsFunction Bounded (function_of c.function) instant c.operands (Some c.result) = subst (λ s. IsFunction Bounded (function_of c.function) instant c.operands s) c.gives of_form in
      never_by_zero (function_of c.function) c.values c.result
      (subst (λ values. Gives Bounded (function_of c.function) values c.result) (same_values instant c.operands given.0 c.values given.1 c.have) given.2) by_zero

pub bounds_without_faults : (kernel : Kernel) (conditions : List SigId) (operations : List Operation) (order : List ℕ) → Compiled kernel conditions operations order → (flows : List (List ℤ)) → length flows ≡ kernel.inputs
    → (trace : Trace) (instant : Instant) → IsWithinBounds kernel flows trace instant → (place : ℕ) (cause : Cause) → IsFaultAt kernel operations order flows trace instant place cause → ⊥
bounds_without_faults kernel conditions operations order c flows count trace instant within place cause fault = by cause fault.met.meets fault.fault where
  by : (found : Cause) → MeetsFault fault.met.operation found → HasFault kernel flows trace instant found → ⊥
  by (Exhausted x) meets past =
      let either = (one_either kernel c.has.presence fault.met.operation
      (subst (λ (ps : List Operation). Contains ps fault.met.operation) c.has.are (contains_at operations fault.met.number fault.met.operation fault.met.is))).0 x meets in
      let few = within.inputs x.0 (omega (arith, either.1, count)) in
      omega (arith, few, past)
  by (Overflow e) meets large = let clash : true ≡ false = sym (small_result kernel (remembered trace) instant within.is e large.0) ∙ large.1 in cc
  by (ZeroDivisor e) meets zero_divisor = no_zero kernel (remembered trace) instant within.is e zero_divisor.0 zero_divisor.1
  by Limit meets fails = fails

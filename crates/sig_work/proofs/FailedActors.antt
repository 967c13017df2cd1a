-- An actor that failed did so within the limit; and the order of places as words.
use Rattle.sig_work.proofs.Common.{◌≡◌, ◌<◌, ◌≤◌, ◌^◌, ◌∙◌, inl, inr, ℕ, zero, suc, Bool, true, false, cond, length, refl, ap, sym, subst, arith, None, Option, Some, nat_lt, slice_get, and_from, and_parts, cases_order, eq-eqb, eqb-true, lt-ltb, ltb-false, ltb-true, or_cases, or_left, or_right, ◌==◌, ◌&&◌, packed, Place, Actor, code_of, guard_holds, moved_on, Given, is_before, Faults, Gives, Outcome, outcome, Fails, Goes, Stopped, Takes, Turn, turn, turn_at, turn_by, turn_of_op, turn_with, Step, StepKind, Do, Op, HasTurned, IsOwn, IsOwnStep, LeadBy, Own, opening_own, same_Some}
use Rattle.sig_model.specs.Turns.{AtLimit}

-- ---- where an actor fails

module _ (given : Given) (k : ℕ) where
  -- a turn that fails does so within the limit
  abbrev FailsWithin : Turn → Type 0
  FailsWithin (Fails place) = place.instant ≤ given.limit
  FailsWithin other = Unit {0}

  module _ (a : Actor) (within : a.instant ≤ given.limit) where
    op_fails : (op : Op) (r : Outcome) → FailsWithin (turn_with given.plan (code_of given.plan k) a op r)
    op_fails op (Gives v) = tt
    op_fails op (Faults cause) = within

    some_fails : (found : Option Op) → FailsWithin (turn_of_op given.plan given.flows (code_of given.plan k) a found)
    some_fails None = tt
    some_fails (Some op) = op_fails op (outcome given.plan.kernel given.flows a op)

    kind_fails : (kind : StepKind) → FailsWithin (turn_by given.plan given.flows (code_of given.plan k) a kind)
    kind_fails (Do o) = some_fails (slice_get given.plan.ops o.0)
    kind_fails other = tt

    step_fails : (step : Option Step) → FailsWithin (turn_at given.plan given.flows (code_of given.plan k) a step)
    step_fails None = tt
    step_fails (Some step) = by (guard_holds given.plan (code_of given.plan k) a.registers step) where
      by : (b : Bool) → FailsWithin (cond b (turn_by given.plan given.flows (code_of given.plan k) a step.kind) (Goes (moved_on (length (code_of given.plan k).steps) a)))
      by true = kind_fails step.kind
      by false = tt

  turn_fails : (a : Actor) → FailsWithin (turn given.plan given.flows given.limit k a)
  turn_fails a = by a.ended where
    going : (b : Bool) → nat_lt given.limit a.instant ≡ b → FailsWithin (cond b AtLimit (turn_at given.plan given.flows (code_of given.plan k) a (slice_get (code_of given.plan k).steps a.step)))
    going true over = tt
    going false is = step_fails a (ltb-false given.limit a.instant is) (slice_get (code_of given.plan k).steps a.step)

    by : (b : Bool) → FailsWithin (cond b Stopped (cond (nat_lt given.limit a.instant) AtLimit (turn_at given.plan given.flows (code_of given.plan k) a (slice_get (code_of given.plan k).steps a.step))))
    by true = tt
    by false = going (nat_lt given.limit a.instant) refl

  -- an actor that does a step runs
  step_runs : (a b : Own) → IsOwnStep given k a b → a.actor.ended ≡ false
  step_runs a b step = by a.actor.ended refl where
    by : (ended : Bool) → a.actor.ended ≡ ended → a.actor.ended ≡ false
    by false is = is
    by true is = absurd (subst (λ e. HasTurned (cond e Stopped (cond (nat_lt given.limit a.actor.instant) AtLimit (turn_at given.plan given.flows (code_of given.plan k) a.actor (slice_get (code_of given.plan k).steps a.actor.step)))) a b) is step)

  -- an actor that failed did so within the limit, and has ended
  abbrev FailedWithin : Own → Type 0
  FailedWithin own = (p : Place) → own.failed ≡ Some p → (p.instant ≤ given.limit) × (own.actor.ended ≡ true)

  none_failed : {X : Type 0} (own : Own) → FailedWithin own → own.actor.ended ≡ false → (p : Place) → own.failed ≡ Some p → X
  none_failed own failed runs p is = absurd (let clash : true ≡ false = sym (failed p is).1 ∙ runs in cc)

  turned_failed : (t : Turn) (a b : Own) → FailsWithin t → FailedWithin a → a.actor.ended ≡ false → HasTurned t a b → FailedWithin b
  turned_failed Stopped a b fails failed runs turned = absurd turned
  turned_failed AtLimit a b fails failed runs turned = λ p is. none_failed a failed runs p (sym turned.0.fails ∙ is)
  turned_failed (Fails place) a b fails failed runs turned = λ p is. (
    subst (λ (q : Place). q.instant ≤ given.limit) (same_Some place p (sym turned.0.fails ∙ is)) fails,
    ap (λ (c : Actor). c.ended) turned.0.is,
  )
  turned_failed (Takes link next) a b fails failed runs turned = λ p is. none_failed a failed runs p (sym turned.1.fails ∙ is)
  turned_failed other a b fails failed runs turned = λ p is. none_failed a failed runs p (sym turned.0.fails ∙ is)

  lead_failed : (n : ℕ) (a b : Own) → FailedWithin a → LeadBy given k n a b → FailedWithin b
  lead_failed zero a b failed same = subst (λ (o : Own). FailedWithin o) same failed
  lead_failed (suc n) a b failed lead =
      lead_failed n lead.0 b (turned_failed (turn given.plan given.flows given.limit k a.actor) a lead.0 (turn_fails a.actor) failed (step_runs a lead.0 lead.1) lead.1) lead.2

  pub own_failed : (own : Own) → IsOwn given k own → (p : Place) → own.failed ≡ Some p → p.instant ≤ given.limit
  own_failed own is p failed =
      (lead_failed is.0 (opening_own given.plan.kernel) own (λ q none. absurd (let e : None ≡ Some q = none in cc)) is.1 p failed).0

-- ---- places as words

module _ (a b : Place) where
  pub before_packed : a.pos < 2 ^ 32 → is_before a b ≡ true → packed a < packed b
  before_packed fits is = elim (or_cases (nat_lt a.instant b.instant) ((a.instant == b.instant) && nat_lt a.pos b.pos) is) [
    | inl lt ↦ let less = ltb-true a.instant b.instant lt in omega (arith, less, fits)
    | inr both ↦
        let parts = and_parts (a.instant == b.instant) (nat_lt a.pos b.pos) both in
        let same = eqb-true a.instant b.instant parts.0 in
        let less = ltb-true a.pos b.pos parts.1 in
        omega (arith, same, less)
  ]

  pub packed_before : b.pos < 2 ^ 32 → packed a < packed b → is_before a b ≡ true
  packed_before fits less = elim (cases_order a.instant b.instant) [
    | inl same ↦ or_right (nat_lt a.instant b.instant) ((a.instant == b.instant) && nat_lt a.pos b.pos)
        (and_from (a.instant == b.instant) (nat_lt a.pos b.pos) (eq-eqb a.instant b.instant same) (lt-ltb a.pos b.pos (omega (arith, less, same))))
    | inr (inl lt) ↦ or_left (nat_lt a.instant b.instant) ((a.instant == b.instant) && nat_lt a.pos b.pos) (lt-ltb a.instant b.instant lt)
    | inr (inr gt) ↦ absurd (omega (arith, less, gt, fits))
  ]

  pub not_before : a.pos < 2 ^ 32 → packed b ≤ packed a → is_before a b ≡ false
  not_before fits most = by (is_before a b) refl where
    by : (c : Bool) → is_before a b ≡ c → c ≡ false
    by false is = refl
    by true is = let less = before_packed fits is in absurd (omega (arith, most, less))

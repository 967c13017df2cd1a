-- What the operations of a compiled kernel write, done in order, is an instant of the kernel.
use Rattle.sig_meaning_laws.proofs.Common.{◌≡◌, ◌<◌, ◌≤◌, ◌⊎◌, inl, inr, ℕ, zero, suc, ℤ, Bool, true, false, List, length, refl, ap, sym, subst, ◌∙◌, arith, Contains, Option, None, Some, is_some, slice_get, slice_index, Instant, IsValue, Unbounded, Kind, Boolean, SigId, Signal, truth_of_value, Allows, is_condition, Reaction, Status, is_present, status_at, truth_of, Memory, Kernel, HasNextValues, HasOneReaction, IsNext, RemembersValues, Registers, is_true, Operation, operations_of, Writes, written_present, at_contained, contains_at, cases_eq}
use Rattle.sig_meaning_laws.proofs.Agreement.{Compiled, condition_signal, same_instant, truth_at}
use Rattle.sig_meaning_laws.proofs.OrderedOperations.{WritesAt, final, finally_present, finally_written, guard_settled, place_of, reaction, read_there, run, run_none, truths, unchanged, written_stays}
use Rattle.sig_meaning_laws.proofs.Equations.{next_instant}
use Rattle.sig_meaning_laws.proofs.Steps.{AreKnown, instant_of, one_fit}
use Rattle.sig_meaning_laws.proofs.Truths.{some_status}
use Rattle.sig_meaning_laws.proofs.Values.{value}

module _ (kernel : Kernel) (conditions : List SigId) (operations : List Operation) (order : List ℕ) (memory : Memory) (next : ℕ → ℤ) (c : Compiled kernel conditions operations order)
    (memories : RemembersValues kernel memory) (nexts : HasNextValues kernel next) where
  abbrev R : ℕ → Registers
  R k = run kernel conditions operations order memory next k

  abbrev F : Registers
  F = final kernel conditions operations order memory next c

  abbrev P : List Bool
  P = truths kernel conditions operations order memory next c

  abbrev A : Reaction
  A = (reaction kernel conditions operations order memory next c).0

  at_presence : (x : SigId) → x.0 < length kernel.signals → is_present A x.0 ≡ c.has.presence x P
  at_presence x lt = c.has.functions x.0 lt P A (reaction kernel conditions operations order memory next c).1 (reaction kernel conditions operations order memory next c).2

  -- ---- what is written is known

  -- the status of a condition is its truth
  condition_status : (y : SigId) (signal : Signal) (v : ℤ) → slice_get kernel.signals y.0 ≡ Some signal → is_condition kernel y.0 ≡ true → is_present A y.0 ≡ true → F y.0 ≡ Some v
      → status_at A y.0 ≡ Some (truth_of_value signal.kind v)
  condition_status y signal v own is present held =
      let there : Contains conditions y = (c.has.order.all y).1 is in
      let at : slice_get conditions there.0 ≡ Some y = at_contained conditions y there in
      let s = condition_signal kernel conditions c.has.order there.0 y at in
      let one : s.0 ≡ signal = (let e : Some s.0 ≡ Some signal = sym s.1 ∙ own in cc) in
      let boolean : signal.kind ≡ Boolean = sym (ap (λ (z : Signal). z.kind) one) ∙ s.2 in
      let t = some_status (status_at A y.0) present in
      let keeps : Allows (Some t.0) (truth_of P there.0) = subst (λ (z : Status). Allows z (truth_of P there.0)) t.1 ((reaction kernel conditions operations order memory next c).2 there.0 y at) in
      let truth : t.0 ≡ is_true (Some v) = keeps ∙ truth_at conditions F there.0 y at ∙ ap is_true held in
      t.1 ∙ ap Some truth ∙ sym (ap (λ (k : Kind). Some (truth_of_value k v)) boolean)

  known_next : (k : ℕ) → k < length operations → AreKnown kernel A (R k) → AreKnown kernel A (R (suc k))
  known_next k lt known x signal own v held = by (slice_get operations (slice_index order k)) refl where
    same : (registers : Registers) → R (suc k) ≡ registers → registers x ≡ R k x → IsValue Unbounded signal.kind v × (status_at A x ≡ Some (truth_of_value signal.kind v))
    same registers is e = known x signal own v (sym e ∙ sym (ap (λ (r : Registers). r x) is) ∙ held)

    -- where the operation writes the signal
    it : (q : Operation) → slice_get operations (slice_index order k) ≡ Some q → q.guard P ≡ true → (y : SigId) → Writes q y → y.0 ≡ x
        → IsValue Unbounded signal.kind v × (status_at A x ≡ Some (truth_of_value signal.kind v))
    it q at done y writes e =
        let written = written_stays kernel conditions operations order memory next c k (suc k) q y (omega arith) (omega (arith, lt)) at writes done in
        let same_value : value kernel memory next (R k) q ≡ v = (let f : Some (value kernel memory next (R k) q) ≡ Some v = sym written ∙ ap (R (suc k)) e ∙ held in cc) in
        let own_y : slice_get kernel.signals y.0 ≡ Some signal = ap (slice_get kernel.signals) e ∙ own in
        let fit = one_fit kernel c.valid memory next memories nexts c.has.presence A (reaction kernel conditions operations order memory next c).1.is P at_presence (R k) known q
        (subst (λ (ps : List Operation). Contains ps q) c.has.are (contains_at operations (slice_index order k) q at)) y writes done signal own_y
        (λ z there. let r = read_there kernel conditions operations order memory next c k lt q at done z there in ap is_some r.1) in
        let present = written_present kernel c.valid conditions operations c.has P A (reaction kernel conditions operations order memory next c).1 (reaction kernel conditions operations order memory next c).2
        (slice_index order k) q y at writes done in
        let finally : F y.0 ≡ Some v = written_stays kernel conditions operations order memory next c k (length operations) q y lt (omega arith) at writes done ∙ ap Some same_value in (
          subst (λ w. IsValue Unbounded signal.kind w) same_value fit.0,
          sym (ap (status_at A) e) ∙ status y (is_condition kernel y.0) refl own_y present finally (λ free. fit.1 free ∙ ap (λ w. Some (truth_of_value signal.kind w)) same_value),
        ) where
          status : (y : SigId) (b : Bool) → is_condition kernel y.0 ≡ b → slice_get kernel.signals y.0 ≡ Some signal → is_present A y.0 ≡ true → F y.0 ≡ Some v
              → (is_condition kernel y.0 ≡ false → status_at A y.0 ≡ Some (truth_of_value signal.kind v)) → status_at A y.0 ≡ Some (truth_of_value signal.kind v)
          status y true is own_y present finally rest = condition_status y signal v own_y is present finally
          status y false is own_y present finally rest = rest is

    by : (found : Option Operation) → slice_get operations (slice_index order k) ≡ found → IsValue Unbounded signal.kind v × (status_at A x ≡ Some (truth_of_value signal.kind v))
    by None none = known x signal own v (sym (unwritten None none) ∙ held) where
      unwritten : (found : Option Operation) → slice_get operations (slice_index order k) ≡ found → R (suc k) x ≡ R k x
      unwritten found e = unchanged kernel conditions operations order memory next k (suc k) x (omega arith) (λ j above below w.
          let at_k : j ≡ k = omega (arith, above, below) in
          let f : None ≡ Some w.operation = sym none ∙ sym (ap (λ n. slice_get operations (slice_index order n)) at_k) ∙ w.is in cc)
    by (Some q) at = written (at_x q.writes refl) (q.guard P) refl where
      at_x : (w : Option SigId) → q.writes ≡ w → ((y : SigId) × Writes q y × (y.0 ≡ x)) ⊎ ((y : SigId) → Writes q y → y.0 ≡ x → ⊥)
      at_x None e = inr (λ y writes same. let f : None ≡ Some y = sym e ∙ writes in cc)
      at_x (Some y) e = decide (cases_eq y.0 x) where
        decide : (y.0 ≡ x) ⊎ ((y.0 ≡ x) → ⊥) → ((z : SigId) × Writes q z × (z.0 ≡ x)) ⊎ ((z : SigId) → Writes q z → z.0 ≡ x → ⊥)
        decide (inl f) = inl (y, e, f)
        decide (inr differs) = inr (λ z writes f.
            let one : y ≡ z = (let g : Some y ≡ Some z = sym e ∙ writes in cc) in
            differs (ap (λ (u : SigId). u.0) one ∙ f))

      kept : ((w : WritesAt kernel conditions operations order memory next k x) → ⊥) → R (suc k) x ≡ R k x
      kept none = unchanged kernel conditions operations order memory next k (suc k) x (omega arith) (λ j above below w.
          let at_k : j ≡ k = omega (arith, above, below) in
          none (subst (λ n. WritesAt kernel conditions operations order memory next n x) at_k w))

      one_operation : (w : WritesAt kernel conditions operations order memory next k x) → w.operation ≡ q
      one_operation w = let f : Some w.operation ≡ Some q = sym w.is ∙ at in cc

      written : ((y : SigId) × Writes q y × (y.0 ≡ x)) ⊎ ((y : SigId) → Writes q y → y.0 ≡ x → ⊥) → (b : Bool) → q.guard P ≡ b
          → IsValue Unbounded signal.kind v × (status_at A x ≡ Some (truth_of_value signal.kind v))
      written (inl w) true done = it q at done w.0 w.1 w.2
      written (inl w) false done = known x signal own v (sym (kept (λ there.
          let also : there.operation.guard P ≡ true = sym (guard_settled kernel conditions operations order memory next c k lt there.operation there.is) ∙ there.done in
          let f : true ≡ false = sym also ∙ ap (λ (o : Operation). o.guard P) (one_operation there) ∙ done in cc)) ∙ held)
      written (inr none) b done = known x signal own v (sym (kept (λ there.
          none there.signal (sym (ap (λ (o : Operation). o.writes) (one_operation there)) ∙ there.writes) there.same)) ∙ held)

  known_all : (k : ℕ) → k ≤ length operations → AreKnown kernel A (R k)
  known_all zero le = λ x signal own v held.
      let e : None ≡ Some v = sym (ap (λ (r : Registers). r x) (run_none kernel conditions operations order memory next)) ∙ held in absurd (let f = e in cc)
  known_all (suc k) le = known_next k (omega (arith, le)) (known_all k (omega (arith, le)))

  -- ---- the instant

  written_of : (p : Operation) → Contains (operations_of kernel c.has.presence) p → p.guard P ≡ true → (y : SigId) → Writes p y → F y.0 ≡ Some (value kernel memory next F p)
  written_of p among done y writes =
      let there : Contains operations p = subst (λ (ps : List Operation). Contains ps p) (sym c.has.are) among in
      let place = place_of kernel conditions operations order memory next c there.0 p (at_contained operations p there) in
      finally_written kernel conditions operations order memory next c place.0 place.1 p place.2 done y writes

  pub some_next : (instant : Instant) × IsNext kernel memory next instant
  some_next = (
    instant_of (length kernel.signals) F,
    next_instant kernel c.valid memory next c.has.presence A (reaction kernel conditions operations order memory next c).1.is P at_presence F (known_all (length operations) (omega arith))
        (λ x lt. finally_present kernel conditions operations order memory next c x lt) written_of (reaction kernel conditions operations order memory next c).1.some,
  )

-- a compiled kernel has one reaction
pub one_reaction : (kernel : Kernel) (conditions : List SigId) (operations : List Operation) (order : List ℕ) → Compiled kernel conditions operations order → HasOneReaction kernel
one_reaction kernel conditions operations order c = record {
  some = λ memory next memories nexts. some_next kernel conditions operations order memory next c memories nexts;
  one = λ memory next memories nexts a b is also. same_instant kernel conditions operations order c memory next a b is also;
}

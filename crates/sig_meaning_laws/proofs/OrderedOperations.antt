-- The operations of a compiled kernel, done in order.
use Rattle.sig_meaning_laws.proofs.Common.{◌≡◌, ◌<◌, ◌≤◌, ◌⊎◌, inl, inr, ℕ, zero, suc, ℤ, Bool, true, false, cond, List, length, refl, ap, sym, ◌∙◌, arith, Contains, Option, None, Some, is_some, slice_get, slice_index, ◌==◌, eqb-false, eqb-true, get_or_default, Seen, SigId, some_reaction, KeepsTo, Reaction, Speaks, is_present, Memory, Kernel, Registers, is_true, no_registers, truths_of, with_at, with_signal, Operation, Needs, Precedes, Writes, present_written, written_by_one, written_present, guards_alone, needed_earlier, read_earlier, stands_once, stands_somewhere, slice_get_within, some_at, signal_same}
use Rattle.sig_meaning_laws.proofs.Agreement.{Compiled, truth_at, value_by_reads}
use Rattle.sig_meaning_laws.proofs.Numbers.{at_most_or}
use Rattle.sig_meaning_laws.proofs.Values.{value}

with_other : (y : SigId) (v : Seen) (f : Registers) (x : ℕ) → (y.0 ≡ x → ⊥) → with_at y.0 v f x ≡ f x
with_other y v f x apart = by (x == y.0) refl where
  by : (b : Bool) → (x == y.0) ≡ b → with_at y.0 v f x ≡ f x
  by true e = absurd (apart (sym (eqb-true x y.0 e)))
  by false e = ap (λ b. cond b v (f x)) e

with_same : (y : SigId) (v : Seen) (f : Registers) → with_at y.0 v f y.0 ≡ v
with_same y v f = by (y.0 == y.0) refl where
  by : (b : Bool) → (y.0 == y.0) ≡ b → with_at y.0 v f y.0 ≡ v
  by true e = ap (λ b. cond b v (f y.0)) e
  by false e = absurd (eqb-false y.0 y.0 e refl)

module _ (kernel : Kernel) (conditions : List SigId) (operations : List Operation) (order : List ℕ) (memory : Memory) (next : ℕ → ℤ) where
  -- an operation, where its guard holds of the registers
  abbrev pub did : Registers → Operation → Registers
  did registers p = cond (p.guard (truths_of conditions registers)) (with_signal p.writes (Some (value kernel memory next registers p)) registers) registers

  abbrev pub did_at : Registers → Option Operation → Registers
  did_at registers None = registers
  did_at registers (Some p) = did registers p

  -- the registers behind so many places of the order
  pub run : ℕ → Registers
  run zero = no_registers
  run (suc k) = did_at (run k) (slice_get operations (slice_index order k))

  pub run_next : (k : ℕ) → run (suc k) ≡ did_at (run k) (slice_get operations (slice_index order k))
  unfolding run
  run_next k = refl

  pub run_none : run zero ≡ no_registers
  unfolding run
  run_none = refl

  -- the operation at a place, which writes a signal, is done there
  pub record WritesAt (j : ℕ) (x : ℕ) : Type 0 where
    pub operation : Operation
    pub is : slice_get operations (slice_index order j) ≡ Some operation
    pub signal : SigId
    pub writes : Writes operation signal
    pub same : signal.0 ≡ x
    pub done : operation.guard (truths_of conditions (run j)) ≡ true

  one_unchanged : (k : ℕ) (x : ℕ) → (WritesAt k x → ⊥) → run (suc k) x ≡ run k x
  one_unchanged k x none = ap (λ r. r x) (run_next k) ∙ by (slice_get operations (slice_index order k)) refl where
    written : (p : Operation) → slice_get operations (slice_index order k) ≡ Some p → p.guard (truths_of conditions (run k)) ≡ true → (w : Option SigId) → p.writes ≡ w
        → with_signal w (Some (value kernel memory next (run k) p)) (run k) x ≡ run k x
    written p is done None e = refl
    written p is done (Some y) e = with_other y (Some (value kernel memory next (run k) p)) (run k) x (λ same. none (record { operation = p; is = is; signal = y; writes = e; same = same; done = done }))

    guarded : (p : Operation) → slice_get operations (slice_index order k) ≡ Some p → (b : Bool) → p.guard (truths_of conditions (run k)) ≡ b
        → cond b (with_signal p.writes (Some (value kernel memory next (run k) p)) (run k)) (run k) x ≡ run k x
    guarded p is true done = written p is done p.writes refl
    guarded p is false done = refl

    by : (found : Option Operation) → slice_get operations (slice_index order k) ≡ found → did_at (run k) found x ≡ run k x
    by None is = refl
    by (Some p) is = guarded p is (p.guard (truths_of conditions (run k))) refl

  -- a signal that is written at none of some places
  pub unchanged : (k m : ℕ) (x : ℕ) → k ≤ m → ((j : ℕ) → k ≤ j → j < m → WritesAt j x → ⊥) → run m x ≡ run k x
  unchanged k zero x le none = ap (λ n. run n x) (omega (arith, le))
  unchanged k (suc m) x le none = by (at_most_or k m) (λ before. unchanged k m x before (λ j above below. none j above (omega (arith, below)))) where
    by : (k ≤ m) ⊎ (m < k) → (k ≤ m → run m x ≡ run k x) → run (suc m) x ≡ run k x
    by (inl before) rest = one_unchanged m x (none m before (omega arith)) ∙ rest before
    by (inr at) rest = ap (λ n. run n x) (omega (arith, at, le))

  module _ (c : Compiled kernel conditions operations order) where
    abbrev pub count : ℕ
    count = length operations

    -- what is written in the end, and the truths of the conditions then
    abbrev pub final : Registers
    final = run count

    abbrev pub truths : List Bool
    truths = truths_of conditions final

    abbrev Rule : ℕ → ℕ → Type 0
    Rule = Precedes conditions operations

    -- a condition that is written at earlier places is settled
    settled : (k : ℕ) (x : ℕ) → k ≤ count
        → ((number : ℕ) (p : Operation) (y : SigId) → slice_get operations number ≡ Some p → Writes p y → y.0 ≡ x → (i : ℕ) × (i < k) × (slice_index order i ≡ number)) → final x ≡ run k x
    settled k x le earlier = unchanged k count x le (λ j above below w.
        let place = earlier (slice_index order j) w.operation w.signal w.is w.writes w.same in
        let same : place.0 ≡ j = stands_once Rule count order c.ordered place.0 j (omega (arith, place.1, le)) below place.2 in
        omega (arith, place.1, same, above))

    -- a guard has its final truth at its own place
    pub guard_settled : (k : ℕ) → k < count → (q : Operation) → slice_get operations (slice_index order k) ≡ Some q → q.guard (truths_of conditions (run k)) ≡ q.guard truths
    guard_settled k lt q at = c.agree (slice_index order k) q at (truths_of conditions (run k)) truths (λ v depends.
        let there = some_at conditions v (guards_alone kernel c.valid conditions operations c.has (slice_index order k) q at v depends) in
        let needs : Needs conditions q there.0 = record { variable = v; is = there.1; depends = depends } in
        let same : final there.0.0 ≡ run k there.0.0 = settled k there.0.0 (omega (arith, lt)) (λ number p y is_p writes e.
        needed_earlier kernel c.valid conditions operations c.has order c.ordered k lt q at there.0 needs number p is_p (writes ∙ ap Some (signal_same y there.0 e))) in
        truth_at conditions (run k) v there.0 there.1 ∙ ap is_true (sym same) ∙ sym (truth_at conditions final v there.0 there.1))

    -- a reaction that keeps to the final truths
    pub reaction : (a : Reaction) × Speaks kernel a × KeepsTo conditions truths a
    reaction = some_reaction kernel conditions c.has.clocks c.has.order truths

    -- a signal is written at one place at most
    pub one_writer : (i j : ℕ) (p : Operation) (x : SigId) → i < count → slice_get operations (slice_index order i) ≡ Some p → Writes p x → p.guard truths ≡ true
        → j < count → WritesAt j x.0 → i ≡ j
    one_writer i j p x lt at writes done below w =
        let also : w.operation.guard truths ≡ true = sym (guard_settled j below w.operation w.is) ∙ w.done in
        let one = written_by_one kernel c.valid conditions operations c.has truths reaction.0 reaction.1 reaction.2 (slice_index order i) (slice_index order j) p w.operation x at w.is writes
        (w.writes ∙ ap Some (signal_same w.signal x w.same)) done also in
        stands_once Rule count order c.ordered i j lt below one

    -- what an operation that is done writes stays
    pub written_stays : (k m : ℕ) (q : Operation) (x : SigId) → k < m → m ≤ count → slice_get operations (slice_index order k) ≡ Some q → Writes q x → q.guard truths ≡ true
        → run m x.0 ≡ Some (value kernel memory next (run k) q)
    written_stays k m q x lt le at writes done =
        unchanged (suc k) m x.0 (omega (arith, lt)) (λ j above below w.
        let same : k ≡ j = one_writer k j q x (omega (arith, lt, le)) at writes done (omega (arith, below, le)) w in omega (arith, same, above))
        ∙ ap (λ r. r x.0) (run_next k) ∙ ap (λ found. did_at (run k) found x.0) at
        ∙ ap (λ b. cond b (with_signal q.writes (Some (value kernel memory next (run k) q)) (run k)) (run k) x.0) (guard_settled k (omega (arith, lt, le)) q at ∙ done)
        ∙ ap (λ w. with_signal w (Some (value kernel memory next (run k) q)) (run k) x.0) writes ∙ with_same x (Some (value kernel memory next (run k) q)) (run k)

    -- what an operation that is done reads is there at its place, and stays
    pub read_there : (k : ℕ) → k < count → (q : Operation) → slice_get operations (slice_index order k) ≡ Some q → q.guard truths ≡ true → (x : SigId) → Contains q.reads x
        → (v : ℤ) × (run k x.0 ≡ Some v) × (final x.0 ≡ Some v)
    read_there k lt q at done x there =
        let e = read_earlier kernel c.valid conditions operations c.has order c.ordered k lt q at truths done x there in (
          value kernel memory next (run e.0) e.1,
          written_stays e.0 k e.1 x e.2 (omega (arith, lt)) e.3 e.4 e.5,
          written_stays e.0 count e.1 x (omega (arith, e.2, lt)) (omega arith) e.3 e.4 e.5,
        )

    -- what is written in the end, by what is read in the end
    pub finally_written : (k : ℕ) → k < count → (q : Operation) → slice_get operations (slice_index order k) ≡ Some q → q.guard truths ≡ true → (x : SigId) → Writes q x
        → final x.0 ≡ Some (value kernel memory next final q)
    finally_written k lt q at done x writes =
        written_stays k count q x lt (omega arith) at writes done
        ∙ ap Some (value_by_reads kernel conditions operations c.has memory next (slice_index order k) q at (run k) final (λ y there.
        let r = read_there k lt q at done y there in r.1 ∙ sym r.2))

    -- the place of an operation
    pub place_of : (number : ℕ) (p : Operation) → slice_get operations number ≡ Some p → (k : ℕ) × (k < count) × (slice_get operations (slice_index order k) ≡ Some p)
    place_of number p at =
        let somewhere = stands_somewhere Rule count order c.ordered number (slice_get_within operations number p at) in
        let lt : somewhere.0 < count = omega (arith, somewhere.1, c.ordered.all) in
        (somewhere.0, lt, ap (slice_get operations) (get_or_default order somewhere.0 0 number somewhere.1 ∙ somewhere.2) ∙ at)

    -- a signal is written in the end exactly where the reaction has it
    pub finally_present : (x : SigId) → x.0 < length kernel.signals → is_some (final x.0) ≡ is_present reaction.0 x.0
    finally_present x lt = by (is_present reaction.0 x.0) refl where
      by : (b : Bool) → is_present reaction.0 x.0 ≡ b → is_some (final x.0) ≡ b
      by true e =
          let w = present_written kernel c.valid conditions operations c.has truths reaction.0 reaction.1 reaction.2 x lt e in
          let p = place_of w.0 w.1 w.2 in
          ap is_some (finally_written p.0 p.1 w.1 p.2 w.4 x w.3)
      by false e = ap is_some (unchanged 0 count x.0 (omega arith) (λ j above below w.
          let present = written_present kernel c.valid conditions operations c.has truths reaction.0 reaction.1 reaction.2 (slice_index order j) w.operation w.signal w.is w.writes
          (sym (guard_settled j below w.operation w.is) ∙ w.done) in
          let same : is_present reaction.0 w.signal.0 ≡ false = ap (is_present reaction.0) w.same ∙ e in
          let clash : true ≡ false = sym present ∙ same in cc) ∙ ap (λ r. r x.0) run_none)

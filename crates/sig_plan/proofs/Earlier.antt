-- In the compiled order what an operation needs stands before it, and guards depend on conditions alone.
use Rattle.sig_plan.proofs.Common.{◌≡◌, ◌≢◌, ◌<◌, ◌≤◌, inl, inr, ◌&&◌, ℕ, Bool, true, false, not, List, length, sym, ap, ◌∙◌, subst, arith, Contains, None, Some, slice_get, slice_index, cases_lt, All-contains, SigId, absent_makes_none, some_reaction, Allows, KeepsTo, Reaction, Speaks, status_at, Depends-of_two, truth_of-with_other, Depends, with_truth, IsIdle, IsValid, Kernel, HasOperations, Guard, Operation, operations_of, without, ComesBefore, IsCompiledOrder, Needs, Precedes, Writes, contains_at, slice_get_within}
use Rattle.sig_plan.proofs.Done.{present_written, read_present}
use Rattle.sig_plan.proofs.EachOperation.{each_guard}
use Rattle.sig_plan.proofs.Indices.{read_below}
use Rattle.sig_plan.proofs.Orders.{kept_order}

module _ (kernel : Kernel) (valid : IsValid kernel) (conditions : List SigId) (operations : List Operation) (has : HasOperations kernel conditions operations) where
  -- what holds of the clock functions, and of where one is true and another one is not, holds of each guard
  of_guard : (P : Guard → Type 0) → ((x : SigId) → x.0 < length kernel.signals → P (has.presence x)) → ((u v : SigId) → u.0 < length kernel.signals → v.0 < length kernel.signals → P (without (has.presence v) (has.presence u)))
      → (number : ℕ) (p : Operation) → slice_get operations number ≡ Some p → P p.guard
  of_guard P one two number p is =
      All-contains (λ (q : Operation). P q.guard) (operations_of kernel has.presence) p (each_guard kernel has.presence P valid one two)
      (subst (λ (ps : List Operation). Contains ps p) has.are (contains_at operations number p is))

  -- ---- guards depend on conditions alone

  beyond : (v : ℕ) (ts : List Bool) (x y : Bool) → length conditions ≤ v → (reaction : Reaction) → KeepsTo conditions (with_truth ts v x) reaction → KeepsTo conditions (with_truth ts v y) reaction
  beyond v ts x y most reaction keeps u condition is =
      let lt = slice_get_within conditions u condition is in
      let apart : u ≢ v = λ e. omega (arith, e, lt, most) in
      subst (Allows (status_at reaction condition.0)) (truth_of-with_other ts v x u apart ∙ sym (truth_of-with_other ts v y u apart)) (keeps u condition is)

  presence_alone : (x : SigId) → x.0 < length kernel.signals → (v : ℕ) → Depends (has.presence x) v → v < length conditions
  presence_alone x within v (ts, ne) = elim (cases_lt v (length conditions)) [
    | inl lt ↦ lt
    | inr most ↦
        let found = some_reaction kernel conditions has.clocks has.order (with_truth ts v false) in
        let is = has.functions x.0 within in
        absurd (ne (sym (is (with_truth ts v false) found.0 found.1 found.2) ∙ is (with_truth ts v true) found.0 found.1 (beyond v ts false true most found.0 found.2)))
  ]

  pub guards_alone : (number : ℕ) (p : Operation) → slice_get operations number ≡ Some p → (v : ℕ) → Depends p.guard v → v < length conditions
  guards_alone = of_guard (λ guard. (v : ℕ) → Depends guard v → v < length conditions) presence_alone (λ u w within_u within_w v d.
      elim (Depends-of_two (λ a b. a && not b) (has.presence w) (has.presence u) v d) [
        | inl one ↦ presence_alone w within_w v one
        | inr two ↦ presence_alone u within_u v two
      ])

  -- ---- absent conditions make no difference to guards

  module _ (proposal : List Bool) (reaction : Reaction) (speaks : Speaks kernel reaction) (keeps : KeepsTo conditions proposal reaction) (v : ℕ) (condition : SigId) (at : slice_get conditions v ≡ Some condition) (absent : status_at reaction condition.0 ≡ None) where
    presence_idle : (x : SigId) → x.0 < length kernel.signals → IsIdle (has.presence x) proposal v
    presence_idle x within other agree =
        absent_makes_none kernel conditions has.clocks has.order x.0 (has.presence x) (has.functions x.0 within) reaction proposal other v condition speaks keeps at absent agree

    pub guards_idle : (number : ℕ) (p : Operation) → slice_get operations number ≡ Some p → IsIdle p.guard proposal v
    guards_idle = of_guard (λ guard. IsIdle guard proposal v) presence_idle (λ u w within_u within_w other agree.
        let one = presence_idle w within_w other agree in
        let two = presence_idle u within_u other agree in
        λ j. one j && not (two j))

  -- ---- earlier places

  module _ (order : List ℕ) (is : IsCompiledOrder conditions operations order) (j : ℕ) (lt : j < length operations) (q : Operation) (at : slice_get operations (slice_index order j) ≡ Some q) where
    before : (number : ℕ) (p : Operation) → slice_get operations number ≡ Some p → ComesBefore conditions p q → (i : ℕ) × (i < j) × (slice_index order i ≡ number)
    before number p there comes =
        kept_order (Precedes conditions operations) (length operations) order is j lt number (record { p = p; q = q; is = there; other = at; before = comes })

    -- what a guard needs is written at earlier places
    pub needed_earlier : (condition : SigId) → Needs conditions q condition → (number : ℕ) (p : Operation) → slice_get operations number ≡ Some p → Writes p condition → (i : ℕ) × (i < j) × (slice_index order i ≡ number)
    needed_earlier condition needs number p there writes = before number p there (inr (inl (record { condition = condition; writes = writes; needs = needs })))

    -- and what is read where the operation is done, by one that is done too
    pub read_earlier : (proposal : List Bool) → q.guard proposal ≡ true → (x : SigId) → Contains q.reads x
        → (i : ℕ) × (p : Operation) × (i < j) × (slice_get operations (slice_index order i) ≡ Some p) × Writes p x × (p.guard proposal ≡ true)
    read_earlier proposal done x reads =
        let within = read_below kernel valid conditions operations has (slice_index order j) q at x reads in
        let found = some_reaction kernel conditions has.clocks has.order proposal in
        let present = read_present kernel valid conditions operations has proposal found.0 found.1 found.2 (slice_index order j) q x at reads done in
        let there = present_written kernel valid conditions operations has proposal found.0 found.1 found.2 x within present in
        let place = before there.0 there.1 there.2 (inl (record { signal = x; writes = there.3; reads = reads; together = (proposal, there.4, done) })) in
        (place.0, there.1, place.1, ap (slice_get operations) place.2 ∙ there.2, there.3, there.4)

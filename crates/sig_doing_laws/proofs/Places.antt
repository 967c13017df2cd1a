-- The operations at the places of a plan's order.
use Rattle.sig_doing_laws.proofs.Common.{compiled_operations, compiled_order, ◌≡◌, ◌<◌, ◌≤◌, ◌+◌, ◌⊎◌, inl, inr, ℕ, zero, suc, List, [], ◌∷◌, length, refl, ap, sym, subst, ◌∙◌, arith, Some, slice_get, slice_index, length-map, Instant, EqId, OpId, SigId, Node, IsDone, IsWrittenBefore, StandsAt, StandsBefore, Decided, at_most_or, Operation, operation_in, operations_in, IsAccepted, PlanView, numbers_of, Op, OpKind, Read, Store, slice_get-get_or, got, some_at, cases_eq}

-- ---- operations, and their numbers

made_at : (nodes : List Node) (ops : List Op) (number : ℕ) (op : Op) → slice_get ops number ≡ Some op → slice_get (operations_in nodes ops) number ≡ Some (operation_in nodes op)
made_at nodes [] number op is = absurd (let e = is in cc)
made_at nodes (o ∷ ops) zero op is = let e : Some o ≡ Some op = is in let one : o ≡ op = cc in ap (λ (z : Op). Some (operation_in nodes z)) one
made_at nodes (o ∷ ops) (suc number) op is = made_at nodes ops number op is

made_of : (nodes : List Node) (ops : List Op) (number : ℕ) (p : Operation) → slice_get (operations_in nodes ops) number ≡ Some p
    → (op : Op) × (slice_get ops number ≡ Some op) × (operation_in nodes op ≡ p)
made_of nodes [] number p is = absurd (let e = is in cc)
made_of nodes (op ∷ ops) zero p is = (op, refl, let e : Some (operation_in nodes op) ≡ Some p = is in cc)
made_of nodes (op ∷ ops) (suc number) p is = made_of nodes ops number p is

number_at : (ids : List OpId) (k : ℕ) (id : OpId) → slice_get ids k ≡ Some id → slice_get (numbers_of ids) k ≡ Some id.0
number_at [] k id is = absurd (let e = is in cc)
number_at (i ∷ ids) zero id is = let e : Some i ≡ Some id = is in let one : i ≡ id = cc in ap (λ (z : OpId). Some z.0) one
number_at (i ∷ ids) (suc k) id is = number_at ids k id is

id_at : (ids : List OpId) (k n : ℕ) → slice_get (numbers_of ids) k ≡ Some n → (id : OpId) × (slice_get ids k ≡ Some id) × (id.0 ≡ n)
id_at [] k n is = absurd (let e = is in cc)
id_at (i ∷ ids) zero n is = (i, refl, let e : Some i.0 ≡ Some n = is in cc)
id_at (i ∷ ids) (suc k) n is = id_at ids k n is

module _ (plan : PlanView) where
  pub places : length (compiled_order plan) ≡ length plan.order
  places = length-map plan.order (λ (id : OpId). id.0)

  -- what stands at a place, as an operation of the kernel
  pub at_place : (k : ℕ) (op : Op) → StandsAt plan k op → (k < length (compiled_order plan)) × (slice_get (compiled_operations plan) (slice_index (compiled_order plan) k) ≡ Some (operation_in plan.store.nodes op))
  at_place k op stands =
      let there = got (compiled_order plan) k 0 stands.number.0 (number_at plan.order k stands.number stands.ordered) in
      (there.0, ap (slice_get (compiled_operations plan)) there.1 ∙ made_at plan.store.nodes plan.ops stands.number.0 op stands.is)

  pub to_place : (k : ℕ) (p : Operation) → k < length (compiled_order plan) → slice_get (compiled_operations plan) (slice_index (compiled_order plan) k) ≡ Some p → (op : Op) × StandsAt plan k op × (operation_in plan.store.nodes op ≡ p)
  to_place k p lt at =
      let id = id_at plan.order k (slice_index (compiled_order plan) k) (slice_get-get_or (compiled_order plan) k 0 lt) in
      let made = made_of plan.store.nodes plan.ops (slice_index (compiled_order plan) k) p at in
      (made.0, record { number = id.0; ordered = id.1; is = ap (slice_get plan.ops) id.2 ∙ made.1 }, made.2)

  -- one operation stands at a place
  pub one_at : (k : ℕ) (a b : Op) → StandsAt plan k a → StandsAt plan k b → a ≡ b
  one_at k a b one two =
      let numbers : Some one.number ≡ Some two.number = sym one.ordered ∙ two.ordered in
      let same : one.number ≡ two.number = cc in
      let ops : Some a ≡ Some b = sym one.is ∙ ap (λ (id : OpId). slice_get plan.ops id.0) same ∙ two.is in
      cc

  -- ---- what stands before a place, and before the next one

  pub stands_later : (k : ℕ) (kind : OpKind) → StandsBefore plan k kind → StandsBefore plan (k + 1) kind
  stands_later k kind b = record { at = b.at; earlier = omega (arith, b.earlier); op = b.op; stands = b.stands; does = b.does }

  pub stands_here : (k : ℕ) (op : Op) → StandsAt plan k op → (kind : OpKind) → op.kind ≡ kind → StandsBefore plan (k + 1) kind
  stands_here k op stands kind does = record { at = k; earlier = omega arith; op = op; stands = stands; does = does }

  pub stands_before_or_here : (k : ℕ) (op : Op) → StandsAt plan k op → (kind : OpKind) → StandsBefore plan (k + 1) kind → StandsBefore plan k kind ⊎ (op.kind ≡ kind)
  stands_before_or_here k op stands kind b = by (at_most_or k b.at) where
    by : (k ≤ b.at) ⊎ (b.at < k) → StandsBefore plan k kind ⊎ (op.kind ≡ kind)
    by (inl le) =
        let same : b.at ≡ k = omega (arith, le, b.earlier) in
        let one : b.op ≡ op = one_at k b.op op (subst (λ n. StandsAt plan n b.op) same b.stands) stands in
        inr (ap (λ (o : Op). o.kind) (sym one) ∙ b.does)
    by (inr lt) = inl (record { at = b.at; earlier = lt; op = b.op; stands = b.stands; does = b.does })

  module _ (instant : Instant) where
    pub written_later : (k : ℕ) (x : SigId) → IsWrittenBefore plan instant k x → IsWrittenBefore plan instant (k + 1) x
    written_later k x w = record { at = w.at; earlier = omega (arith, w.earlier); op = w.op; stands = w.stands; writes = w.writes; done = w.done }

    pub written_here : (k : ℕ) (op : Op) → StandsAt plan k op → IsDone plan instant op → (x : SigId) → op.writes ≡ Some x → IsWrittenBefore plan instant (k + 1) x
    written_here k op stands done x writes = record { at = k; earlier = omega arith; op = op; stands = stands; writes = writes; done = done }

    pub written_before_or_here : (k : ℕ) (op : Op) → StandsAt plan k op → (x : SigId) → IsWrittenBefore plan instant (k + 1) x
        → IsWrittenBefore plan instant k x ⊎ ((op.writes ≡ Some x) × IsDone plan instant op)
    written_before_or_here k op stands x w = by (at_most_or k w.at) where
      by : (k ≤ w.at) ⊎ (w.at < k) → IsWrittenBefore plan instant k x ⊎ ((op.writes ≡ Some x) × IsDone plan instant op)
      by (inl le) =
          let same : w.at ≡ k = omega (arith, le, w.earlier) in
          let one : w.op ≡ op = one_at k w.op op (subst (λ n. StandsAt plan n w.op) same w.stands) stands in
          inr (ap (λ (o : Op). o.writes) (sym one) ∙ w.writes, subst (λ (o : Op). IsDone plan instant o) one w.done)
      by (inr lt) = inl (record { at = w.at; earlier = lt; op = w.op; stands = w.stands; writes = w.writes; done = w.done })

-- ---- whether an operation of a kind stands before a place

pub decide_store : (e : EqId) (kind : OpKind) → Decided (kind ≡ Store e)
decide_store e (Store d) = elim (cases_eq d.0 e.0) [
  | inl same ↦ inl (let one : d ≡ e = λ j. record { 0 = same j } in ap Store one)
  | inr apart ↦ inr (λ is. apart (let f : Store d ≡ Store e = is in let one : d ≡ e = cc in ap (λ (n : EqId). n.0) one))
]
decide_store e (Read x) = inr (λ is. let f : Read x ≡ Store e = is in cc)
decide_store e kind = inr (λ is. let f : kind ≡ Store e = is in cc)

pub decide_read : (x : SigId) (kind : OpKind) → Decided (kind ≡ Read x)
decide_read x (Read z) = elim (cases_eq z.0 x.0) [
  | inl same ↦ inl (let one : z ≡ x = λ j. record { 0 = same j } in ap Read one)
  | inr apart ↦ inr (λ is. apart (let f : Read z ≡ Read x = is in let one : z ≡ x = cc in ap (λ (n : SigId). n.0) one))
]
decide_read x (Store e) = inr (λ is. let f : Store e ≡ Read x = is in cc)
decide_read x kind = inr (λ is. let f : kind ≡ Read x = is in cc)

module _ (plan : PlanView) (accepted : IsAccepted plan) where
  -- each place has an operation
  pub stands_there : (k : ℕ) → k < length (numbers_of plan.order) → (op : Op) × StandsAt plan k op
  stands_there k lt =
      let operations = operations_in plan.store.nodes plan.ops in
      let order = numbers_of plan.order in
      let full : length order ≡ length operations = accepted.order.all in
      let p = some_at operations (slice_index order k) (accepted.order.each k (omega (arith, lt, full))).holds.within in
      let there = to_place plan k p.0 lt p.1 in
      (there.0, there.1)

  pub decide_before : (kind : OpKind) → ((other : OpKind) → Decided (other ≡ kind)) → (k : ℕ) → k ≤ length (numbers_of plan.order) → Decided (StandsBefore plan k kind)
  decide_before kind same zero le = inr (λ b. omega (arith, b.earlier))
  decide_before kind same (suc k) le = subst (λ n. Decided (StandsBefore plan n kind)) (omega arith) (by (decide_before kind same k (omega (arith, le))) (stands_there k (omega (arith, le)))) where
    at : (op : Op) → StandsAt plan k op → (StandsBefore plan k kind → ⊥) → Decided (op.kind ≡ kind) → Decided (StandsBefore plan (k + 1) kind)
    at op stands none (inl is) = inl (stands_here plan k op stands kind is)
    at op stands none (inr apart) = inr (λ b. elim (stands_before_or_here plan k op stands kind b) [ inl before ↦ none before | inr is ↦ apart is ])

    by : Decided (StandsBefore plan k kind) → (op : Op) × StandsAt plan k op → Decided (StandsBefore plan (k + 1) kind)
    by (inl before) there = inl (stands_later plan k kind before)
    by (inr none) there = at there.0 there.1 none (same there.0.kind)

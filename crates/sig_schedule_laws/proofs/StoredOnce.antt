-- The memory of a delay is stored into by one operation, of the cluster of the delay's signal.
use Rattle.sig_schedule_laws.proofs.Common.{◌≡◌, ◌<◌, ◌≤◌, ◌+◌, ◌++◌, inl, inr, ℕ, zero, suc, ℤ, Bool, true, false, List, [], ◌∷◌, map, refl, ap, sym, ◌∙◌, arith, Contains, All, Some, slice_get, ◌==◌, range_with_len, eq-eqb, ne_eqb, All-cons, All-contains, All-nil, EqId, SigId, signal_id, Equation, Form, Fun, Delay, When, WhenConst, Default, Sync, Kernel, form_for, has_form, Operation, Presence, cluster_at, equation_id, of_each, operations_of, read_of, signals_of, store_of, stores_of, without, writes_of, writing, OpKind, Read, Compute, Left, Right, DelayRead, Store, one_of, one_place, tally, tally_append, tally_cons, tally_none, each_operation, only, cases_eq}
use Rattle.sig_kernel.specs.declared.equation.Form.TheVariants.{Event}

-- an operation stores into the memory of the delay of a number
abbrev is_store : ℕ → OpKind → Bool
is_store m (Store d) = d.0 == m
is_store m _ = false

module _ (kernel : Kernel) (presence : Presence) (m : ℕ) where
  abbrev stores : Operation → Bool
  stores p = is_store m p.kind

  other : (p : Operation) → stores p ≡ false → (ps : List Operation) → tally stores ps ≡ 0 → tally stores (p ∷ ps) ≡ 0
  other p is ps rest =
      let more : tally stores (p ∷ ps) ≡ one_of (stores p) + tally stores ps = tally_cons stores p ps in
      let none : one_of (stores p) ≡ 0 = ap one_of is in
      omega (arith, more, none, rest)

  writes_none : (number : EqId) (form : Form) → tally stores (writes_of kernel.signals presence number form) ≡ 0
  writes_none number (Fun y op operands) = other (writing kernel.signals number Compute (presence y) y (signals_of operands)) refl [] (tally_none stores)
  writes_none number (When y x b) = other (writing kernel.signals number Compute (presence y) y (x ∷ [])) refl [] (tally_none stores)
  writes_none number (WhenConst y k b) = other (writing kernel.signals number Compute (presence y) y []) refl [] (tally_none stores)
  writes_none number (Event y x) = other (writing kernel.signals number Compute (presence y) y []) refl [] (tally_none stores)
  writes_none number (Delay y x initial) = other (writing kernel.signals number DelayRead (presence y) y []) refl [] (tally_none stores)
  writes_none number (Sync x y) = tally_none stores
  writes_none number (Default y u v) =
      other (writing kernel.signals number Left (presence u) y (u ∷ [])) refl (writing kernel.signals number Right (without (presence v) (presence u)) y (v ∷ []) ∷ [])
      (other (writing kernel.signals number Right (without (presence v) (presence u)) y (v ∷ [])) refl [] (tally_none stores))

  all_writes_none : (n : ℕ) (equations : List Equation) → tally stores (of_each (writes_of kernel.signals presence) n equations) ≡ 0
  all_writes_none n [] = tally_none stores
  all_writes_none n (equation ∷ equations) =
      let both = tally_append stores (writes_of kernel.signals presence (equation_id n) equation.form) (of_each (writes_of kernel.signals presence) (n + 1) equations) in
      let first = writes_none (equation_id n) equation.form in
      let rest = all_writes_none (n + 1) equations in
      omega (arith, both, first, rest)

  abbrev reads : ℕ → ℕ → List Operation
  reads a n = map (λ number. read_of kernel.signals presence (signal_id number)) (range_with_len a n)

  reads_none : (a n : ℕ) → tally stores (reads a n) ≡ 0
  reads_none a zero = tally_none stores
  reads_none a (suc n) = other (read_of kernel.signals presence (signal_id a)) refl (reads (a + 1) n) (reads_none (a + 1) n)

  at_most_one : (b : Bool) → one_of b ≤ 1
  at_most_one true = omega arith
  at_most_one false = omega arith

  -- the equation of a number has at most one store, and only that of the delay is it
  stored_by : (n : ℕ) (form : Form) → (tally stores (stores_of kernel.signals presence (equation_id n) form) ≤ 1) × ((n ≡ m → ⊥) → tally stores (stores_of kernel.signals presence (equation_id n) form) ≡ 0)
  stored_by n (Delay y x initial) =
      let p : Operation = store_of kernel.signals presence (equation_id n) y x in
      let more : tally stores (p ∷ []) ≡ one_of (n == m) + tally stores [] = tally_cons stores p [] in
      let none = tally_none stores in (
        omega (arith, more, none, at_most_one (n == m)),
        λ apart. let zeroed : one_of (n == m) ≡ 0 = ap one_of (ne_eqb n m apart) in omega (arith, more, none, zeroed),
      )
  stored_by n _ = let none = tally_none stores in (omega (arith, none), λ apart. none)

  all_stored : (n : ℕ) (equations : List Equation) → (tally stores (of_each (stores_of kernel.signals presence) n equations) ≤ 1) × (m < n → tally stores (of_each (stores_of kernel.signals presence) n equations) ≡ 0)
  all_stored n [] = let none = tally_none stores in (omega (arith, none), λ lt. none)
  all_stored n (equation ∷ equations) =
      let both = tally_append stores (stores_of kernel.signals presence (equation_id n) equation.form) (of_each (stores_of kernel.signals presence) (n + 1) equations) in
      let first = stored_by n equation.form in
      let rest = all_stored (n + 1) equations in (
        elim (cases_eq n m) [
          | inl same ↦ omega (arith, both, first.0, rest.1 (omega (arith, same)))
          | inr apart ↦ omega (arith, both, first.1 apart, rest.0)
        ],
        λ lt. omega (arith, both, first.1 (λ e. omega (arith, e, lt)), rest.1 (omega (arith, lt))),
      )

  few_stores : tally stores (operations_of kernel presence) ≤ 1
  few_stores =
      let front = reads 0 kernel.inputs ++ of_each (writes_of kernel.signals presence) 0 kernel.equations in
      let all = tally_append stores front (of_each (stores_of kernel.signals presence) 0 kernel.equations) in
      let firsts = tally_append stores (reads 0 kernel.inputs) (of_each (writes_of kernel.signals presence) 0 kernel.equations) in
      omega (arith, all, firsts, reads_none 0 kernel.inputs, all_writes_none 0 kernel.equations, (all_stored 0 kernel.equations).0)

-- one operation stores into a memory
pub stores_once : (kernel : Kernel) (presence : Presence) (e : EqId) (i j : ℕ) (p q : Operation) → slice_get (operations_of kernel presence) i ≡ Some p → slice_get (operations_of kernel presence) j ≡ Some q
    → p.kind ≡ Store e → q.kind ≡ Store e → i ≡ j
stores_once kernel presence e i j p q at_i at_j one two =
    one_place (stores kernel presence e.0) (operations_of kernel presence) (few_stores kernel presence e.0) i j p q at_i at_j (ap (is_store e.0) one ∙ eq-eqb e.0 e.0 refl) (ap (is_store e.0) two ∙ eq-eqb e.0 e.0 refl)

-- ---- a store belongs to the cluster of the signal that its delay defines

module _ (kernel : Kernel) (presence : Presence) where
  abbrev IsOfDelay : Operation → Type 0
  IsOfDelay p = (e : EqId) (y x : SigId) (initial : ℤ) → p.kind ≡ Store e → form_for kernel (Some e) ≡ Some (Delay y x initial) → p.cluster ≡ cluster_at kernel.signals y

  abbrev HasForm : EqId → Form → Type 0
  HasForm number form = form_for kernel (Some number) ≡ Some form

  computes : (e : EqId) → Compute ≡ Store e → ⊥
  computes e is = cc

  writes_of_delay : (number : EqId) (form : Form) → HasForm number form → All IsOfDelay (writes_of kernel.signals presence number form)
  writes_of_delay number (Fun y op operands) has = only IsOfDelay (writing kernel.signals number Compute (presence y) y (signals_of operands)) (λ e z x initial kind is. absurd (computes e kind))
  writes_of_delay number (When y u b) has = only IsOfDelay (writing kernel.signals number Compute (presence y) y (u ∷ [])) (λ e z x initial kind is. absurd (computes e kind))
  writes_of_delay number (WhenConst y k b) has = only IsOfDelay (writing kernel.signals number Compute (presence y) y []) (λ e z x initial kind is. absurd (computes e kind))
  writes_of_delay number (Event y u) has = only IsOfDelay (writing kernel.signals number Compute (presence y) y []) (λ e z x initial kind is. absurd (computes e kind))
  writes_of_delay number (Delay y u i) has = only IsOfDelay (writing kernel.signals number DelayRead (presence y) y []) (λ e z x initial kind is. absurd (let f : DelayRead ≡ Store e = kind in cc))
  writes_of_delay number (Sync u y) has = All-nil IsOfDelay
  writes_of_delay number (Default y u v) has =
      All-cons IsOfDelay (writing kernel.signals number Left (presence u) y (u ∷ [])) (writing kernel.signals number Right (without (presence v) (presence u)) y (v ∷ []) ∷ [])
      (λ e z x initial kind is. absurd (let f : Left ≡ Store e = kind in cc))
      (only IsOfDelay (writing kernel.signals number Right (without (presence v) (presence u)) y (v ∷ [])) (λ e z x initial kind is. absurd (let f : Right ≡ Store e = kind in cc)))

  stores_of_delay : (number : EqId) (form : Form) → HasForm number form → All IsOfDelay (stores_of kernel.signals presence number form)
  stores_of_delay number (Delay y u i) has = only IsOfDelay (store_of kernel.signals presence number y u) (λ e z x initial kind is.
      let f : Store number ≡ Store e = kind in
      let one : number ≡ e = cc in
      let g : Some (Delay y u i) ≡ Some (Delay z x initial) = sym has ∙ ap (λ (n : EqId). form_for kernel (Some n)) one ∙ is in
      let same : y ≡ z = cc in
      ap (cluster_at kernel.signals) same)
  stores_of_delay number _ has = All-nil IsOfDelay

  pub store_cluster : (p : Operation) → Contains (operations_of kernel presence) p → IsOfDelay p
  store_cluster p among = All-contains IsOfDelay (operations_of kernel presence) p
      (each_operation IsOfDelay kernel presence HasForm (has_form kernel) (λ number lt e z x initial kind is. absurd (let f : Read (signal_id number) ≡ Store e = kind in cc)) writes_of_delay stores_of_delay) among

-- The operations of a valid kernel write its signals.
use Rattle.sig_plan.proofs.Common.{◌≡◌, ◌<◌, ◌≤◌, ◌+◌, ◌⊎◌, inl, inr, ◌&&◌, ℕ, Bool, true, false, cond, List, [], ◌∷◌, ◌++◌, length, map, refl, sym, ap, ◌∙◌, subst, arith, Contains, All, Some, fold, nat_lt, slice_get, range_with_len, count_by, AllPass, list_all, cases_order, eqb-true, false≢true, ltb-true, get_or-range_with_len, length-range_with_len, All-append, All-cons, All-contains, All-from_get_or, All-head, All-map, All-tail, Contains-append_left, Contains-append_right, EqId, SigId, Signal, signal_id, operands_of, target_of, IsValid, defines, form_within, is_target, operand_within, target_within, Equation, Form, Fun, Delay, When, WhenConst, Default, Sync, Event, Kernel, Guard, Operation, Presence, cluster_at, cluster_of, equation_id, of_each, operations_of, read_of, signals_of, store_of, stores_of, without, writes_of, writing, Writes, OpKind, Compute, Left, Right, DelayRead, AreWritten, at_contained, contains_at, contains_head, slice_get-get_or, get_map, some_at}
use Rattle.sig_plan.proofs.Lists.{signal_same}

-- the operation writes signals of its own cluster
abbrev IsOwn : List Signal → Operation → Type 0
IsOwn signals p = (x : SigId) → Writes p x → (owner : Signal) × (slice_get signals x.0 ≡ Some owner) × (p.cluster ≡ owner.cluster)

module _ (signals : List Signal) where
  own_none : All (IsOwn signals) []
  own_none = λ k d less. absurd (omega (arith, less))

  own_one : (p : Operation) → IsOwn signals p → All (IsOwn signals) (p ∷ [])
  own_one p own = All-cons (IsOwn signals) p [] own own_none

  own_at : (p : Operation) (y : SigId) → y.0 < length signals → p.writes ≡ Some y → p.cluster ≡ cluster_at signals y → IsOwn signals p
  own_at p y lt writes cluster x is =
      let got = some_at signals y.0 lt in
      let same : y ≡ x = (let e : Some y ≡ Some x = sym writes ∙ is in cc) in
      (got.0, ap (λ (s : SigId). slice_get signals s.0) (sym same) ∙ got.1, cluster ∙ ap cluster_of got.1)

  module _ (presence : Presence) where
    reads_own : (n : ℕ) → n ≤ length signals → All (IsOwn signals) (map (λ number. read_of signals presence (signal_id number)) (range_with_len 0 n))
    reads_own n most = All-map (IsOwn signals) (λ number. read_of signals presence (signal_id number)) (range_with_len 0 n)
        (All-from_get_or (λ (number : ℕ). IsOwn signals (read_of signals presence (signal_id number))) (range_with_len 0 n) 0 (λ i less.
        let lt : i < n = omega (arith, less, length-range_with_len 0 n) in
        let at : 0 + i < length signals = omega (arith, lt, most) in
        subst (λ (number : ℕ). IsOwn signals (read_of signals presence (signal_id number))) (sym (get_or-range_with_len 0 n i 0 lt))
        (own_at (read_of signals presence (signal_id (0 + i))) (signal_id (0 + i)) at refl refl)))

    and_left : (a b : Bool) → (a && b) ≡ true → a ≡ true
    and_left true b is = refl
    and_left false b is = absurd (false≢true is)

    below : (form : Form) (y : SigId) → target_of form ≡ Some y → form_within (length signals) form ≡ true → y.0 < length signals
    below form y target within =
        let first : target_within (length signals) (target_of form) ≡ true = and_left (target_within (length signals) (target_of form)) (list_all (operand_within (length signals)) (operands_of form)) within in
        let is : nat_lt y.0 (length signals) ≡ true = sym (ap (target_within (length signals)) target) ∙ first in
        ltb-true y.0 (length signals) is

    own_writing : (number : EqId) (kind : OpKind) (guard : Guard) (y : SigId) (reads : List SigId) → y.0 < length signals → IsOwn signals (writing signals number kind guard y reads)
    own_writing number kind guard y reads lt = own_at (writing signals number kind guard y reads) y lt refl refl

    own_single : (number : EqId) (kind : OpKind) (guard : Guard) (y : SigId) (reads : List SigId) → y.0 < length signals → All (IsOwn signals) (writing signals number kind guard y reads ∷ [])
    own_single number kind guard y reads lt = own_one (writing signals number kind guard y reads) (own_writing number kind guard y reads lt)

    form_own : (number : EqId) (form : Form) → form_within (length signals) form ≡ true → All (IsOwn signals) (writes_of signals presence number form)
    form_own number (Fun y op operands) within = own_single number Compute (presence y) y (signals_of operands) (below (Fun y op operands) y refl within)
    form_own number (When y x b) within = own_single number Compute (presence y) y (x ∷ []) (below (When y x b) y refl within)
    form_own number (WhenConst y constant b) within = own_single number Compute (presence y) y [] (below (WhenConst y constant b) y refl within)
    form_own number (Event y x) within = own_single number Compute (presence y) y [] (below (Event y x) y refl within)
    form_own number (Default y u v) within =
        let lt = below (Default y u v) y refl within in
        let right : Guard = without (presence v) (presence u) in
        All-cons (IsOwn signals) (writing signals number Left (presence u) y (u ∷ [])) (writing signals number Right right y (v ∷ []) ∷ [])
        (own_writing number Left (presence u) y (u ∷ []) lt) (own_single number Right right y (v ∷ []) lt)
    form_own number (Delay y x initial) within = own_single number DelayRead (presence y) y [] (below (Delay y x initial) y refl within)
    form_own number (Sync x y) within = own_none

    writes_own : (n : ℕ) (equations : List Equation) → AllPass (λ equation. form_within (length signals) equation.form) equations → All (IsOwn signals) (of_each (writes_of signals presence) n equations)
    writes_own n [] within = own_none
    writes_own n (equation ∷ equations) within =
        let passes : Equation → Type 0 = λ e. form_within (length signals) e.form ≡ true in
        All-append (IsOwn signals) (writes_of signals presence (equation_id n) equation.form) (of_each (writes_of signals presence) (n + 1) equations)
        (form_own (equation_id n) equation.form (All-head passes equation equations within)) (writes_own (n + 1) equations (All-tail passes equation equations within))

    store_own : (number : EqId) (form : Form) → All (IsOwn signals) (stores_of signals presence number form)
    store_own number (Delay y x initial) = own_one (store_of signals presence number y x) (λ z is. cc)
    store_own number _ = own_none

    stores_own : (n : ℕ) (equations : List Equation) → All (IsOwn signals) (of_each (stores_of signals presence) n equations)
    stores_own n [] = own_none
    stores_own n (equation ∷ equations) =
        All-append (IsOwn signals) (stores_of signals presence (equation_id n) equation.form) (of_each (stores_of signals presence) (n + 1) equations)
        (store_own (equation_id n) equation.form) (stores_own (n + 1) equations)

    written_by : (x : SigId) (number : EqId) (kind : OpKind) (guard : Guard) (y : SigId) (reads : List SigId) (rest : List Operation) → is_target x.0 (Some y) ≡ true
        → (p : Operation) × Contains (writing signals number kind guard y reads ∷ rest) p × Writes p x
    written_by x number kind guard y reads rest is =
        (writing signals number kind guard y reads, contains_head (writing signals number kind guard y reads) rest, ap Some (signal_same y x (eqb-true y.0 x.0 is)))

    -- a form that defines a signal has an operation that writes it
    form_writes : (x : SigId) (number : EqId) (form : Form) → is_target x.0 (target_of form) ≡ true → (p : Operation) × Contains (writes_of signals presence number form) p × Writes p x
    form_writes x number (Fun y op operands) is = written_by x number Compute (presence y) y (signals_of operands) [] is
    form_writes x number (When y z b) is = written_by x number Compute (presence y) y (z ∷ []) [] is
    form_writes x number (WhenConst y constant b) is = written_by x number Compute (presence y) y [] [] is
    form_writes x number (Event y z) is = written_by x number Compute (presence y) y [] [] is
    form_writes x number (Default y u v) is = written_by x number Left (presence u) y (u ∷ []) (writing signals number Right (without (presence v) (presence u)) y (v ∷ []) ∷ []) is
    form_writes x number (Delay y z initial) is = written_by x number DelayRead (presence y) y [] [] is
    form_writes x number (Sync y z) is = absurd (false≢true is)

    -- and so where some equation defines it
    writes_some : (x : SigId) (n a : ℕ) (equations : List Equation) → a < fold (λ (m : ℕ) (e : Equation). m + cond (defines x.0 e) 1 0) a equations
        → (p : Operation) × Contains (of_each (writes_of signals presence) n equations) p × Writes p x
    writes_some x n a [] less = absurd (omega (arith, less))
    writes_some x n a (equation ∷ equations) less = at (defines x.0 equation) refl (writes_some x (n + 1) a equations) where
      at : (b : Bool) → defines x.0 equation ≡ b
          → (a < fold (λ (m : ℕ) (e : Equation). m + cond (defines x.0 e) 1 0) a equations → (p : Operation) × Contains (of_each (writes_of signals presence) (n + 1) equations) p × Writes p x)
          → (p : Operation) × Contains (of_each (writes_of signals presence) n (equation ∷ equations)) p × Writes p x
      at true is rest =
          let found = form_writes x (equation_id n) equation.form is in
          (found.0, Contains-append_left (writes_of signals presence (equation_id n) equation.form) (of_each (writes_of signals presence) (n + 1) equations) found.0 found.1, found.2)
      at false is rest =
          let same : a + cond (defines x.0 equation) 1 0 ≡ a = ap (λ (b : Bool). a + cond b 1 0) is ∙ omega arith in
          let found = rest (subst (λ (k : ℕ). a < fold (λ (m : ℕ) (e : Equation). m + cond (defines x.0 e) 1 0) k equations) same less) in
          (found.0, Contains-append_right (writes_of signals presence (equation_id n) equation.form) (of_each (writes_of signals presence) (n + 1) equations) found.0 found.1, found.2)

module _ (kernel : Kernel) (presence : Presence) (valid : IsValid kernel) where
  reads : List Operation
  reads = map (λ number. read_of kernel.signals presence (signal_id number)) (range_with_len 0 kernel.inputs)

  writes : List Operation
  writes = of_each (writes_of kernel.signals presence) 0 kernel.equations

  stores : List Operation
  stores = of_each (stores_of kernel.signals presence) 0 kernel.equations

  all_own : All (IsOwn kernel.signals) (operations_of kernel presence)
  unfolding reads writes stores
  all_own =
      let interface = valid.parts.interface in
      let declared = valid.parts.declared in
      All-append (IsOwn kernel.signals) (reads ++ writes) stores
      (All-append (IsOwn kernel.signals) reads writes (reads_own kernel.signals presence kernel.inputs (omega (arith, interface, declared))) (writes_own kernel.signals presence 0 kernel.equations valid.equations.within))
      (stores_own kernel.signals presence 0 kernel.equations)

  in_range : (n k : ℕ) → k < n → slice_get (range_with_len 0 n) k ≡ Some k
  in_range n k lt =
      let same : 0 + k ≡ k = omega arith in
      slice_get-get_or (range_with_len 0 n) k 0 (omega (arith, lt, length-range_with_len 0 n)) ∙ ap Some (get_or-range_with_len 0 n k 0 lt ∙ same)

  defined : (x : SigId) → x.0 < length kernel.signals → kernel.inputs ≤ x.0 → (p : Operation) × Contains (operations_of kernel presence) p × Writes p x
  unfolding reads writes stores
  defined x within local =
      let once : count_by (defines x.0) kernel.equations ≡ 1 = valid.defined.others x.0 local within in
      let found = writes_some kernel.signals presence x 0 0 kernel.equations (omega (arith, once)) in
      (found.0, Contains-append_left (reads ++ writes) stores found.0 (Contains-append_right reads writes found.0 found.1), found.2)

  some_writes : (x : SigId) → x.0 < length kernel.signals → ((x.0 ≡ kernel.inputs) ⊎ ((x.0 < kernel.inputs) ⊎ (kernel.inputs < x.0))) → (p : Operation) × Contains (operations_of kernel presence) p × Writes p x
  unfolding reads writes stores
  some_writes x within (inr (inl input)) =
      let read : Operation = read_of kernel.signals presence x in
      let place : slice_get (range_with_len 0 kernel.inputs) x.0 ≡ Some x.0 = in_range kernel.inputs x.0 input in
      let there : Contains reads read = contains_at reads x.0 read (get_map (λ number. read_of kernel.signals presence (signal_id number)) (range_with_len 0 kernel.inputs) x.0 x.0 place) in
      (read, Contains-append_left (reads ++ writes) stores read (Contains-append_left reads writes read there), refl)
  some_writes x within (inl e) = defined x within (omega (arith, e))
  some_writes x within (inr (inr more)) = defined x within (omega (arith, more))

pub operations_written : (kernel : Kernel) (presence : Presence) (operations : List Operation) → IsValid kernel → operations ≡ operations_of kernel presence → AreWritten kernel.signals operations
operations_written kernel presence operations valid is = subst (AreWritten kernel.signals) (sym is) (record {
  owner = λ p x listed. All-contains (IsOwn kernel.signals) (operations_of kernel presence) p (all_own kernel presence valid) (contains_at (operations_of kernel presence) listed.0 p listed.1) x;
  writer = λ x within.
      let found = some_writes kernel presence valid x within (cases_order x.0 kernel.inputs) in
      (found.0, (found.1.0, at_contained (operations_of kernel presence) found.0 found.1), found.2);
})

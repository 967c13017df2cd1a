-- The clock functions of a kernel that has clocks. They see a proposal as far as there are conditions, and so do
-- the guards of its operations.
use Rattle.sig_deciding_laws.proofs.Common.{◌≡◌, ◌<◌, ◌≤◌, ◌⊎◌, inl, inr, ℕ, Bool, false, not, List, [], ◌∷◌, length, refl, sym, ◌∙◌, subst, arith, ◌&&◌, All, cases_lt, All-cons, All-nil, EqId, SigId, Signal, Allows, IsClockFunction, KeepsTo, HasClocks, AreInOrder, signal_id, IsSignal, Reaction, Speaks, is_present, status_at, one_presence, some_reaction, truth_of, Form, Fun, Delay, When, WhenConst, Default, Sync, Event, Kernel, Guard, Operation, Presence, operations_of, read_of, signals_of, store_of, stores_of, without, writes_of, writing, Writes, OpKind, Compute, DelayRead, Left, Right, Store, each_operation, only, slice_get_within}
use Rattle.sig_deciding_laws.proofs.SearchedReactions.{absent_beyond, reaction_count}

abbrev pub AgreeBelow : ℕ → List Bool → List Bool → Type 0
AgreeBelow n p q = (v : ℕ) → v < n → truth_of p v ≡ truth_of q v

-- a guard sees the first truths of a proposal alone
abbrev pub Sees : ℕ → Guard → Type 0
Sees n f = (p q : List Bool) → AgreeBelow n p q → f p ≡ f q

-- what is known of each operation: what its guard sees, and that it writes if it reads a memory
pub record IsSound (n : ℕ) (p : Operation) : Type 0 where
  pub sees : Sees n p.guard
  pub writer : p.kind ≡ DelayRead → (x : SigId) × Writes p x

without_sees : (n : ℕ) (f g : Guard) → Sees n f → Sees n g → Sees n (without f g)
without_sees n f g sees_f sees_g p q agree = λ j. sees_f p q agree j && not (sees_g p q agree j)

store_differs : (number : EqId) → Store number ≡ DelayRead → ⊥
store_differs number e = cc

writing_sound : (n : ℕ) (signals : List Signal) (number : EqId) (kind : OpKind) (guard : Guard) (y : SigId) (reads : List SigId) → Sees n guard → IsSound n (writing signals number kind guard y reads)
writing_sound n signals number kind guard y reads sees = record { sees = sees; writer = λ _. (y, refl) }

module _ (n : ℕ) (kernel : Kernel) (presence : Presence) (sees : (x : SigId) → Sees n (presence x)) where
  reads_sound : (x : SigId) → IsSound n (read_of kernel.signals presence x)
  reads_sound x = record { sees = sees x; writer = λ _. (x, refl) }

  writes_sound : (number : EqId) (form : Form) → All (IsSound n) (writes_of kernel.signals presence number form)
  writes_sound number (Fun y op operands) = only (IsSound n) _ (writing_sound n kernel.signals number Compute (presence y) y (signals_of operands) (sees y))
  writes_sound number (When y x b) = only (IsSound n) _ (writing_sound n kernel.signals number Compute (presence y) y (x ∷ []) (sees y))
  writes_sound number (WhenConst y constant b) = only (IsSound n) _ (writing_sound n kernel.signals number Compute (presence y) y [] (sees y))
  writes_sound number (Event y x) = only (IsSound n) _ (writing_sound n kernel.signals number Compute (presence y) y [] (sees y))
  writes_sound number (Delay y x initial) = only (IsSound n) _ (writing_sound n kernel.signals number DelayRead (presence y) y [] (sees y))
  writes_sound number (Sync x y) = All-nil (IsSound n)
  writes_sound number (Default y u v) =
      All-cons (IsSound n) (writing kernel.signals number Left (presence u) y (u ∷ [])) (writing kernel.signals number Right (without (presence v) (presence u)) y (v ∷ []) ∷ [])
      (writing_sound n kernel.signals number Left (presence u) y (u ∷ []) (sees u))
      (only (IsSound n) _ (writing_sound n kernel.signals number Right (without (presence v) (presence u)) y (v ∷ []) (without_sees n (presence v) (presence u) (sees v) (sees u))))

  store_sound : (number : EqId) (y x : SigId) → IsSound n (store_of kernel.signals presence number y x)
  store_sound number y x = record { sees = sees x; writer = λ e. absurd (store_differs number e) }

  stores_sound : (number : EqId) (form : Form) → All (IsSound n) (stores_of kernel.signals presence number form)
  stores_sound number (Delay y x initial) = only (IsSound n) _ (store_sound number y x)
  stores_sound number _ = All-nil (IsSound n)

  operations_sound : All (IsSound n) (operations_of kernel presence)
  operations_sound =
      each_operation (IsSound n) kernel presence (λ number form. Unit {0}) (λ k d lt. tt) (λ number lt. reads_sound (signal_id number))
      (λ number form _. writes_sound number form) (λ number form _. stores_sound number form)

module _ (kernel : Kernel) (has : HasClocks kernel) (conditions : List SigId) (order : AreInOrder kernel conditions) where
  abbrev pub Kept : List Bool → Type 0
  Kept proposal = (reaction : Reaction) × Speaks kernel reaction × KeepsTo conditions proposal reaction

  pub kept : (proposal : List Bool) → Kept proposal
  kept = some_reaction kernel conditions has order

  -- the presence of a signal in some reaction that keeps to a proposal
  abbrev pub presence_of : Presence
  presence_of x proposal = is_present (kept proposal).0 x.0

  pub presence_functions : (signal : ℕ) → IsSignal kernel signal → IsClockFunction kernel conditions signal (presence_of (signal_id signal))
  presence_functions signal within proposal reaction speaks keeps =
      one_presence kernel conditions has order proposal reaction (kept proposal).0 speaks (kept proposal).1 keeps (kept proposal).2 signal within

  pub presence_sees : (x : SigId) → Sees (length conditions) (presence_of x)
  presence_sees x p q agree = at (kept p) (kept q) (cases_lt x.0 (length kernel.signals)) where
    absent : (reaction : Reaction) → Speaks kernel reaction → length kernel.signals ≤ x.0 → is_present reaction x.0 ≡ false
    absent reaction speaks beyond = let count = reaction_count kernel reaction speaks.is in absent_beyond reaction x.0 (omega (arith, count, beyond))

    at : (a : Kept p) (b : Kept q) → (x.0 < length kernel.signals) ⊎ (length kernel.signals ≤ x.0) → is_present a.0 x.0 ≡ is_present b.0 x.0
    at a b (inl within) =
        one_presence kernel conditions has order q a.0 b.0 a.1 b.1
        (λ v condition is. subst (Allows (status_at a.0 condition.0)) (agree v (slice_get_within conditions v condition is)) (a.2 v condition is)) b.2 x.0 within
    at a b (inr beyond) = absent a.0 a.1 beyond ∙ sym (absent b.0 b.1 beyond)

  pub all_sound : All (IsSound (length conditions)) (operations_of kernel presence_of)
  all_sound = operations_sound (length conditions) kernel presence_of presence_sees

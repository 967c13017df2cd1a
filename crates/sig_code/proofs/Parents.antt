-- The slot of a guard, and its parent.
use Rattle.sig_code.proofs.Common.{◌≡◌, ℕ, ◌-◌, ◌<◌, ◌≤◌, List, length, None, Some, get_or, sym, ap, ◌∙◌, subst, inl, inr, arith, cases_lt, get_or_from_slice_get, slice_get-get_or, IsWithin, Implies, Node, Ref, IsLastBelow, Slot}

abbrev pub no_slot : Slot
no_slot = record { guard = record { number = 0 }; parent = None }

-- no slot from one on is implied
abbrev NoneFrom : List Node → List Slot → Ref → ℕ → Type 0
NoneFrom nodes slots guard from = (k : ℕ) → from ≤ k → k < length slots → IsWithin nodes slots guard k → ⊥

-- the last slot that is tried and implied is the parent
pub parent_found : (nodes : List Node) (slots : List Slot) (guard : Ref) (from : ℕ) → 0 < from → from ≤ length slots → NoneFrom nodes slots guard from
    → Implies nodes guard (get_or slots (from - 1) no_slot).guard → IsLastBelow (IsWithin nodes slots guard) (length slots) (Some (from - 1))
parent_found nodes slots guard from positive le none implies =
    (omega arith, (get_or slots (from - 1) no_slot, slice_get-get_or slots (from - 1) no_slot (omega arith), implies), λ k above lt within. none k (omega arith) lt within)

-- one more slot is tried
pub none_more : (nodes : List Node) (slots : List Slot) (guard : Ref) (from : ℕ) → 0 < from → NoneFrom nodes slots guard from
    → (Implies nodes guard (get_or slots (from - 1) no_slot).guard → ⊥) → NoneFrom nodes slots guard (from - 1)
none_more nodes slots guard from positive none refuted k le lt within =
    elim (cases_lt (from - 1) k) [
      | inl above ↦ none k (omega arith) lt within
      | inr below ↦
          let e : k ≡ from - 1 = omega arith in
          let is : get_or slots (from - 1) no_slot ≡ within.0 = ap (λ (n : ℕ). get_or slots n no_slot) (sym e) ∙ get_or_from_slice_get slots k within.0 no_slot within.1 in
          refuted (subst (λ (s : Slot). Implies nodes guard s.guard) (sym is) within.2)
    ]

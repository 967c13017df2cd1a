-- One more number among those that were given.
use Rattle.sig_rel.proofs.Common.{◌≡◌, ◌<◌, ◌≤◌, ◌+◌, ◌⊎◌, inl, inr, ℕ, List, length, get_or, set, Option, None, Some, refl, sym, ◌∙◌, subst, arith, is_some, slice_get, count_by, length-set, AreNumbers, given_at, next_after}
use Rattle.sig_rel.proofs.Places.{got_set, kept_set, set_there, found_there, count_set}

pub next_rises : (o : Option ℕ) (next : ℕ) → next ≤ next_after o next
next_rises None next = omega arith
next_rises (Some v) next = omega arith

pub length_given : (o : Option ℕ) (numbers : List (Option ℕ)) (k next : ℕ) → length (given_at o numbers k next) ≡ length numbers
length_given None numbers k next = length-set numbers k (Some next)
length_given (Some v) numbers k next = refl

-- numbers that lie before the next one lie before a later one
pub later_numbers : (IsWanted : ℕ → Type 0) (first next later : ℕ) (numbers : List (Option ℕ)) → next ≤ later → AreNumbers IsWanted first next numbers → AreNumbers IsWanted first later numbers
later_numbers IsWanted first next later numbers le are = record { wanted = are.wanted; from = are.from; below = λ k v is. let lt = are.below k v is in omega arith; once = are.once }

module _ (IsWanted : ℕ → Type 0) (first next : ℕ) (numbers : List (Option ℕ)) (k : ℕ) (are : AreNumbers IsWanted first next numbers) where
  set_numbers : IsWanted k → first ≤ next → AreNumbers IsWanted first (next + 1) (set numbers k (Some next))
  set_numbers want le = record {
    wanted = λ j v is. elim (got_set numbers k j next v is) [ inl p ↦ subst IsWanted (sym p.0) want | inr there ↦ are.wanted j v there ];
    from = λ j v is. elim (got_set numbers k j next v is) [ inl p ↦ let e = p.1 in omega (arith, le) | inr there ↦ are.from j v there ];
    below = λ j v is. elim (got_set numbers k j next v is) [ inl p ↦ let e = p.1 in omega arith | inr there ↦ let lt = are.below j v there in omega arith ];
    once = λ i j v is is'. elim (got_set numbers k i next v is) [
      | inl p ↦ elim (got_set numbers k j next v is') [ inl q ↦ p.0 ∙ sym q.0 | inr there ↦ let lt = are.below j v there in let e = p.1 in absurd (omega arith) ]
      | inr here ↦ elim (got_set numbers k j next v is') [ inl q ↦ let lt = are.below i v here in let e = q.1 in absurd (omega arith) | inr there ↦ are.once i j v here there ]
    ];
  }

  pub given_numbers : (o : Option ℕ) → IsWanted k → first ≤ next → AreNumbers IsWanted first (next_after o next) (given_at o numbers k next)
  given_numbers None want le = set_numbers want le
  given_numbers (Some v) want le = are

-- what is got of the numbers after one more was given
pub got_given : (o : Option ℕ) (numbers : List (Option ℕ)) (k j next v : ℕ) → slice_get (given_at o numbers k next) j ≡ Some (Some v) → (v ≡ next) ⊎ (slice_get numbers j ≡ Some (Some v))
got_given None numbers k j next v is = elim (got_set numbers k j next v is) [ inl p ↦ inl p.1 | inr there ↦ inr there ]
got_given (Some w) numbers k j next v is = inr is

pub kept_given : (o : Option ℕ) (numbers : List (Option ℕ)) (k j next v : ℕ) → get_or numbers k None ≡ o → slice_get numbers j ≡ Some (Some v) → slice_get (given_at o numbers k next) j ≡ Some (Some v)
kept_given None numbers k j next v none is = kept_set numbers k j next v none is
kept_given (Some w) numbers k j next v none is = is

pub given_there : (o : Option ℕ) (numbers : List (Option ℕ)) (k next : ℕ) → get_or numbers k None ≡ o → k < length numbers → (v : ℕ) × (slice_get (given_at o numbers k next) k ≡ Some (Some v))
given_there None numbers k next is lt = (next, set_there numbers k next lt)
given_there (Some w) numbers k next is lt = (w, found_there numbers k w lt is)

pub count_after : (o : Option ℕ) (numbers : List (Option ℕ)) (k next : ℕ) → get_or numbers k None ≡ o → k < length numbers
    → next_after o next + count_by is_some numbers ≡ next + count_by is_some (given_at o numbers k next)
count_after None numbers k next is lt = let e = count_set numbers k next lt is in omega arith
count_after (Some w) numbers k next is lt = refl

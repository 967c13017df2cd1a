-- The unknowns of a kernel as a list, and their count.
use Rattle.sig_rel.proofs.Common.{◌≡◌, ◌<◌, ◌≤◌, ◌+◌, inl, inr, ℕ, zero, suc, List, [], ◌∷◌, length, get_or, Option, None, Some, sym, ap, ◌∙◌, subst, arith, Contains, slice_get, count_by, slice_index, ◌==◌, range_with_len, cases_eq, ext_get_or, Kernel, AreLeast, contains_cons, contains_head, contains_later, contains_none, IsUnknownCount, IsUsed, is_boolean}

abbrev pub truths_among : List (Option ℕ) → List ℕ
truths_among [] = []
truths_among (None ∷ truth) = truths_among truth
truths_among (Some v ∷ truth) = v ∷ truths_among truth

abbrev pub used_among : List ℕ → List (Option ℕ) → List ℕ
used_among [] truth = truths_among truth
used_among (p ∷ present) truth = p ∷ used_among present truth

truths_have : (truth : List (Option ℕ)) (s v : ℕ) → slice_get truth s ≡ Some (Some v) → Contains (truths_among truth) v
truths_have [] s v at = absurd (let no : None ≡ Some (Some v) = at in cc)
truths_have (None ∷ truth) zero v at = absurd (let none : Option ℕ = None in let no : Some none ≡ Some (Some v) = at in cc)
truths_have (None ∷ truth) (suc s) v at = truths_have truth s v at
truths_have (Some w ∷ truth) zero v at = let e : w ≡ v = cc in subst (Contains (w ∷ truths_among truth)) e (contains_head w (truths_among truth))
truths_have (Some w ∷ truth) (suc s) v at = contains_later w v (truths_among truth) (truths_have truth s v at)

have_truths : (truth : List (Option ℕ)) (v : ℕ) → Contains (truths_among truth) v → (s : ℕ) × (slice_get truth s ≡ Some (Some v))
have_truths [] v there = absurd (contains_none v there)
have_truths (None ∷ truth) v there = let rest = have_truths truth v there in (suc rest.0, rest.1)
have_truths (Some w ∷ truth) v there = elim (contains_cons w v (truths_among truth) there) [
  | inl is ↦ (0, ap (λ n. Some (Some n)) (sym is))
  | inr later ↦ let rest = have_truths truth v later in (suc rest.0, rest.1)
]

presences_have : (present : List ℕ) (truth : List (Option ℕ)) (s v : ℕ) → slice_get present s ≡ Some v → Contains (used_among present truth) v
presences_have [] truth s v at = absurd (let no : None ≡ Some v = at in cc)
presences_have (p ∷ present) truth zero v at = let e : p ≡ v = cc in subst (Contains (p ∷ used_among present truth)) e (contains_head p (used_among present truth))
presences_have (p ∷ present) truth (suc s) v at = contains_later p v (used_among present truth) (presences_have present truth s v at)

later_have : (present : List ℕ) (truth : List (Option ℕ)) (v : ℕ) → Contains (truths_among truth) v → Contains (used_among present truth) v
later_have [] truth v there = there
later_have (p ∷ present) truth v there = contains_later p v (used_among present truth) (later_have present truth v there)

-- the list has the unknowns, and no others
pub used_there : (present : List ℕ) (truth : List (Option ℕ)) (v : ℕ) → IsUsed present truth v → Contains (used_among present truth) v
used_there present truth v (inl (s, at)) = presences_have present truth s v at
used_there present truth v (inr (s, at)) = later_have present truth v (truths_have truth s v at)

pub there_used : (present : List ℕ) (truth : List (Option ℕ)) (v : ℕ) → Contains (used_among present truth) v → IsUsed present truth v
there_used [] truth v there = inr (have_truths truth v there)
there_used (p ∷ present) truth v there = elim (contains_cons p v (used_among present truth) there) [
  | inl is ↦ inl (0, ap Some (sym is))
  | inr later ↦ elim (there_used present truth v later) [ inl at ↦ inl (suc at.0, at.1) | inr at ↦ inr at ]
]

pub in_range : (a n v : ℕ) → a ≤ v → v < a + n → Contains (range_with_len a n) v
in_range a zero v low high = absurd (omega arith)
in_range a (suc n) v low high = elim (cases_eq v a) [
  | inl is ↦ subst (Contains (range_with_len a (suc n))) (sym is) (contains_head a (range_with_len (a + 1) n))
  | inr apart ↦ contains_later a v (range_with_len (a + 1) n) (in_range (a + 1) n v (omega arith) (omega arith))
]

pub one_least : (kernel : Kernel) (a b : List ℕ) → AreLeast kernel a → AreLeast kernel b → a ≡ b
one_least kernel a b first second = ext_get_or 0 a b (first.count ∙ sym second.count) (λ s lt.
    let within : s < length kernel.signals = let e = first.count in omega arith in
    let down : get_or a s 0 ≤ get_or b s 0 = first.least s (get_or b s 0) within (second.same s within) in
    let up : get_or b s 0 ≤ get_or a s 0 = second.least s (get_or a s 0) within (first.same s within) in
    omega (arith, down, up))

-- a kernel has one count of unknowns
pub one_count : (kernel : Kernel) (u w : ℕ) → IsUnknownCount kernel u → IsUnknownCount kernel w → u ≡ w
one_count kernel u w first second =
    let same = one_least kernel first.0 second.0 first.1 second.1 in
    first.2 ∙ ap (λ least. count_by (λ signal. slice_index least signal == signal) (range_with_len 0 (length kernel.signals)) + count_by (is_boolean kernel) (range_with_len 0 (length kernel.signals))) same ∙ sym second.2

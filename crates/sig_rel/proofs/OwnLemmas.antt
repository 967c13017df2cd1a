-- Columns in which the elements of each signal are made their own unknowns, one signal after another.
use Rattle.sig_rel.proofs.Common.{◌≡◌, ◌<◌, ◌≤◌, ◌+◌, ◌-◌, ◌⊎◌, inl, inr, ℕ, zero, suc, Bool, true, false, List, [], length, get_or, Option, None, Some, refl, sym, ap, ◌∙◌, subst, arith, if◌then◌else◌, is_some, slice_get, slice_index, count_by, range_with_len, cases_eq, cases_lt, get_or_past, take_all, sum_by-cons, sum_by_more, sum_by-take-le, get_or_from_slice_get, get_at, get_within, IsRefOf, Keeps, StoreView, Node, IsRefOf-kept, signal_of, AreFresh, AreOwnColumns, IsUnknownWhere, classes_below, count_one, is_own, truths_below, unknown_of, truth_in, present_at, ref_at, AreVariables, IsVariableAt, IsVariableOf, Element, Presence, Truth, Unknowns, Columns}
use Rattle.sig_rel.proofs.PlacingLemmas.{apart_kinds}
use Rattle.sig_rel.proofs.VariableLemmas.{variables_then}

-- ---- how many there are

count_last : (p : ℕ → Bool) (a n : ℕ) → count_by p (range_with_len a (suc n)) ≡ count_by p (range_with_len a n) + count_one (p (a + n))
count_last p a zero =
    let e = sum_by-cons (λ x. count_one (p x)) a [] in
    let same : a + 0 ≡ a = omega arith in
    let here = ap (λ x. count_one (p x)) same in
    omega (arith, e, here)
count_last p a (suc n) =
    let e = sum_by-cons (λ x. count_one (p x)) a (range_with_len (a + 1) (suc n)) in
    let f = sum_by-cons (λ x. count_one (p x)) a (range_with_len (a + 1) n) in
    let rest = count_last p (a + 1) n in
    let same : a + 1 + n ≡ a + suc n = omega arith in
    let here = ap (λ x. count_one (p x)) same in
    omega (arith, e, f, rest, here)

classes_more : (least : List ℕ) (k : ℕ) → classes_below least (k + 1) ≡ classes_below least k + count_one (is_own least k)
classes_more least k =
    let e : k + 1 ≡ suc k = omega arith in
    let here : 0 + k ≡ k = omega arith in
    ap (classes_below least) e ∙ count_last (is_own least) 0 k ∙ ap (λ n. classes_below least k + count_one (is_own least n)) here

-- how many classes there are from a signal on
abbrev pub classes_from : List ℕ → ℕ → ℕ
classes_from least class = count_by (is_own least) (range_with_len class (length least - class))

pub classes_first : (least : List ℕ) (class : ℕ) → 0 < class → class ≤ length least → classes_from least (class - 1) ≡ classes_from least class + count_one (is_own least (class - 1))
classes_first least class low high =
    let long : length least - (class - 1) ≡ suc (length least - class) = omega arith in
    let next : class - 1 + 1 ≡ class = omega arith in
    let e = sum_by-cons (λ x. count_one (is_own least x)) (class - 1) (range_with_len (class - 1 + 1) (length least - class)) in
    let f = ap (λ n. count_by (is_own least) (range_with_len (class - 1) n)) long in
    let g = ap (λ c. count_by (is_own least) (range_with_len c (length least - class))) next in
    omega (arith, e, f, g)

count_grows : (p : ℕ → Bool) (a m n : ℕ) → m ≤ n → count_by p (range_with_len a m) ≤ count_by p (range_with_len a n)
count_grows p a zero n le = omega arith
count_grows p a (suc m) zero le = absurd (omega (arith, le))
count_grows p a (suc m) (suc n) le =
    let e = sum_by-cons (λ x. count_one (p x)) a (range_with_len (a + 1) m) in
    let f = sum_by-cons (λ x. count_one (p x)) a (range_with_len (a + 1) n) in
    let rest = count_grows p (a + 1) m n (omega (arith, le)) in
    omega (arith, e, f, rest)

classes_within : (least : List ℕ) (k : ℕ) → k ≤ length least → classes_below least k ≤ classes_below least (length least)
classes_within least k le = count_grows (is_own least) 0 k (length least) le

-- the classes from a signal on are some of all
from_within : (p : ℕ → Bool) (a k n : ℕ) → k ≤ n → count_by p (range_with_len (a + k) (n - k)) ≤ count_by p (range_with_len a n)
from_within p a zero n le =
    let here : a + 0 ≡ a = omega arith in
    let long : n - 0 ≡ n = omega arith in
    let e : count_by p (range_with_len (a + 0) (n - 0)) ≡ count_by p (range_with_len a n) = (λ j. count_by p (range_with_len (here j) (long j))) in
    omega (arith, e)
from_within p a (suc k) zero le = absurd (omega (arith, le))
from_within p a (suc k) (suc n) le =
    let rest = from_within p (a + 1) k n (omega (arith, le)) in
    let here : a + 1 + k ≡ a + suc k = omega arith in
    let long : n - k ≡ suc n - suc k = omega arith in
    let e : count_by p (range_with_len (a + 1 + k) (n - k)) ≡ count_by p (range_with_len (a + suc k) (suc n - suc k)) = (λ j. count_by p (range_with_len (here j) (long j))) in
    let f = sum_by-cons (λ x. count_one (p x)) a (range_with_len (a + 1) n) in
    omega (arith, rest, e, f)

pub classes_from_within : (least : List ℕ) (k : ℕ) → k ≤ length least → classes_from least k ≤ classes_below least (length least)
classes_from_within least k le =
    let within = from_within (is_own least) 0 k (length least) le in
    let here : 0 + k ≡ k = omega arith in
    let e = ap (λ a. count_by (is_own least) (range_with_len a (length least - k))) here in
    omega (arith, within, e)

truths_more : (unknowns : List (Option ℕ)) (k : ℕ) (o : Option ℕ) → k < length unknowns → slice_get unknowns k ≡ Some o → truths_below unknowns (k + 1) ≡ truths_below unknowns k + count_one (is_some o)
truths_more unknowns k o lt at =
    sum_by_more (λ x. count_one (is_some x)) unknowns k None lt
    ∙ ap (λ x. truths_below unknowns k + count_one (is_some x)) (get_or_from_slice_get unknowns k o None at)

truths_within : (unknowns : List (Option ℕ)) (k : ℕ) → truths_below unknowns k ≤ truths_below unknowns (length unknowns)
truths_within unknowns k =
    let le = sum_by-take-le (λ x. count_one (is_some x)) unknowns k in
    let all = ap (count_by is_some) (take_all (length unknowns) unknowns (omega arith)) in
    omega (arith, le, all)

-- ---- what was made a variable

-- the elements of the first signals, and those of one more
pub below_more : (s t : StoreView) → Keeps s t → (least : List ℕ) (unknowns : Unknowns) (first before after : Columns) (k : ℕ)
    → AreVariables s.nodes (IsUnknownWhere (λ n. n < k) least unknowns) first before → AreVariables t.nodes (IsUnknownWhere (λ n. n ≡ k) least unknowns) before after
    → AreVariables t.nodes (IsUnknownWhere (λ n. n < k + 1) least unknowns) first after
below_more s t kept least unknowns first before after k are more =
    variables_then s t kept (IsUnknownWhere (λ n. n < k) least unknowns) (IsUnknownWhere (λ n. n ≡ k) least unknowns) (IsUnknownWhere (λ n. n < k + 1) least unknowns) first before after are more
    (λ e v is. elim (cases_eq (signal_of e) k) [
      | inl same ↦ inr (same, is.1)
      | inr apart ↦ inl ((let lt = is.0 in omega (arith, lt, apart), is.1), λ w at. apart at.0)
    ])
    (λ e v is. (let lt = is.0 in omega (arith, lt), is.1))
    (λ e v is. (let same = is.0 in omega (arith, same), is.1))

-- the two elements of a signal
pub both_made : (s t : StoreView) → Keeps s t → (least : List ℕ) (unknowns : Unknowns) (first middle last : Columns) (k : ℕ)
    → AreVariables s.nodes (IsVariableAt (Presence k) (unknown_of least unknowns (Presence k))) first middle → AreVariables t.nodes (IsVariableAt (Truth k) (unknown_of least unknowns (Truth k))) middle last
    → AreVariables t.nodes (IsUnknownWhere (λ n. n ≡ k) least unknowns) first last
both_made s t kept least unknowns first middle last k one two =
    variables_then s t kept (IsVariableAt (Presence k) (unknown_of least unknowns (Presence k))) (IsVariableAt (Truth k) (unknown_of least unknowns (Truth k))) (IsUnknownWhere (λ n. n ≡ k) least unknowns) first middle last one two
    split (λ e v is. (ap signal_of is.0, ap (unknown_of least unknowns) is.0 ∙ is.1)) (λ e v is. (ap signal_of is.0, ap (unknown_of least unknowns) is.0 ∙ is.1)) where
      split : (e : Element) (v : ℕ) → IsUnknownWhere (λ n. n ≡ k) least unknowns e v
          → (IsVariableAt (Presence k) (unknown_of least unknowns (Presence k)) e v × ((w : ℕ) → IsVariableAt (Truth k) (unknown_of least unknowns (Truth k)) e w → ⊥)) ⊎ IsVariableAt (Truth k) (unknown_of least unknowns (Truth k)) e v
      split (Presence c) v is = inl ((ap Presence is.0, ap (λ n. unknown_of least unknowns (Presence n)) (sym is.0) ∙ is.1), λ w at. apart_kinds c k at.0)
      split (Truth x) v is = inr (ap Truth is.0, ap (λ n. unknown_of least unknowns (Truth n)) (sym is.0) ∙ is.1)

-- a class has an unknown where it is the least signal
own_counts : (least : List ℕ) (unknowns : Unknowns) (class : ℕ) → class < length unknowns.present.items → count_one (is_some (unknown_of least unknowns (Presence class))) ≡ count_one (is_own least class)
own_counts least unknowns class lt = by (is_own least class) refl where
  by : (b : Bool) → is_own least class ≡ b → count_one (is_some (if b then slice_get unknowns.present.items class else None)) ≡ count_one b
  by true own = ap (λ o. count_one (is_some o)) (get_at unknowns.present.items class 0 lt)
  by false other = refl

pub class_unknown : (nodes : List Node) (least : List ℕ) (unknowns : Unknowns) (columns : Columns) → AreOwnColumns nodes least unknowns columns → (class : ℕ) → class < length unknowns.present.items → is_own least class ≡ true
    → IsVariableOf nodes (slice_index unknowns.present.items class) (present_at columns class)
class_unknown nodes least unknowns columns own class lt is =
    subst (λ o. IsRefOf nodes (λ truths. truth_in truths o) (present_at columns class))
    (ap (λ b. if b then slice_get unknowns.present.items class else None) is ∙ get_at unknowns.present.items class 0 lt) (own.all (Presence class))

-- how many the first signals have, and one more
pub own_more : (least : List ℕ) (unknowns : Unknowns) (k : ℕ) → k < length unknowns.present.items → k < length unknowns.truth.items
    → classes_below least (k + 1) + truths_below unknowns.truth.items (k + 1)
    ≡ classes_below least k + truths_below unknowns.truth.items k + (count_one (is_some (unknown_of least unknowns (Presence k))) + count_one (is_some (unknown_of least unknowns (Truth k))))
own_more least unknowns k present truth =
    let a = classes_more least k in
    let b = truths_more unknowns.truth.items k (get_or unknowns.truth.items k None) truth (get_at unknowns.truth.items k None truth) in
    let e = own_counts least unknowns k present in
    omega (arith, a, b, e)

pub own_within : (least : List ℕ) (unknowns : Unknowns) (k : ℕ) → k ≤ length least
    → classes_below least k + truths_below unknowns.truth.items k ≤ classes_below least (length least) + truths_below unknowns.truth.items (length unknowns.truth.items)
own_within least unknowns k le =
    let a = classes_within least k le in
    let b = truths_within unknowns.truth.items k in
    omega (arith, a, b)

-- ---- all of them

-- an unknown is that of a signal
unknown_within : (least : List ℕ) (unknowns : Unknowns) → length unknowns.present.items ≡ length least → length unknowns.truth.items ≡ length least
    → (e : Element) (v : ℕ) → unknown_of least unknowns e ≡ Some v → signal_of e < length least
unknown_within least unknowns presences truths (Presence class) v is = by (is_own least class) is where
  by : (b : Bool) → (if b then slice_get unknowns.present.items class else None) ≡ Some v → class < length least
  by true at = let lt = get_within unknowns.present.items class v at in omega (arith, lt, presences)
  by false at = absurd (let no : None ≡ Some v = at in cc)
unknown_within least unknowns presences truths (Truth signal) v is = elim (cases_lt signal (length unknowns.truth.items)) [
  | inl lt ↦ omega (arith, lt, truths)
  | inr le ↦ absurd (let no : None ≡ Some v = sym (get_or_past unknowns.truth.items signal None le) ∙ is in cc)
]

pub are_own : (s t : StoreView) → Keeps s t → (least : List ℕ) (unknowns : Unknowns) (first last : Columns) → length unknowns.present.items ≡ length least → length unknowns.truth.items ≡ length least
    → AreFresh s.nodes (length least) first → AreVariables t.nodes (IsUnknownWhere (λ n. n < length least) least unknowns) first last → AreOwnColumns t.nodes least unknowns last
are_own s t kept least unknowns first last presences truths fresh are = record {
  count = are.count ∙ fresh.rows ∙ sym presences;
  all = λ e. by e (unknown_of least unknowns e) refl;
} where
  by : (e : Element) (o : Option ℕ) → unknown_of least unknowns e ≡ o → IsRefOf t.nodes (λ ts. truth_in ts (unknown_of least unknowns e)) (ref_at last e)
  by e None is = subst (λ o. IsRefOf t.nodes (λ ts. truth_in ts o) (ref_at last e)) (sym is)
      (subst (IsRefOf t.nodes (λ truths. true)) (sym (are.others e (λ v at. let no : None ≡ Some v = sym is ∙ at.1 in cc) ∙ fresh.all e)) (IsRefOf-kept s t kept (λ truths. true) first.always fresh.always))
  by e (Some v) is = subst (λ o. IsRefOf t.nodes (λ ts. truth_in ts o) (ref_at last e)) (sym is) (are.own e v (unknown_within least unknowns presences truths e v is, is))

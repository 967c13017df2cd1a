-- The failure word only becomes less.
use Rattle.sig_schedule_laws.proofs.Common.{◌≡◌, ◌<◌, ◌≤◌, ◌⊎◌, inl, inr, Bool, true, false, not, cond, refl, ap, sym, ◌∙◌, arith, None, Option, Some, nat_lt, ◌==◌, ◌&&◌, and_from, and_parts, cases_lt, cases_order, eq-eqb, eqb-true, false_from_ne_true, lt-ltb, ltb-true, or_cases, or_left, or_right, Trace, Place, Actor, next_place, Given, is_before, lesser, word_before, HasReason, IsFaulty, IsWordOn, reached_by, CodeView, not_true}

abbrev Before : Place → Place → Type 0
Before a b = (a.instant < b.instant) ⊎ ((a.instant ≡ b.instant) × (a.pos < b.pos))

is_there : (a b : Place) → is_before a b ≡ true → Before a b
is_there a b is = elim (or_cases (nat_lt a.instant b.instant) ((a.instant == b.instant) && nat_lt a.pos b.pos) is) [
  | inl lt ↦ inl (ltb-true a.instant b.instant lt)
  | inr both ↦ let parts = and_parts (a.instant == b.instant) (nat_lt a.pos b.pos) both in inr (eqb-true a.instant b.instant parts.0, ltb-true a.pos b.pos parts.1)
]

from_there : (a b : Place) → Before a b → is_before a b ≡ true
from_there a b (inl lt) = or_left (nat_lt a.instant b.instant) ((a.instant == b.instant) && nat_lt a.pos b.pos) (lt-ltb a.instant b.instant lt)
from_there a b (inr both) = or_right (nat_lt a.instant b.instant) ((a.instant == b.instant) && nat_lt a.pos b.pos)
    (and_from (a.instant == b.instant) (nat_lt a.pos b.pos) (eq-eqb a.instant b.instant both.0) (lt-ltb a.pos b.pos both.1))

onward : (a b c : Place) → Before a b → Before b c → Before a c
onward a b c (inl one) (inl two) = inl (omega (arith, one, two))
onward a b c (inl one) (inr two) = inl (omega (arith, one, two.0))
onward a b c (inr one) (inl two) = inl (omega (arith, one.0, two))
onward a b c (inr one) (inr two) = inr (one.0 ∙ two.0, omega (arith, one.1, two.1))

never : (a : Place) → Before a a → ⊥
never a (inl lt) = omega (arith, lt)
never a (inr both) = omega (arith, both.1)

pub before_onward : (a b c : Place) → is_before a b ≡ true → is_before b c ≡ true → is_before a c ≡ true
before_onward a b c one two = from_there a c (onward a b c (is_there a b one) (is_there b c two))

pub not_before_itself : (a : Place) → is_before a a ≡ false
not_before_itself a = false_from_ne_true (is_before a a) (λ is. never a (is_there a a is))

-- ---- with a place recorded

word_before_less : (word : Option Place) (place p : Place) → word_before word p ≡ true → word_before (Some (lesser word place)) p ≡ true
word_before_less None place p is = absurd (let f : false ≡ true = is in cc)
word_before_less (Some w) place p is = by (is_before place w) refl where
  by : (b : Bool) → is_before place w ≡ b → is_before (cond b place w) p ≡ true
  by true less = before_onward place w p less is
  by false more = is

reached_less : (word : Option Place) (place p : Place) → reached_by word p ≡ true → reached_by (Some (lesser word place)) p ≡ true
reached_less None place p is = absurd (let f : false ≡ true = is in cc)
reached_less (Some w) place p is = by (is_before place w) refl where
  by : (b : Bool) → is_before place w ≡ b → not (is_before p (cond b place w)) ≡ true
  by true less = ap not (false_from_ne_true (is_before p place) (λ before.
      let clash : true ≡ false = sym (before_onward p place w before less) ∙ not_true (is_before p w) is in cc))
  by false more = is

pub reached_here : (word : Option Place) (place : Place) → reached_by (Some (lesser word place)) place ≡ true
reached_here None place = ap not (not_before_itself place)
reached_here (Some w) place = by (is_before place w) refl where
  by : (b : Bool) → is_before place w ≡ b → not (is_before place (cond b place w)) ≡ true
  by true less = ap not (not_before_itself place)
  by false more = ap not more

module _ (given : Given) (reference : Trace) (word : Option Place) (place : Place) where
  pub reasons_less : (code : CodeView) (a : Actor) → HasReason given reference word code a → HasReason given reference (Some (lesser word place)) code a
  reasons_less code a (inl over) = inl over
  reasons_less code a (inr (inl fails)) = inr (inl (fails.0, reached_less word place (next_place code a) fails.1))
  reasons_less code a (inr (inr before)) = inr (inr (word_before_less word place (next_place code a) before))

  pub word_on : IsWordOn given reference word → IsFaulty given.plan given.flows reference place → IsWordOn given reference (Some (lesser word place))
  word_on is faulty = by word is where
    one_of : (w : Place) → IsFaulty given.plan given.flows reference w → (b : Bool) → IsFaulty given.plan given.flows reference (cond b place w)
    one_of w old true = faulty
    one_of w old false = old

    by : (o : Option Place) → IsWordOn given reference o → IsWordOn given reference (Some (lesser o place))
    by None old = faulty
    by (Some w) old = one_of w old (is_before place w)

-- ---- one place is not after another one

abbrev pub NotAfter : Place → Place → Type 0
NotAfter a b = (a.instant < b.instant) ⊎ ((a.instant ≡ b.instant) × (a.pos ≤ b.pos))

not_after_or : (a b : Place) → NotAfter a b ⊎ Before b a
not_after_or a b = elim (cases_order a.instant b.instant) [
  | inl same ↦ elim (cases_lt b.pos a.pos) [ inl lt ↦ inr (inr (sym same, lt)) | inr le ↦ inl (inr (same, le)) ]
  | inr (inl less) ↦ inl (inl less)
  | inr (inr more) ↦ inr (inl more)
]

pub total_places : (a b : Place) → NotAfter a b ⊎ NotAfter b a
total_places a b = elim (not_after_or a b) [
  | inl le ↦ inl le
  | inr (inl less) ↦ inr (inl less)
  | inr (inr both) ↦ inr (inr (both.0, omega (arith, both.1)))
]

pub not_after_onward : (a b c : Place) → NotAfter a b → NotAfter b c → NotAfter a c
not_after_onward a b c (inl one) (inl two) = inl (omega (arith, one, two))
not_after_onward a b c (inl one) (inr two) = inl (omega (arith, one, two.0))
not_after_onward a b c (inr one) (inl two) = inl (omega (arith, one.0, two))
not_after_onward a b c (inr one) (inr two) = inr (one.0 ∙ two.0, omega (arith, one.1, two.1))

-- a word before a place is before each that is not before that
pub word_onward : (word : Option Place) (p q : Place) → word_before word p ≡ true → NotAfter p q → word_before word q ≡ true
word_onward None p q is le = absurd (let f : false ≡ true = is in cc)
word_onward (Some w) p q is le = from_there w q (by (is_there w p is) le) where
  by : Before w p → NotAfter p q → Before w q
  by (inl one) (inl two) = inl (omega (arith, one, two))
  by (inl one) (inr two) = inl (omega (arith, one, two.0))
  by (inr one) (inl two) = inl (omega (arith, one.0, two))
  by (inr one) (inr two) = inr (one.0 ∙ two.0, omega (arith, one.1, two.1))

-- and one that has reached a place is before each behind it
pub reached_onward : (word : Option Place) (p q : Place) → reached_by word p ≡ true → (p.instant < q.instant) ⊎ ((p.instant ≡ q.instant) × (p.pos < q.pos)) → word_before word q ≡ true
reached_onward None p q is less = absurd (let f : false ≡ true = is in cc)
reached_onward (Some w) p q is less = from_there w q (elim (not_after_or w p) [
  | inl le ↦ by le less
  | inr before ↦ absurd (let clash : true ≡ false = sym (from_there p w before) ∙ not_true (is_before p w) is in cc)
]) where
  by : NotAfter w p → Before p q → Before w q
  by (inl one) (inl two) = inl (omega (arith, one, two))
  by (inl one) (inr two) = inl (omega (arith, one, two.0))
  by (inr one) (inl two) = inl (omega (arith, one.0, two))
  by (inr one) (inr two) = inr (one.0 ∙ two.0, omega (arith, one.1, two.1))

pub same_places : (a b : Place) → NotAfter a b → NotAfter b a → a ≡ b
same_places a b (inl one) (inl two) = absurd (omega (arith, one, two))
same_places a b (inl one) (inr two) = absurd (omega (arith, one, two.0))
same_places a b (inr one) (inl two) = absurd (omega (arith, one.0, two))
same_places a b (inr one) (inr two) = let position : a.pos ≡ b.pos = omega (arith, one.1, two.1) in λ t. record { instant = one.0 t; pos = position t }

pub after_or_before : (a b : Place) → NotAfter a b → is_before b a ≡ true → ⊥
after_or_before a b le is = by le (is_there b a is) where
  by : NotAfter a b → Before b a → ⊥
  by (inl one) (inl two) = omega (arith, one, two)
  by (inl one) (inr two) = omega (arith, one, two.0)
  by (inr one) (inl two) = omega (arith, one.0, two)
  by (inr one) (inr two) = omega (arith, one.1, two.1)

pub reached_not_after : (w p : Place) → reached_by (Some w) p ≡ true → NotAfter w p
reached_not_after w p is = elim (not_after_or w p) [
  | inl le ↦ le
  | inr before ↦ absurd (let clash : true ≡ false = sym (from_there p w before) ∙ not_true (is_before p w) is in cc)
]

pub before_no_later : (a b : Place) → is_before a b ≡ true → a.instant ≤ b.instant
before_no_later a b is = elim (is_there a b is) [ inl lt ↦ omega (arith, lt) | inr both ↦ omega (arith, both.0) ]

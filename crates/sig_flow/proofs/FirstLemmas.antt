-- The first fault of a list, and the lists without one.
use Rattle.sig_flow.proofs.Common.{◌≡◌, ℕ, ◌+◌, List, [], ◌∷◌, ◌++◌, Option, None, Some, refl, sym, ap, ◌∙◌, arith, sum_by, sum_by-cons, Judge, AllGood, IsFirst, first_fault}

-- an element in which nothing is wrong is passed
pub after_good : {A E : Type 0} (judge : Judge A E) (before : ℕ) (x : A) (xs : List A) → judge.fault before x ≡ None → first_fault judge before (x ∷ xs) ≡ first_fault judge (before + judge.size x) xs
after_good {A} {E} judge before x xs none =
    ap (λ (f : Option E). elim f [ Some fault ↦ Some fault | None ↦ first_fault judge (before + judge.size x) xs ]) none

-- and one in which something is wrong is the first
pub at_wrong : {A E : Type 0} (judge : Judge A E) (before : ℕ) (x : A) (xs : List A) (fault : E) → judge.fault before x ≡ Some fault → first_fault judge before (x ∷ xs) ≡ Some fault
at_wrong {A} {E} judge before x xs fault some =
    ap (λ (f : Option E). elim f [ Some other ↦ Some other | None ↦ first_fault judge (before + judge.size x) xs ]) some

pub none_from_good : {A E : Type 0} (judge : Judge A E) (before : ℕ) (xs : List A) → AllGood judge before xs → first_fault judge before xs ≡ None
none_from_good judge before [] good = refl
none_from_good judge before (x ∷ xs) good =
    after_good judge before x xs good.0 ∙ none_from_good judge (before + judge.size x) xs good.1

not_some : {E : Type 0} (e : E) → (let o : Option E = None in o ≡ Some e) → ⊥
not_some e same = cc

some_of : {E : Type 0} (a b : E) → (let o : Option E = Some a in o ≡ Some b) → a ≡ b
some_of a b same = cc

good_step : {A E : Type 0} (judge : Judge A E) (before : ℕ) (x : A) (xs : List A) (o : Option E) → judge.fault before x ≡ o → first_fault judge before (x ∷ xs) ≡ None → (first_fault judge (before + judge.size x) xs ≡ None → AllGood judge (before + judge.size x) xs) → AllGood judge before (x ∷ xs)
good_step judge before x xs None is none rest = (is, rest (sym (after_good judge before x xs is) ∙ none))
good_step judge before x xs (Some e) is none rest = absurd (not_some e (sym none ∙ at_wrong judge before x xs e is))

pub good_from_none : {A E : Type 0} (judge : Judge A E) (before : ℕ) (xs : List A) → first_fault judge before xs ≡ None → AllGood judge before xs
good_from_none judge before [] none = tt
good_from_none judge before (x ∷ xs) none =
    good_step judge before x xs (judge.fault before x) refl none (good_from_none judge (before + judge.size x) xs)

later_first : {A E : Type 0} (judge : Judge A E) (before : ℕ) (x : A) (xs : List A) (fault : E) → judge.fault before x ≡ None → IsFirst judge (before + judge.size x) xs fault → IsFirst judge before (x ∷ xs) fault
later_first {A} {E} judge before x xs fault none first =
    let sums : before + sum_by judge.size (x ∷ first.earlier) ≡ before + judge.size x + sum_by judge.size first.earlier = omega (arith, sum_by-cons judge.size x first.earlier) in
    record {
      earlier = x ∷ first.earlier;
      here = first.here;
      later = first.later;
      split = ap (λ (ys : List A). x ∷ ys) first.split;
      good = (none, first.good);
      wrong = ap (λ n. judge.fault n first.here) sums ∙ first.wrong;
    }

first_step : {A E : Type 0} (judge : Judge A E) (before : ℕ) (x : A) (xs : List A) (fault : E) (o : Option E) → judge.fault before x ≡ o → first_fault judge before (x ∷ xs) ≡ Some fault → (first_fault judge (before + judge.size x) xs ≡ Some fault → IsFirst judge (before + judge.size x) xs fault) → IsFirst judge before (x ∷ xs) fault
first_step judge before x xs fault None is some rest =
    later_first judge before x xs fault is (rest (sym (after_good judge before x xs is) ∙ some))
first_step {A} judge before x xs fault (Some e) is some rest =
    let same : e ≡ fault = some_of e fault (sym (at_wrong judge before x xs e is) ∙ some) in
    let sums : before + 0 ≡ before = omega arith in
    let none : List A = [] in
    record {
      earlier = none;
      here = x;
      later = xs;
      split = refl;
      good = tt;
      wrong = ap (λ n. judge.fault n x) sums ∙ is ∙ ap Some same;
    }

pub first_from_some : {A E : Type 0} (judge : Judge A E) (before : ℕ) (xs : List A) (fault : E) → first_fault judge before xs ≡ Some fault → IsFirst judge before xs fault
first_from_some judge before [] fault some = absurd (not_some fault some)
first_from_some judge before (x ∷ xs) fault some =
    first_step judge before x xs fault (judge.fault before x) refl some (first_from_some judge (before + judge.size x) xs fault)

behind_good : {A E : Type 0} (judge : Judge A E) (before : ℕ) (earlier : List A) (here : A) (later : List A) (fault : E) → AllGood judge before earlier → judge.fault (before + sum_by judge.size earlier) here ≡ Some fault → first_fault judge before (earlier ++ here ∷ later) ≡ Some fault
behind_good judge before [] here later fault good wrong =
    let sums : before ≡ before + 0 = omega arith in
    at_wrong judge before here later fault (ap (λ n. judge.fault n here) sums ∙ wrong)
behind_good judge before (x ∷ earlier) here later fault good wrong =
    let sums : before + judge.size x + sum_by judge.size earlier ≡ before + sum_by judge.size (x ∷ earlier) = omega (arith, sum_by-cons judge.size x earlier) in
    after_good judge before x (earlier ++ here ∷ later) good.0
    ∙ behind_good judge (before + judge.size x) earlier here later fault good.1 (ap (λ n. judge.fault n here) sums ∙ wrong)

pub some_from_first : {A E : Type 0} (judge : Judge A E) (before : ℕ) (xs : List A) (fault : E) → IsFirst judge before xs fault → first_fault judge before xs ≡ Some fault
some_from_first {A} judge before xs fault first =
    ap (first_fault judge before) first.split ∙ behind_good judge before first.earlier first.here first.later fault first.good first.wrong

pub not_both : {A E : Type 0} (judge : Judge A E) (before : ℕ) (xs : List A) (fault : E) → AllGood judge before xs → IsFirst judge before xs fault → ⊥
not_both judge before xs fault good first = not_some fault (sym (none_from_good judge before xs good) ∙ some_from_first judge before xs fault first)

pub one_first : {A E : Type 0} (judge : Judge A E) (before : ℕ) (xs : List A) (a b : E) → IsFirst judge before xs a → IsFirst judge before xs b → a ≡ b
one_first judge before xs a b here there = some_of a b (sym (some_from_first judge before xs a here) ∙ some_from_first judge before xs b there)

-- and at a wrong one it is that
pub judged_at : {A E : Type 0} (judge : Judge A E) (before : ℕ) (x : A) (xs ys : List A) (fault : E) → ys ≡ x ∷ xs → judge.fault before x ≡ Some fault → first_fault judge before ys ≡ Some fault
judged_at judge before x xs ys fault are wrong = ap (first_fault judge before) are ∙ at_wrong judge before x xs fault wrong

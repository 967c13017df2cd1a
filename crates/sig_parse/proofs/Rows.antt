-- Lists with separators, whose items have operators, as the leaves of them are passed one after another.
use Rattle.sig_parse.proofs.Common.{◌≡◌, ◌++◌, ◌+◌, ◌≤◌, ℕ, List, [], ◌∷◌, inl, inr, refl, sym, ap, ◌∙◌, subst, sum_by, arith, append_cancel_left, append_cancel_right, sum_by-cons, Span, Terminal, Leaf, leaf, Limits, both_limits, no_limits, Further, Separated, StopsBefore, OneReading, ContinuesList, stops_smaller, cons_same, append_to, State, Covers, IsLeaf, Cause, Agrees, Refuses, Settles, counted, InAny}
use Rattle.sig_parse.proofs.PartRefusals.{SameFirst, agrees_first, refuses_first}
use Rattle.sig_parse.proofs.PassedLanguages.{Leads, agrees_behind, starts_or_stops}

-- no operators, and any number of them
abbrev pub none_of : {A : Type 0} → A → ℕ
none_of x = 0

pub none_summed : {A : Type 0} (xs : List A) → sum_by none_of xs ≡ 0
none_summed [] = refl
none_summed (x ∷ xs) = sum_by-cons none_of x xs ∙ ap (λ n. 0 + n) (none_summed xs)

abbrev pub Unbounded : Limits → ℕ → Type 0
Unbounded limits count = Unit {0}

pub fewer_unbounded : (limits : Limits) (few many : ℕ) → few ≤ many → Unbounded limits many → Unbounded limits few
fewer_unbounded limits few many within fits = tt

-- Fit says how many operators may stand in an equation, or nothing.
module _ {A : Type 0} (Is : Limits → A → List Leaf → Type 0) (count : A → ℕ) (Fit : Limits → ℕ → Type 0) (Continues : Terminal → Type 0) (separator : Terminal) where
  -- an item behind so many operators
  abbrev pub Item : ℕ → Limits → List Leaf → Type 0
  Item used limits leaves = (x : A) × Is limits x leaves × Fit limits (used + count x)

  -- a list behind so many operators, and what is left of it behind an item
  abbrev pub Row : ℕ → Limits → List Leaf → Type 0
  Row used limits leaves = (xs : List A) × Separated (Is limits) separator xs leaves × Fit limits (used + counted count xs)

  abbrev pub RowRest : ℕ → Limits → List Leaf → Type 0
  RowRest used limits leaves = (xs : List A) × Further (Is limits) separator xs leaves × Fit limits (used + counted count xs)

  abbrev pub ContinuesRow : Terminal → Type 0
  ContinuesRow t = ContinuesList separator Continues t

  -- no further item is next
  pub row_ends : (used : ℕ) (here : List Leaf) → StopsBefore (λ t. t ≡ separator) here → Settles (RowRest used) ContinuesRow here here
  row_ends used here stops = record {
    passed = [];
    split = refl;
    alone = λ leaves front back agrees e is stopped. go front back is.0 is.1 (subst (λ (ls : List Leaf). SameFirst here ls) e (agrees_first [] here leaves agrees));
  } where
    go : (front back : List Leaf) (xs : List A) → Further (Is no_limits) separator xs front → SameFirst here (front ++ back) → front ≡ []
    go front back [] f same = f
    go front back (x ∷ xs) (at, first, rest, f, is, are) same =
        absurd (starts_or_stops (λ t. t ≡ separator) here (leaf separator at ∷ ((first ++ rest) ++ back)) (subst (λ (ls : List Leaf). SameFirst here (ls ++ back)) f same) stops refl)

  -- the separator was read
  pub row_separated : (used : ℕ) (at : Span) {s t : State} → Covers (IsLeaf separator at) s t → Leads (RowRest used) ContinuesRow (Row used) ContinuesRow s.leaves t.leaves
  row_separated used at {s} {t} c = record {
    front = leaf separator at ∷ [];
    split = c.split ∙ ap (λ ls. ls ++ t.leaves) c.is;
    extend = λ limits leaves is. extended limits leaves is.0 is.1 is.2;
    left = λ limits rest whole back e is stops same. go limits rest whole back e is.0 is.1 is.2 stops;
  } where
    extended : (limits : Limits) (leaves : List Leaf) (xs : List A) → Separated (Is limits) separator xs leaves → Fit limits (used + counted count xs) → RowRest used limits (leaf separator at ∷ leaves)
    extended limits leaves [] are fits = absurd are
    extended limits leaves (x ∷ xs) (front, back, e, is, are) fits = (x ∷ xs, (at, front, back, ap (λ ls. leaf separator at ∷ ls) e, is, are), fits)

    go : (limits : Limits) (rest whole back : List Leaf) → leaf separator at ∷ rest ≡ whole ++ back → (xs : List A) → Further (Is limits) separator xs whole → Fit limits (used + counted count xs) → StopsBefore ContinuesRow back
        → (part : List Leaf) × (rest ≡ part ++ back) × Row used limits part × StopsBefore ContinuesRow back
    go limits rest whole back e [] f fits stops = absurd ((subst (λ (ls : List Leaf). StopsBefore ContinuesRow ls) (sym (e ∙ ap (λ ls. ls ++ back) f)) stops) (inl refl))
    go limits rest whole back e (x ∷ xs) (place, first, others, f, is, are) fits stops =
        let heads = cons_same (leaf separator at) (leaf separator place) rest ((first ++ others) ++ back) (e ∙ ap (λ ls. ls ++ back) f) in
        (first ++ others, heads.1, (x ∷ xs, (first, others, refl, is, are), fits), stops)

  module _ (apart : Continues separator → ⊥) (fewer : (limits : Limits) (few many : ℕ) → few ≤ many → Fit limits many → Fit limits few) where
    -- behind an item stands nothing that continues it
    rest_apart : (limits : Limits) (xs : List A) (leaves back : List Leaf) → Further (Is limits) separator xs leaves → StopsBefore ContinuesRow back → StopsBefore Continues (leaves ++ back)
    rest_apart limits [] leaves back f stops = subst (λ (ls : List Leaf). StopsBefore Continues (ls ++ back)) (sym f) (stops_smaller ContinuesRow Continues (λ t continues. inr continues) back stops)
    rest_apart limits (x ∷ xs) leaves back (at, first, rest, f, is, are) stops = subst (λ (ls : List Leaf). StopsBefore Continues (ls ++ back)) (sym f) apart

    -- an item is refused
    pub row_refused : (used : ℕ) {cause : Cause} {here after : List Leaf} → Refuses (Item used) Continues cause here after → Refuses (Row used) ContinuesRow cause here after
    row_refused used {cause} {here} {after} r =
        refuses_first (Item used) (Row used) []
        (λ limits leaves is. (is.0 ∷ [], (leaves, [], refl, is.1, refl), fewer limits (used + counted count (is.0 ∷ [])) (used + count is.0) (omega arith) is.2))
        Continues ContinuesRow cause here after
        (λ limits whole back is stops same. go limits whole back is.0 is.1 is.2 stops) r
      where
        go : (limits : Limits) (whole back : List Leaf) (xs : List A) → Separated (Is limits) separator xs whole → Fit limits (used + counted count xs) → StopsBefore ContinuesRow back
            → (part other : List Leaf) × (whole ++ back ≡ part ++ other) × Item used limits part × StopsBefore Continues other
        go limits whole back [] are fits stops = absurd are
        go limits whole back (x ∷ xs) (first, rest, e, is, are) fits stops =
            (first, rest ++ back, append_to whole first rest back e, (x, is, fewer limits (used + count x) (used + counted count (x ∷ xs)) (omega arith) fits), rest_apart limits xs rest back are stops)

    -- an item was read
    module _ (within : (limits : Limits) (x : A) (leaves : List Leaf) → Is both_limits x leaves → Is limits x leaves)
        (free : (limits : Limits) (x : A) (leaves : List Leaf) → Is limits x leaves → Is no_limits x leaves)
        (alike : (x y : A) (leaves : List Leaf) → Is no_limits x leaves → Is no_limits y leaves → count x ≡ count y) where
      pub row_item : (used : ℕ) (x : A) {s t : State} → Covers (Is both_limits x) s t → Settles (InAny Is) Continues s.leaves t.leaves → Leads (Row used) ContinuesRow (RowRest (used + count x)) ContinuesRow s.leaves t.leaves
      row_item used x {s} {t} c k = record {
        front = c.front;
        split = c.split;
        extend = λ limits leaves is. (x ∷ is.0, (c.front, leaves, refl, within limits x c.front c.is, is.1), fewer limits (used + counted count (x ∷ is.0)) (used + count x + counted count is.0) (omega arith) is.2);
        left = λ limits rest whole back e is stops same. go limits rest whole back e is.0 is.1 is.2 stops same;
      } where
        passed : k.passed ≡ c.front
        passed = append_cancel_right k.passed c.front t.leaves (sym k.split ∙ c.split)

        go : (limits : Limits) (rest whole back : List Leaf) → c.front ++ rest ≡ whole ++ back → (xs : List A) → Separated (Is limits) separator xs whole → Fit limits (used + counted count xs) → StopsBefore ContinuesRow back → SameFirst t.leaves rest
            → (part : List Leaf) × (rest ≡ part ++ back) × RowRest (used + count x) limits part × StopsBefore ContinuesRow back
        go limits rest whole back e [] are fits stops same = absurd are
        go limits rest whole back e (y ∷ ys) (first, others, f, is, are) fits stops same =
            let begin : c.front ++ rest ≡ first ++ (others ++ back) = e ∙ append_to whole first others back f in
            let one : first ≡ c.front = k.alone (c.front ++ rest) first (others ++ back) (subst (λ (ls : List Leaf). Agrees ls t.leaves (c.front ++ rest)) (sym passed) (agrees_behind c.front t.leaves rest same)) begin (y, free limits y first is) (rest_apart limits ys others back are stops) ∙ passed in
            let counts : count x ≡ count y = alike x y first (subst (λ (ls : List Leaf). Is no_limits x ls) (sym one) (free both_limits x c.front c.is)) (free limits y first is) in (
              others,
              append_cancel_left c.front rest (others ++ back) (begin ∙ ap (λ ls. ls ++ (others ++ back)) one),
              (ys, are, fewer limits (used + count x + counted count ys) (used + counted count (y ∷ ys)) (omega (arith, counts)) fits),
              stops,
            )

-- the operators of what has one reading
pub alike_once : {A : Type 0} (Is : Limits → A → List Leaf → Type 0) (count : A → ℕ) (Continues : Terminal → Type 0) → OneReading (Is no_limits) Continues
    → (x y : A) (leaves : List Leaf) → Is no_limits x leaves → Is no_limits y leaves → count x ≡ count y
alike_once Is count Continues once x y leaves is_x is_y = ap count (once x y leaves leaves [] [] refl is_x is_y tt tt).0

-- Lists with separators up to what closes them.
use Rattle.sig_parse.proofs.Common.{◌≡◌, ◌++◌, ◌+◌, ℕ, List, [], ◌∷◌, inl, inr, refl, sym, ap, ◌∙◌, subst, append_assoc, append-nil, Span, Terminal, Leaf, leaf, Limits, Further, Listed, StartsWith, StopsBefore, ContinuesNothing, ContinuesList, no_place, append_to, stops_nothing, Cause, Agrees, Refuses, InLeaf, counted, Closes, UpTo}
use Rattle.sig_parse.proofs.PartRefusals.{SameFirst, refuses_first}
use Rattle.sig_parse.proofs.AheadLemmas.{leaf_is}
use Rattle.sig_parse.proofs.PassedLanguages.{Leads, leads_refuses, same_behind, starts_or_stops}
use Rattle.sig_parse.proofs.Lists.{listed}
use Rattle.sig_parse.proofs.Rows.{Row, RowRest}

-- a leaf that is next is not refused
pub next_not_refused : (t : Terminal) {cause : Cause} {here after : List Leaf} → Refuses (InLeaf t) ContinuesNothing cause here after → StartsWith (λ u. u ≡ t) here → ⊥
next_not_refused t {cause} {here} {after} r next = go r.passed after r.split r.viable.0 r.viable.1.0 r.viable.1.1 (λ leaves front back agrees e is. r.excluded leaves front back agrees e is (stops_nothing back))
  where
    none_behind : (l : Leaf) (ls done : List Leaf) (m : Leaf) → (l ∷ ls) ++ done ≡ m ∷ [] → ls ≡ []
    none_behind l [] done m e = refl
    none_behind l (k ∷ ls) done m e = cc

    go : (passed after : List Leaf) → here ≡ passed ++ after → (done : List Leaf) (at : Span) → passed ++ done ≡ leaf t at ∷ []
        → ((leaves front back : List Leaf) → Agrees passed after leaves → leaves ≡ front ++ back → (at : Span) × (front ≡ leaf t at ∷ []) → ⊥) → ⊥
    go [] [] split done at e excluded = subst (λ (ls : List Leaf). StartsWith (λ u. u ≡ t) ls) split next
    go [] (l ∷ after) split done at e excluded =
        excluded (l ∷ []) (l ∷ []) [] ([], refl) refl (l.at, ap (λ m. m ∷ []) (leaf_is l t (subst (λ (ls : List Leaf). StartsWith (λ u. u ≡ t) ls) split next)))
    go (p ∷ passed) after split done at e excluded = behind after split excluded
      where
        one : p ∷ passed ≡ leaf t at ∷ []
        one = cc (none_behind p passed done (leaf t at) e, e)

        behind : (after : List Leaf) → here ≡ (p ∷ passed) ++ after → ((leaves front back : List Leaf) → Agrees (p ∷ passed) after leaves → leaves ≡ front ++ back → (at : Span) × (front ≡ leaf t at ∷ []) → ⊥) → ⊥
        behind [] split excluded = excluded (p ∷ passed) (p ∷ passed) [] refl (sym (append-nil (p ∷ passed))) (at, one)
        behind (l ∷ after) split excluded = excluded ((p ∷ passed) ++ l ∷ []) (p ∷ passed) (l ∷ []) ([], refl) refl (at, one)

-- so what closes a list and is next is not refused
pub closes_next : (Is : Limits → List Leaf → Type 0) (closing : Terminal) {here : List Leaf} → StartsWith (λ t. t ≡ closing) here → Closes Is closing here here
closes_next Is closing next cause stopped r = absurd (next_not_refused closing r next)

module _ {A : Type 0} (Is : Limits → A → List Leaf → Type 0) (count : A → ℕ) (Fit : Limits → ℕ → Type 0) (Continues : Terminal → Type 0) (separator closing : Terminal) where
  -- a list, and what is left of it behind an item, up to what closes it
  abbrev pub Closed : ℕ → Limits → List Leaf → Type 0
  Closed used limits leaves = (xs : List A) × UpTo closing (Listed (Is limits) separator) xs leaves × Fit limits (used + counted count xs)

  abbrev pub ClosedRest : ℕ → Limits → List Leaf → Type 0
  ClosedRest used limits leaves = (xs : List A) × UpTo closing (Further (Is limits) separator) xs leaves × Fit limits (used + counted count xs)

  -- no further item is next, where what closes the list is refused
  closed_over : (used : ℕ) (here : List Leaf) → ((limits : Limits) → Fit limits (used + 0)) → StopsBefore (λ t. t ≡ separator) here → Closes (ClosedRest used) closing here here
  closed_over used here fits no_more cause stopped r =
      refuses_first (InLeaf closing) (ClosedRest used) []
      (λ limits leaves is. ([], (is.0, [], append-nil leaves ∙ is.1, refl), fits limits)) ContinuesNothing ContinuesNothing cause here stopped
      (λ limits whole back is stops same. go limits whole back is.0 is.1 same) r
    where
      go : (limits : Limits) (whole back : List Leaf) (xs : List A) → UpTo closing (Further (Is limits) separator) xs whole → SameFirst here (whole ++ back)
          → (part other : List Leaf) × (whole ++ back ≡ part ++ other) × InLeaf closing limits part × StopsBefore ContinuesNothing other
      go limits whole back [] (at, inside, f, none) same = (leaf closing at ∷ [], back, ap (λ l. l ++ back) (f ∙ ap (λ l. l ++ leaf closing at ∷ []) none), (at, refl), stops_nothing back)
      go limits whole back (y ∷ ys) (at, inside, f, (there, first, others, g, is, are)) same =
          absurd (starts_or_stops (λ u. u ≡ separator) here (leaf separator there ∷ ((first ++ others) ++ leaf closing at ∷ back))
          (subst (λ (l : List Leaf). SameFirst here l) (append_to whole inside (leaf closing at ∷ []) back f ∙ ap (λ l. l ++ leaf closing at ∷ back) g) same) no_more refl)

  module _ (differ : separator ≡ closing → ⊥) (ends : Continues closing → ⊥) where
    closing_stops : ContinuesList separator Continues closing → ⊥
    closing_stops (inl e) = differ (sym e)
    closing_stops (inr continues) = ends continues

    -- an empty list is not what stands here
    not_closed : (before whole back inside : List Leaf) (at : Span) → StopsBefore (λ t. t ≡ closing) before → whole ≡ inside ++ leaf closing at ∷ [] → inside ≡ [] → SameFirst before (whole ++ back) → ⊥
    not_closed before whole back inside at open_here f none same =
        starts_or_stops (λ t. t ≡ closing) before (leaf closing at ∷ back) (subst (λ (l : List Leaf). SameFirst before (l ++ back)) (f ∙ ap (λ l. l ++ leaf closing at ∷ []) none) same) open_here refl

    -- an item is refused
    pub closed_refused : (used : ℕ) {cause : Cause} {here after : List Leaf} → StopsBefore (λ t. t ≡ closing) here → Refuses (Row Is count Fit Continues separator used) (ContinuesList separator Continues) cause here after
        → Refuses (Closed used) ContinuesNothing cause here after
    closed_refused used {cause} {here} {after} open_here r =
        refuses_first (Row Is count Fit Continues separator used) (Closed used) (leaf closing no_place ∷ [])
        (λ limits leaves is. (is.0, (no_place, leaves, refl, listed (Is limits) separator is.0 leaves is.1), is.2)) (ContinuesList separator Continues) ContinuesNothing cause here after
        (λ limits whole back is stops same. go limits whole back is.0 is.1 is.2 same) r
      where
        go : (limits : Limits) (whole back : List Leaf) (xs : List A) → UpTo closing (Listed (Is limits) separator) xs whole → Fit limits (used + counted count xs) → SameFirst here (whole ++ back)
            → (part other : List Leaf) × (whole ++ back ≡ part ++ other) × Row Is count Fit Continues separator used limits part × StopsBefore (ContinuesList separator Continues) other
        go limits whole back [] (at, inside, f, none) fits same = absurd (not_closed here whole back inside at open_here f none same)
        go limits whole back (y ∷ ys) (at, inside, f, are) fits same = (inside, leaf closing at ∷ back, append_to whole inside (leaf closing at ∷ []) back f, (y ∷ ys, are, fits), closing_stops)

    -- items were read
    pub closed_leads : (used sofar : ℕ) {before here : List Leaf} → StopsBefore (λ t. t ≡ closing) before
        → Leads (Row Is count Fit Continues separator used) (ContinuesList separator Continues) (RowRest Is count Fit Continues separator sofar) (ContinuesList separator Continues) before here
        → Leads (Closed used) ContinuesNothing (ClosedRest sofar) ContinuesNothing before here
    closed_leads used sofar {before} {here} open_here l = record {
      front = l.front;
      split = l.split;
      extend = λ limits leaves is. extended limits leaves is.0 is.1 is.2;
      left = λ limits rest whole back e is stops same. go limits rest whole back e is.0 is.1 is.2 same;
    } where
      extended : (limits : Limits) (leaves : List Leaf) (xs : List A) → UpTo closing (Further (Is limits) separator) xs leaves → Fit limits (sofar + counted count xs) → Closed used limits (l.front ++ leaves)
      extended limits leaves xs (at, inside, f, are) fits =
          let row = l.extend limits inside (xs, are, fits) in
          (row.0, (at, l.front ++ inside, ap (λ ls. l.front ++ ls) f ∙ sym (append_assoc l.front inside (leaf closing at ∷ [])), listed (Is limits) separator row.0 (l.front ++ inside) row.1), row.2)

      go : (limits : Limits) (rest whole back : List Leaf) → l.front ++ rest ≡ whole ++ back → (xs : List A) → UpTo closing (Listed (Is limits) separator) xs whole → Fit limits (used + counted count xs) → SameFirst here rest
          → (part : List Leaf) × (rest ≡ part ++ back) × ClosedRest sofar limits part × StopsBefore ContinuesNothing back
      go limits rest whole back e [] (at, inside, f, none) fits same =
          let begin : SameFirst before (whole ++ back) = subst (λ (ls : List Leaf). SameFirst ls (whole ++ back)) (sym l.split) (subst (λ (ls : List Leaf). SameFirst (l.front ++ here) ls) e (same_behind l.front here rest same)) in
          absurd (not_closed before whole back inside at open_here f none begin)
      go limits rest whole back e (y ∷ ys) (at, inside, f, are) fits same =
          let one = l.left limits rest inside (leaf closing at ∷ back) (e ∙ append_to whole inside (leaf closing at ∷ []) back f) (y ∷ ys, are, fits) closing_stops same in
          (one.0 ++ leaf closing at ∷ [], one.1 ∙ sym (append_assoc one.0 (leaf closing at ∷ []) back), (one.2.0, (at, one.0, refl, one.2.1), one.2.2), stops_nothing back)

    -- what closes the list is refused behind them
    pub closed_ends : (used sofar : ℕ) {before here : List Leaf} → StopsBefore (λ t. t ≡ closing) before
        → Leads (Row Is count Fit Continues separator used) (ContinuesList separator Continues) (RowRest Is count Fit Continues separator sofar) (ContinuesList separator Continues) before here
        → ((limits : Limits) → Fit limits (sofar + 0)) → StopsBefore (λ t. t ≡ separator) here → Closes (Closed used) closing before here
    closed_ends used sofar {before} {here} open_here l fits no_more cause stopped r = leads_refuses (closed_leads used sofar open_here l) (closed_over sofar here fits no_more cause stopped r)

-- Lists with separators, from the trace of a parser that read their parts one after another.
use Rattle.sig_parse.proofs.Common.{◌≡◌, ◌++◌, ◌≤◌, ◌⊎◌, ℕ, List, [], ◌∷◌, map, sum_by, inl, inr, refl, sym, subst, arith, map-id, Span, Terminal, Leaf, Limits, both_limits, no_limits, Separated, Listed, StopsBefore, ContinuesNothing, ContinuesList, Refusal, State, Reads, IsLeaf, IsOfText, cause_of, Refuses, RefusedBy, Settles, Closes, ReadsParts, ReadsSeparated, RefusesSeparated, InAny, InSome, UpTo}
use Rattle.sig_parse.proofs.CoveredParts.{covered}
use Rattle.sig_parse.proofs.Lists.{counted_one, counted_more}
use Rattle.sig_parse.proofs.PassedLanguages.{Leads, leads_on, leads_refuses, settles_on, refuses_as, settles_as}
use Rattle.sig_parse.proofs.RepeatedParts.{behind_parts}
use Rattle.sig_parse.proofs.Rows.{none_of, none_summed, Unbounded, fewer_unbounded, Item, Row, RowRest, row_ends, row_separated, row_refused, row_item}
use Rattle.sig_parse.proofs.ClosedRows.{Closed, closed_refused, closed_ends}

module _ {A B : Type 0} (view : B → A) (Is : Limits → A → List Leaf → Type 0) (count : A → ℕ) (Fit : Limits → ℕ → Type 0) (Continues : Terminal → Type 0) (separator : Terminal) (apart : Continues separator → ⊥)
    (fewer : (limits : Limits) (few many : ℕ) → few ≤ many → Fit limits many → Fit limits few)
    (within : (limits : Limits) (x : A) (leaves : List Leaf) → Is both_limits x leaves → Is limits x leaves)
    (free : (limits : Limits) (x : A) (leaves : List Leaf) → Is limits x leaves → Is no_limits x leaves)
    (alike : (x y : A) (leaves : List Leaf) → Is no_limits x leaves → Is no_limits y leaves → count x ≡ count y)
    (Part : B → State → State → Type 0)
    (reads : (x : B) (s t : State) → Part x s t → Reads (Is both_limits (view x)) (count (view x)) s t)
    (settles : (x : B) (s t : State) → Part x s t → Settles (InAny Is) Continues s.leaves t.leaves) where
  abbrev pub LeadsRow : (s t : State) → Type 0
  LeadsRow s t = Leads (Row Is count Fit Continues separator s.operators) (ContinuesList separator Continues) (RowRest Is count Fit Continues separator t.operators) (ContinuesList separator Continues) s.leaves t.leaves

  abbrev pub SoFar : State → List B → State → Type 0
  SoFar s xs t = Reads (Separated (Is both_limits) separator (map view xs)) (sum_by count (map view xs)) s t × LeadsRow s t

  item_led : (x : B) {s t : State} → Part x s t → LeadsRow s t
  item_led x {s} {t} p = subst (λ (n : ℕ). Leads (Row Is count Fit Continues separator s.operators) (ContinuesList separator Continues) (RowRest Is count Fit Continues separator n) (ContinuesList separator Continues) s.leaves t.leaves)
      (sym (reads x s t p).counted) (row_item Is count Fit Continues separator apart fewer within free alike s.operators (view x) (covered (reads x s t p)) (settles x s t p))

  separator_led : (at : Span) {s t : State} → Reads (IsLeaf separator at) 0 s t
      → Leads (RowRest Is count Fit Continues separator s.operators) (ContinuesList separator Continues) (Row Is count Fit Continues separator t.operators) (ContinuesList separator Continues) s.leaves t.leaves
  separator_led at {s} {t} q = subst (λ (n : ℕ). Leads (RowRest Is count Fit Continues separator s.operators) (ContinuesList separator Continues) (Row Is count Fit Continues separator n) (ContinuesList separator Continues) s.leaves t.leaves)
      same (row_separated Is count Fit Continues separator s.operators at (covered q))
    where
      same : s.operators ≡ t.operators
      same = omega (arith, q.counted)

  pub so_far : (s : State) (xs : List B) (t : State) → ReadsParts Part separator xs s t → SoFar s xs t
  so_far s xs t h = behind_parts Part separator (SoFar s) next s first xs t h where
    first : (x : B) (t : State) → Part x s t → SoFar s (x ∷ []) t
    first x t p = (counted_one view (Is both_limits) separator count (x ∷ []) x refl (reads x s t p), item_led x p)

    next : (xs : List B) (x : B) (at : Span) (t u v : State) → SoFar s xs t → Reads (IsLeaf separator at) 0 t u → Part x u v → SoFar s (xs ++ x ∷ []) v
    next xs x at t u v (r, l) q p = (counted_more view (Is both_limits) separator count xs (xs ++ x ∷ []) x at refl r q (reads x u v p), leads_on l (leads_on (separator_led at q) (item_led x p)))

  -- what is refused, where parts are refused in a state that is ready
  module _ (Ready : State → Type 0) (stays : (L : List Leaf → Type 0) (n : ℕ) (s t : State) → Reads L n s t → Ready s → Ready t) (Refused : Refusal → State → State → Type 0)
      (refuses : (why : Refusal) (s t : State) → Ready s → Refused why s t → IsOfText why → Refuses (Item Is count Fit Continues separator s.operators) Continues (cause_of why) s.leaves t.leaves) where
    pub rows_refused : (why : Refusal) (s t : State) → Ready s → RefusesSeparated Part Refused separator s t why → RefusedBy (Row Is count Fit Continues separator s.operators) (ContinuesList separator Continues) s t why
    rows_refused why s t ready h text = go (h text) where
      go : Refused why s t ⊎ ((xs : List B) × (at : Span) × (u v : State) × ReadsParts Part separator xs s u × Reads (IsLeaf separator at) 0 u v × Refused why v t)
          → Refuses (Row Is count Fit Continues separator s.operators) (ContinuesList separator Continues) (cause_of why) s.leaves t.leaves
      go (inl r) = row_refused Is count Fit Continues separator apart fewer s.operators (refuses why s t ready r text)
      go (inr (xs, at, u, v, parts, q, r)) =
          let before = so_far s xs u parts in
          leads_refuses before.1 (leads_refuses (separator_led at q) (row_refused Is count Fit Continues separator apart fewer v.operators (refuses why v t (stays _ _ u v q (stays _ _ s u before.0 ready)) r text)))

-- Items whose operators are not counted.
module _ {A : Type 0} (Is : A → List Leaf → Type 0) (Continues : Terminal → Type 0) (separator : Terminal) (apart : Continues separator → ⊥) (Part : A → State → State → Type 0)
    (reads : (x : A) (s t : State) → Part x s t → Reads (Is x) 0 s t)
    (settles : (x : A) (s t : State) → Part x s t → Settles (InSome Is) Continues s.leaves t.leaves) where
  abbrev Always : Limits → A → List Leaf → Type 0
  Always limits x leaves = Is x leaves

  abbrev Plain : ℕ → Limits → List Leaf → Type 0
  Plain used limits leaves = Row Always none_of Unbounded Continues separator used limits leaves

  trace : (s : State) (xs : List A) (t : State) → ReadsParts Part separator xs s t
      → Reads (Separated Is separator (map (λ (x : A). x) xs)) (sum_by none_of (map (λ (x : A). x) xs)) s t × Leads (Plain s.operators) (ContinuesList separator Continues) (RowRest Always none_of Unbounded Continues separator t.operators) (ContinuesList separator Continues) s.leaves t.leaves
  trace s xs t h = so_far (λ x. x) Always none_of Unbounded Continues separator apart fewer_unbounded (λ limits x leaves is. is) (λ limits x leaves is. is) (λ x y leaves is_x is_y. refl) Part reads settles s xs t h

  plain_to : (used : ℕ) (limits : Limits) (leaves : List Leaf) → Plain used limits leaves → InSome (Separated Is separator) limits leaves
  plain_to used limits leaves is = (is.0, is.1)

  plain_from : (used : ℕ) (limits : Limits) (leaves : List Leaf) → InSome (Separated Is separator) limits leaves → Plain used limits leaves
  plain_from used limits leaves is = (is.0, is.1, tt)

  pub plain_reads : (s : State) (xs : List A) (t : State) → ReadsSeparated Part separator xs s t → Reads (Separated Is separator xs) 0 s t
  plain_reads s xs t (h, stops) = subst (λ (n : ℕ). Reads (Separated Is separator xs) n s t) (none_summed xs)
      (subst (λ (ys : List A). Reads (Separated Is separator ys) (sum_by none_of ys) s t) (map-id xs) (trace s xs t h).0)

  pub plain_settles : (s : State) (xs : List A) (t : State) → ReadsSeparated Part separator xs s t → Settles (InSome (Separated Is separator)) (ContinuesList separator Continues) s.leaves t.leaves
  plain_settles s xs t (h, stops) = settles_as (Plain s.operators) (InSome (Separated Is separator)) (ContinuesList separator Continues) (plain_to s.operators) (plain_from s.operators)
      (settles_on (trace s xs t h).1 (row_ends Always none_of Unbounded Continues separator t.operators t.leaves stops))

  module _ (Refused : Refusal → State → State → Type 0) (refuses : (why : Refusal) (s t : State) → Refused why s t → IsOfText why → Refuses (InSome Is) Continues (cause_of why) s.leaves t.leaves) where
    row_of : (why : Refusal) (s t : State) → RefusesSeparated Part Refused separator s t why → RefusedBy (Plain s.operators) (ContinuesList separator Continues) s t why
    row_of why s t h = rows_refused (λ x. x) Always none_of Unbounded Continues separator apart fewer_unbounded (λ limits x leaves is. is) (λ limits x leaves is. is) (λ x y leaves is_x is_y. refl) Part reads settles
        (λ s. Unit {0}) (λ L n s t q ready. tt) Refused
        (λ why s t ready r text. refuses_as (InSome Is) (Item Always none_of Unbounded Continues separator s.operators) Continues (λ limits leaves is. (is.0, is.1, tt)) (λ limits leaves is. (is.0, is.1)) (refuses why s t r text))
        why s t tt h

    pub plain_refused : (why : Refusal) (s t : State) → RefusesSeparated Part Refused separator s t why → RefusedBy (InSome (Separated Is separator)) (ContinuesList separator Continues) s t why
    plain_refused why s t h text = refuses_as (Plain s.operators) (InSome (Separated Is separator)) (ContinuesList separator Continues) (plain_to s.operators) (plain_from s.operators) (row_of why s t h text)

    -- up to what closes them
    pub plain_not_closed : (closing : Terminal) → (separator ≡ closing → ⊥) → (Continues closing → ⊥) → (why : Refusal) (s t : State) → StopsBefore (λ u. u ≡ closing) s.leaves → RefusesSeparated Part Refused separator s t why
        → RefusedBy (InSome (UpTo closing (Listed Is separator))) ContinuesNothing s t why
    plain_not_closed closing differ ends why s t open_here h text = refuses_as (Closed Always none_of Unbounded Continues separator closing s.operators) (InSome (UpTo closing (Listed Is separator))) ContinuesNothing
        (λ limits leaves is. (is.0, is.1)) (λ limits leaves is. (is.0, is.1, tt))
        (closed_refused Always none_of Unbounded Continues separator closing differ ends s.operators open_here (row_of why s t h text))

  pub plain_closes : (closing : Terminal) → (separator ≡ closing → ⊥) → (Continues closing → ⊥) → (s : State) (xs : List A) (t : State) → StopsBefore (λ u. u ≡ closing) s.leaves → ReadsSeparated Part separator xs s t
      → Closes (InSome (UpTo closing (Listed Is separator))) closing s.leaves t.leaves
  plain_closes closing differ ends s xs t open_here (h, stops) cause stopped r = refuses_as (Closed Always none_of Unbounded Continues separator closing s.operators) (InSome (UpTo closing (Listed Is separator))) ContinuesNothing
      (λ limits leaves is. (is.0, is.1)) (λ limits leaves is. (is.0, is.1, tt))
      (closed_ends Always none_of Unbounded Continues separator closing differ ends s.operators t.operators open_here (trace s xs t h).1 (λ limits. tt) stops cause stopped r)

-- What is refused of lists with separators, and of what stands in brackets, from what is refused of their
-- parts.
use Rattle.sig_parse.proofs.Common.{◌≡◌, ◌++◌, ◌+◌, ◌≤◌, ℕ, List, [], ◌∷◌, refl, sym, ap, ◌∙◌, append_assoc, append-nil, Span, Terminal, Leaf, leaf, Limits, both_limits, no_limits, Between, Separated, Listed, StopsBefore, OneReading, ContinuesNothing, no_place, cons_same, append_to, part_at, stops_nothing, Cause, Refuses, InLeaf, InOne}
use Rattle.sig_parse.proofs.PartRefusals.{first_stops, refuses_inside, refuses_first}

-- leaves and the one that closes them
abbrev pub Closed : {A : Type 0} → (Limits → A → List Leaf → Type 0) → Terminal → Limits → A → List Leaf → Type 0
Closed Is closing limits x leaves = (closed : Span) × (inside : List Leaf) × (leaves ≡ inside ++ leaf closing closed ∷ []) × Is limits x inside

abbrev pub Bracketed : {A : Type 0} → (Limits → A → List Leaf → Type 0) → (opening closing : Terminal) → Limits → A → List Leaf → Type 0
Bracketed Is opening closing limits x leaves = Between opening closing (Is limits x) leaves

-- what stands in brackets
module _ {A : Type 0} (Is : Limits → A → List Leaf → Type 0) (count : A → ℕ) (used : ℕ) (opening closing : Terminal) where
  pub bracketed_from_closed : (opened : Span) (cause : Cause) (here after : List Leaf) → Refuses (InOne (Closed Is closing) count used) ContinuesNothing cause here after
      → Refuses (InOne (Bracketed Is opening closing) count used) ContinuesNothing cause (leaf opening opened ∷ here) after
  bracketed_from_closed opened cause here after r =
      refuses_inside (InOne (Closed Is closing) count used) (InOne (Bracketed Is opening closing) count used) (leaf opening opened ∷ []) []
      (λ limits leaves is. (is.0, (opened, is.1.0, is.1.1, ap (λ l. leaf opening opened ∷ l) (append-nil leaves ∙ is.1.2), is.1.3), is.2))
      ContinuesNothing ContinuesNothing cause here after
      (λ limits rest whole back e is stops same.
      let heads = cons_same (leaf opening opened) (leaf opening is.1.0) rest (is.1.2 ++ leaf closing is.1.1 ∷ back)
      (e ∙ append_to whole (leaf opening is.1.0 ∷ is.1.2) (leaf closing is.1.1 ∷ []) back is.1.3) in
      (is.1.2 ++ leaf closing is.1.1 ∷ [], back, heads.1 ∙ sym (append_assoc is.1.2 (leaf closing is.1.1 ∷ []) back), (is.0, (is.1.1, is.1.2, refl, is.1.4), is.2), stops_nothing back)) r

  module _ (Continues : Terminal → Type 0) (apart : Continues closing → ⊥) where
    -- what stands before the closing one is refused
    pub closed_from_inside : (cause : Cause) (here after : List Leaf) → Refuses (InOne Is count used) Continues cause here after → Refuses (InOne (Closed Is closing) count used) ContinuesNothing cause here after
    closed_from_inside cause here after r =
        refuses_first (InOne Is count used) (InOne (Closed Is closing) count used) (leaf closing no_place ∷ [])
        (λ limits leaves is. (is.0, (no_place, leaves, refl, is.1), is.2)) Continues ContinuesNothing cause here after
        (λ limits whole back is stops same. (is.1.1, leaf closing is.1.0 ∷ back, append_to whole is.1.1 (leaf closing is.1.0 ∷ []) back is.1.2, (is.0, is.1.3, is.2), apart)) r

    -- the closing one is refused
    module _ (once : OneReading (Is no_limits) Continues) (free : (limits : Limits) (x : A) (leaves : List Leaf) → Is limits x leaves → Is no_limits x leaves)
        (within : (limits : Limits) (x : A) (leaves : List Leaf) → Is both_limits x leaves → Is limits x leaves) where
      pub closed_from_end : (x : A) (front : List Leaf) → Is both_limits x front → used + count x ≤ 512 → (cause : Cause) (here after : List Leaf) → StopsBefore Continues here
          → Refuses (InLeaf closing) ContinuesNothing cause here after → Refuses (InOne (Closed Is closing) count used) ContinuesNothing cause (front ++ here) after
      closed_from_end x front is_x few cause here after stopped r =
          refuses_inside (InLeaf closing) (InOne (Closed Is closing) count used) front []
          (λ limits leaves is. (x, (is.0, front, ap (λ l. front ++ l) (append-nil leaves ∙ is.1), within limits x front is_x), λ kept. few))
          ContinuesNothing ContinuesNothing cause here after
          (λ limits rest whole back e is stops same.
          let part = part_at (Is no_limits) Continues x (once x) is.0 front is.1.1 rest (leaf closing is.1.0 ∷ back) (e ∙ append_to whole is.1.1 (leaf closing is.1.0 ∷ []) back is.1.2)
          (free both_limits x front is_x) (free limits is.0 is.1.1 is.1.3) (first_stops Continues here rest same stopped) apart in
          (leaf closing is.1.0 ∷ [], back, part.2, (is.1.0, refl), stops_nothing back)) r

-- lists with separators
abbrev pub List_of : {A : Type 0} → (Limits → A → List Leaf → Type 0) → Terminal → Limits → List A → List Leaf → Type 0
List_of Is separator limits xs leaves = Separated (Is limits) separator xs leaves

abbrev pub Any_of : {A : Type 0} → (Limits → A → List Leaf → Type 0) → Terminal → Limits → List A → List Leaf → Type 0
Any_of Is separator limits xs leaves = Listed (Is limits) separator xs leaves

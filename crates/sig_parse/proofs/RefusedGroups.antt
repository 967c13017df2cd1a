-- What is refused of groups up to the mark that ends them, from their parts.
use Rattle.sig_parse.proofs.Common.{◌≡◌, ◌++◌, ◌⊎◌, List, [], ◌∷◌, codes, inl, inr, refl, sym, ap, ◌∙◌, subst, append_assoc, Span, Integer, Boolean, Event, Declared, Terminal, Leaf, leaf, word, mark, Limits, Further, AreGroups, StartsWith, BeginsGroup, StopsBefore, ContinuesNothing, no_place, different, cons_same, append_to, Declares, Signals, IsGroupOf, State, Covers, IsLeaf, Cause, Refuses, Settles, Closes, InLeaf, InSome, UpTo, InGroup, InGroups, ContinuesItem, ContinuesItems, EndsGroups}
use Rattle.sig_parse.proofs.PartRefusals.{SameFirst}
use Rattle.sig_parse.proofs.ClosedRows.{closes_next}
use Rattle.sig_parse.proofs.PassedLanguages.{Leads, Then, Apart, leads_refuses, leads_on, refuses_where, leads_where, then_first, leads_settled, starts_or_stops}
use Rattle.sig_parse.proofs.RefusedDeclarations.{Always}

abbrev semicolon : Span → Leaf
semicolon at = leaf (mark (codes ";")) at

module _ (Is : Declared → List Leaf → Type 0) (Continues : Terminal → Type 0) (closing : Terminal) where
  abbrev Whole : Limits → List Leaf → Type 0
  Whole limits leaves = InSome (UpTo closing (AreGroups Is)) limits leaves

  abbrev Ended : List Leaf → Type 0
  Ended back = (back ≡ []) ⊎ ((at : Span) × (back ≡ semicolon at ∷ []))

  -- what is left behind a group
  abbrev pub BehindGroup : Limits → List Leaf → Type 0
  BehindGroup limits leaves = (groups : List Declared) × (closed : Span) × (front back : List Leaf)
      × (leaves ≡ front ++ (back ++ leaf closing closed ∷ [])) × Further Is (mark (codes ";")) groups front × Ended back

  whole_of : (limits : Limits) (leaves : List Leaf) → Then (Always Is) BehindGroup limits leaves → Whole limits leaves
  whole_of limits leaves (g, first, back, e, is, (gs, closed, front, tail, f, are, ends)) = (
    g ∷ gs,
    (
      closed,
      (first ++ front) ++ tail,
      e ∙ ap (λ ls. first ++ ls) f ∙ sym (append_assoc (first ++ front) tail (leaf closing closed ∷ []) ∙ append_assoc first front (tail ++ leaf closing closed ∷ [])),
      (first ++ front, tail, refl, (first, front, refl, is, are), ends),
    ),
  )

  -- groups up to the mark, where that is not next
  of_whole : (here : List Leaf) → StopsBefore (λ t. t ≡ closing) here → (limits : Limits) (whole back : List Leaf) → Whole limits whole → SameFirst here (whole ++ back) → Then (Always Is) BehindGroup limits whole
  of_whole here stops limits whole back ([], (closed, inside, e, are)) same =
      absurd (starts_or_stops (λ t. t ≡ closing) here (leaf closing closed ∷ back) (subst (λ (ls : List Leaf). SameFirst here ls) (ap (λ ls. ls ++ back) (e ∙ ap (λ ls. ls ++ leaf closing closed ∷ []) are)) same) stops refl)
  of_whole here stops limits whole back (g ∷ gs, (closed, inside, e, (front, tail, f, (first, rest, h, is, are), ends))) same = (
    g,
    first,
    rest ++ (tail ++ leaf closing closed ∷ []),
    e ∙ ap (λ ls. ls ++ leaf closing closed ∷ []) (f ∙ ap (λ ls. ls ++ tail) h) ∙ append_assoc (first ++ rest) tail (leaf closing closed ∷ []) ∙ append_assoc first rest (tail ++ leaf closing closed ∷ []),
    is,
    (gs, closed, rest, tail, refl, are, ends),
  )

  behind_starts : (limits : Limits) (leaves back : List Leaf) → BehindGroup limits leaves → StartsWith (λ t. (t ≡ mark (codes ";")) ⊎ (t ≡ closing)) (leaves ++ back)
  behind_starts limits leaves back ([], closed, front, tail, e, are, inl none) = subst (λ (ls : List Leaf). StartsWith (λ t. (t ≡ mark (codes ";")) ⊎ (t ≡ closing)) (ls ++ back))
      (sym (e ∙ ap (λ ls. ls ++ (tail ++ leaf closing closed ∷ [])) are ∙ ap (λ ls. ls ++ leaf closing closed ∷ []) none)) (inr refl)
  behind_starts limits leaves back ([], closed, front, tail, e, are, inr (at, one)) = subst (λ (ls : List Leaf). StartsWith (λ t. (t ≡ mark (codes ";")) ⊎ (t ≡ closing)) (ls ++ back))
      (sym (e ∙ ap (λ ls. ls ++ (tail ++ leaf closing closed ∷ [])) are ∙ ap (λ ls. ls ++ leaf closing closed ∷ []) one)) (inl refl)
  behind_starts limits leaves back (g ∷ gs, closed, front, tail, e, (at, first, rest, f, is, are), ends) = subst (λ (ls : List Leaf). StartsWith (λ t. (t ≡ mark (codes ";")) ⊎ (t ≡ closing)) (ls ++ back))
      (sym (e ∙ ap (λ ls. ls ++ (tail ++ leaf closing closed ∷ [])) f)) (inl refl)

  module _ (separated : Continues (mark (codes ";")) → ⊥) (ended : Continues closing → ⊥) where
    behind_apart : Apart Continues BehindGroup ContinuesNothing
    behind_apart limits leaves back is stops = apart (leaves ++ back) (behind_starts limits leaves back is)
      where
        apart : (ls : List Leaf) → StartsWith (λ t. (t ≡ mark (codes ";")) ⊎ (t ≡ closing)) ls → StopsBefore Continues ls
        apart [] starts = tt
        apart (l ∷ ls) (inl e) = λ continues. separated (subst Continues e continues)
        apart (l ∷ ls) (inr e) = λ continues. ended (subst Continues e continues)

    -- a group is refused
    pub group_refused : {cause : Cause} {here after : List Leaf} → StopsBefore (λ t. t ≡ closing) here → Refuses (InSome Is) Continues cause here after → Refuses Whole ContinuesNothing cause here after
    group_refused {here = here} stopped r = refuses_where (Then (Always Is) BehindGroup) Whole ContinuesNothing ContinuesNothing whole_of (λ back stops. stops) here
        (λ limits whole back is stops same. of_whole here stopped limits whole back is same)
        (then_first (Always Is) Continues BehindGroup ContinuesNothing behind_apart (leaf closing no_place ∷ []) (λ limits. ([], no_place, [], [], refl, refl, inl refl)) r)

    -- a group was read
    pub group_read : (g : Declared) {s t : State} → StopsBefore (λ u. u ≡ closing) s.leaves → Covers (Is g) s t → Settles (InSome Is) Continues s.leaves t.leaves → Leads Whole ContinuesNothing BehindGroup ContinuesNothing s.leaves t.leaves
    group_read g {s} {t} stopped c k = leads_where (Then (Always Is) BehindGroup) Whole ContinuesNothing ContinuesNothing whole_of (λ back stops. stops) s.leaves
        (λ limits whole back is stops same. of_whole s.leaves stopped limits whole back is same)
        (leads_settled (Always Is) Continues BehindGroup ContinuesNothing behind_apart (λ limits x leaves is. is) (λ limits x leaves is. is) g c k)

  -- ";" was read
  pub semicolon_read : (closing ≡ mark (codes ";") → ⊥) → (at : Span) {s t : State} → Covers (IsLeaf (mark (codes ";")) at) s t → Leads BehindGroup ContinuesNothing Whole ContinuesNothing s.leaves t.leaves
  semicolon_read apart at {s} {t} c = record {
    front = semicolon at ∷ [];
    split = c.split ∙ ap (λ ls. ls ++ t.leaves) c.is;
    extend = λ limits leaves is. extended limits leaves is.0 is.1.0 is.1.1 is.1.2 is.1.3;
    left = λ limits rest whole back e is stops same. go limits rest whole back e is.0 is.1 is.2 is.3 is.4 is.5 is.6 stops;
  } where
    extended : (limits : Limits) (leaves : List Leaf) (groups : List Declared) (closed : Span) (inside : List Leaf) → leaves ≡ inside ++ leaf closing closed ∷ [] → AreGroups Is groups inside → BehindGroup limits (semicolon at ∷ leaves)
    extended limits leaves [] closed inside e none = ([], closed, [], semicolon at ∷ [], ap (λ ls. semicolon at ∷ ls) (e ∙ ap (λ ls. ls ++ leaf closing closed ∷ []) none), refl, inr (at, refl))
    extended limits leaves (g ∷ gs) closed inside e (front, tail, f, (first, rest, h, is, are), ends) = (
      g ∷ gs,
      closed,
      semicolon at ∷ front,
      tail,
      ap (λ ls. semicolon at ∷ ls) (e ∙ append_to inside front tail (leaf closing closed ∷ []) f),
      (at, first, rest, ap (λ ls. semicolon at ∷ ls) h, is, are),
      ends,
    )

    go : (limits : Limits) (rest whole back : List Leaf) → semicolon at ∷ rest ≡ whole ++ back → (groups : List Declared) (closed : Span) (front tail : List Leaf) → whole ≡ front ++ (tail ++ leaf closing closed ∷ [])
        → Further Is (mark (codes ";")) groups front → Ended tail → StopsBefore ContinuesNothing back → (part : List Leaf) × (rest ≡ part ++ back) × Whole limits part × StopsBefore ContinuesNothing back
    go limits rest whole back e [] closed front tail f are (inl none) stops =
        let heads = cons_same (semicolon at) (leaf closing closed) rest back (e ∙ ap (λ ls. ls ++ back) (f ∙ ap (λ ls. ls ++ (tail ++ leaf closing closed ∷ [])) are ∙ ap (λ ls. ls ++ leaf closing closed ∷ []) none)) in
        absurd (apart (ap (λ l. l.terminal) (sym heads.0)))
    go limits rest whole back e [] closed front tail f are (inr (place, one)) stops =
        let heads = cons_same (semicolon at) (semicolon place) rest (leaf closing closed ∷ back)
        (e ∙ ap (λ ls. ls ++ back) (f ∙ ap (λ ls. ls ++ (tail ++ leaf closing closed ∷ [])) are ∙ ap (λ ls. ls ++ leaf closing closed ∷ []) one)) in
        (leaf closing closed ∷ [], heads.1, ([], (closed, [], refl, refl)), stops)
    go limits rest whole back e (g ∷ gs) closed front tail f (place, first, others, h, is, are) ends stops =
        let inside = (first ++ others) ++ tail in
        let heads = cons_same (semicolon at) (semicolon place) rest (((first ++ others) ++ (tail ++ leaf closing closed ∷ [])) ++ back)
        (e ∙ ap (λ ls. ls ++ back) (f ∙ ap (λ ls. ls ++ (tail ++ leaf closing closed ∷ [])) h)) in (
          inside ++ leaf closing closed ∷ [],
          heads.1 ∙ ap (λ ls. ls ++ back) (sym (append_assoc (first ++ others) tail (leaf closing closed ∷ []))),
          (g ∷ gs, (closed, inside, refl, (first ++ others, tail, refl, (first, others, refl, is, are), ends))),
          stops,
        )

  -- neither ";" nor the mark that ends them is next
  pub behind_refused : {cause : Cause} {here after : List Leaf} → StopsBefore (λ t. t ≡ mark (codes ";")) here → Refuses (InLeaf closing) ContinuesNothing cause here after → Refuses BehindGroup ContinuesNothing cause here after
  behind_refused {here = here} stopped r = refuses_where (InLeaf closing) BehindGroup ContinuesNothing ContinuesNothing (λ limits leaves is. ([], is.0, [], [], is.1, refl, inl refl)) (λ back stops. stops) here
      (λ limits whole back is stops same. go limits whole back is.0 is.1 is.2 is.3 is.4 is.5 is.6 same) r
    where
      never : (at : Span) (whole more back : List Leaf) → whole ≡ semicolon at ∷ more → SameFirst here (whole ++ back) → ⊥
      never at whole more back e same = starts_or_stops (λ t. t ≡ mark (codes ";")) here (semicolon at ∷ (more ++ back)) (subst (λ (ls : List Leaf). SameFirst here (ls ++ back)) e same) stopped refl

      go : (limits : Limits) (whole back : List Leaf) (groups : List Declared) (closed : Span) (front tail : List Leaf) → whole ≡ front ++ (tail ++ leaf closing closed ∷ [])
          → Further Is (mark (codes ";")) groups front → Ended tail → SameFirst here (whole ++ back) → InLeaf closing limits whole
      go limits whole back [] closed front tail f are (inl none) same = (closed, f ∙ ap (λ ls. ls ++ (tail ++ leaf closing closed ∷ [])) are ∙ ap (λ ls. ls ++ leaf closing closed ∷ []) none)
      go limits whole back [] closed front tail f are (inr (place, one)) same =
          absurd (never place whole (leaf closing closed ∷ []) back (f ∙ ap (λ ls. ls ++ (tail ++ leaf closing closed ∷ [])) are ∙ ap (λ ls. ls ++ leaf closing closed ∷ []) one) same)
      go limits whole back (g ∷ gs) closed front tail f (place, first, others, h, is, are) ends same =
          absurd (never place whole ((first ++ others) ++ (tail ++ leaf closing closed ∷ [])) back (f ∙ ap (λ ls. ls ++ (tail ++ leaf closing closed ∷ [])) h) same)

-- groups of what is declared
mark_begins_none : (text : List _) → BeginsGroup (mark text) → ⊥
mark_begins_none text (Integer, e) = cc
mark_begins_none text (Boolean, e) = cc
mark_begins_none text (Event, e) = cc

pub ending_mark : (t : Terminal) → EndsGroups t → BeginsGroup t → ⊥
ending_mark t (inl e) begins = mark_begins_none (codes "}") (subst BeginsGroup e begins)
ending_mark t (inr (inl e)) begins = mark_begins_none (codes "!") (subst BeginsGroup e begins)
ending_mark t (inr (inr e)) begins = mark_begins_none (codes ")") (subst BeginsGroup e begins)

pub ending_semicolon : (t : Terminal) → EndsGroups t → t ≡ mark (codes ";") → ⊥
ending_semicolon t (inl e) f = different (mark (codes "}")) (mark (codes ";")) refl refl (sym e ∙ f)
ending_semicolon t (inr (inl e)) f = different (mark (codes "!")) (mark (codes ";")) refl refl (sym e ∙ f)
ending_semicolon t (inr (inr e)) f = different (mark (codes ")")) (mark (codes ";")) refl refl (sym e ∙ f)

mark_no_item : (declares : Declares) (text : List _) → ContinuesItem declares (mark text) → ⊥
mark_no_item Signals text e = let both : mark text ≡ word (codes "init") = e in cc
mark_no_item _ text none = none

pub ending_continues : (declares : Declares) (t : Terminal) → EndsGroups t → ContinuesItems declares t → ⊥
ending_continues declares t (inl e) (inl f) = different (mark (codes "}")) (mark (codes ",")) refl refl (sym e ∙ f)
ending_continues declares t (inr (inl e)) (inl f) = different (mark (codes "!")) (mark (codes ",")) refl refl (sym e ∙ f)
ending_continues declares t (inr (inr e)) (inl f) = different (mark (codes ")")) (mark (codes ",")) refl refl (sym e ∙ f)
ending_continues declares t (inl e) (inr continues) = mark_no_item declares (codes "}") (subst (ContinuesItem declares) e continues)
ending_continues declares t (inr (inl e)) (inr continues) = mark_no_item declares (codes "!") (subst (ContinuesItem declares) e continues)
ending_continues declares t (inr (inr e)) (inr continues) = mark_no_item declares (codes ")") (subst (ContinuesItem declares) e continues)

pub semicolon_continues : (declares : Declares) → ContinuesItems declares (mark (codes ";")) → ⊥
semicolon_continues declares (inl f) = different (mark (codes ";")) (mark (codes ",")) refl refl f
semicolon_continues declares (inr continues) = mark_no_item declares (codes ";") continues

-- where groups were begun, up to a group
abbrev pub LeadsGroups : Declares → Terminal → (before after : List Leaf) → Type 0
LeadsGroups declares closing before after = Leads (InGroups declares closing) ContinuesNothing (BehindGroup (IsGroupOf declares) (ContinuesItems declares) closing) ContinuesNothing before after

module _ (declares : Declares) (closing : Terminal) (ends : EndsGroups closing) where
  pub groups_first : {cause : Cause} {here after : List Leaf} → StopsBefore (λ t. t ≡ closing) here → Refuses (InGroup declares) (ContinuesItems declares) cause here after → Refuses (InGroups declares closing) ContinuesNothing cause here after
  groups_first stopped r = group_refused (IsGroupOf declares) (ContinuesItems declares) closing (semicolon_continues declares) (ending_continues declares closing ends) stopped r

  pub groups_begun : (g : Declared) {s t : State} → StopsBefore (λ u. u ≡ closing) s.leaves → Covers (IsGroupOf declares g) s t → Settles (InGroup declares) (ContinuesItems declares) s.leaves t.leaves → LeadsGroups declares closing s.leaves t.leaves
  groups_begun g stopped c k = group_read (IsGroupOf declares) (ContinuesItems declares) closing (semicolon_continues declares) (ending_continues declares closing ends) g stopped c k

  pub groups_next : (at : Span) {before : List Leaf} {s t : State} → LeadsGroups declares closing before s.leaves → Covers (IsLeaf (mark (codes ";")) at) s t → Leads (InGroups declares closing) ContinuesNothing (InGroups declares closing) ContinuesNothing before t.leaves
  groups_next at l c = leads_on l (semicolon_read (IsGroupOf declares) (ContinuesItems declares) closing (ending_semicolon closing ends) at c)

  -- the mark that ends them is next
  pub groups_end : {here : List Leaf} → StartsWith (λ t. t ≡ closing) here → Closes (InGroups declares closing) closing here here
  groups_end next = closes_next (InGroups declares closing) closing next

  -- no ";" is next
  pub groups_over : {before here : List Leaf} → LeadsGroups declares closing before here → StopsBefore (λ t. t ≡ mark (codes ";")) here → Closes (InGroups declares closing) closing before here
  groups_over l stopped' = λ cause stopped r. leads_refuses l (behind_refused (IsGroupOf declares) (ContinuesItems declares) closing stopped' r)

-- What stands up to a terminal, what stands there any number of times, and what may be missing.
use Rattle.sig_parse.proofs.Common.{◌≡◌, ◌++◌, ◌⊎◌, List, [], ◌∷◌, inl, inr, refl, sym, ap, ◌∙◌, subst, append_assoc, Span, Terminal, Leaf, leaf, Limits, no_limits, Each, StartsWith, StopsBefore, OneReading, ContinuesNothing, ContinuesOptional, no_place, starts_longer, cons_same, append_to, part_at, stops_nothing, State, Covers, IsLeaf, Cause, Refuses, Settles, InSome, UpTo}
use Rattle.sig_parse.proofs.PartRefusals.{SameFirst, agrees_first}
use Rattle.sig_parse.proofs.PassedLanguages.{Leads, Then, refuses_where, leads_where, settles_where, apart_nothing, then_first, leads_alone, starts_or_stops, starts_same}
use Rattle.sig_parse.proofs.RefusedDeclarations.{Always}

-- the first leaf is in both sets
pub both_begin : (Begins Others : Terminal → Type 0) → ((t : Terminal) → Begins t → Others t → ⊥) → (leaves : List Leaf) → StartsWith Begins leaves → StartsWith Others leaves → ⊥
both_begin Begins Others apart [] begins others = begins
both_begin Begins Others apart (l ∷ leaves) begins others = apart l.terminal begins others

module _ {A : Type 0} (Is : A → List Leaf → Type 0) (ending : Terminal) where
  -- what stands up to a terminal has one reading
  pub up_to_once : (Continues : Terminal → Type 0) → OneReading Is Continues → (Continues ending → ⊥) → OneReading (UpTo ending Is) ContinuesNothing
  up_to_once Continues once apart x y front other_front back other_back e (ended, inside, f, is) (other_ended, other_inside, g, other_is) stops other_stops =
      let part = part_at Is Continues x (once x) y inside other_inside (leaf ending ended ∷ back) (leaf ending other_ended ∷ other_back)
      (sym (append_to front inside (leaf ending ended ∷ []) back f) ∙ e ∙ append_to other_front other_inside (leaf ending other_ended ∷ []) other_back g) is other_is apart apart in
      let heads = cons_same (leaf ending ended) (leaf ending other_ended) back other_back part.2 in
      (part.0, f ∙ ap (λ ls. ls ++ leaf ending ended ∷ []) part.1 ∙ ap (λ l. other_inside ++ l ∷ []) heads.0 ∙ sym g)

  pub up_to_covered : (x : A) (at : Span) {s t u : State} → Covers (Is x) s t → Covers (IsLeaf ending at) t u → Covers (UpTo ending Is x) s u
  up_to_covered x at {s} {t} {u} c d = record {
    front = c.front ++ leaf ending at ∷ [];
    split = c.split ∙ ap (λ ls. c.front ++ ls) (d.split ∙ ap (λ ls. ls ++ u.leaves) d.is) ∙ sym (append_assoc c.front (leaf ending at ∷ []) u.leaves);
    is = (at, c.front, refl, c.is);
  }

-- any number of things up to a terminal
module _ {A : Type 0} (Is : A → List Leaf → Type 0) (once : OneReading Is ContinuesNothing) (ending : Terminal) where
  abbrev pub All : Limits → List Leaf → Type 0
  All limits leaves = InSome (UpTo ending (Each Is)) limits leaves

  all_of : (limits : Limits) (leaves : List Leaf) → Then (Always Is) All limits leaves → All limits leaves
  all_of limits leaves (x, first, back, e, is, (xs, (ended, inside, f, are))) =
      (x ∷ xs, (ended, first ++ inside, e ∙ ap (λ ls. first ++ ls) f ∙ sym (append_assoc first inside (leaf ending ended ∷ [])), (first, inside, refl, is, are)))

  of_all : (here : List Leaf) → StopsBefore (λ t. t ≡ ending) here → (limits : Limits) (whole back : List Leaf) → All limits whole → SameFirst here (whole ++ back) → Then (Always Is) All limits whole
  of_all here stops limits whole back ([], (ended, inside, e, none)) same =
      absurd (starts_or_stops (λ t. t ≡ ending) here (leaf ending ended ∷ back) (subst (λ (ls : List Leaf). SameFirst here ls) (ap (λ ls. ls ++ back) (e ∙ ap (λ ls. ls ++ leaf ending ended ∷ []) none)) same) stops refl)
  of_all here stops limits whole back (x ∷ xs, (ended, inside, e, (first, rest, f, is, are))) same =
      (x, first, rest ++ leaf ending ended ∷ [], e ∙ append_to inside first rest (leaf ending ended ∷ []) f, is, (xs, (ended, rest, refl, are)))

  -- one of them is refused, and one was read
  pub each_refused : {cause : Cause} {here after : List Leaf} → StopsBefore (λ t. t ≡ ending) here → Refuses (InSome Is) ContinuesNothing cause here after → Refuses All ContinuesNothing cause here after
  each_refused {here = here} stopped r = refuses_where (Then (Always Is) All) All ContinuesNothing ContinuesNothing all_of (λ back stops. stops) here (λ limits whole back is stops same. of_all here stopped limits whole back is same)
      (then_first (Always Is) ContinuesNothing All ContinuesNothing (apart_nothing All ContinuesNothing) (leaf ending no_place ∷ []) (λ limits. ([], (no_place, [], refl, refl))) r)

  pub each_read : (x : A) {s t : State} → StopsBefore (λ u. u ≡ ending) s.leaves → Covers (Is x) s t → Leads All ContinuesNothing All ContinuesNothing s.leaves t.leaves
  each_read x {s} {t} stopped c = leads_where (Then (Always Is) All) All ContinuesNothing ContinuesNothing all_of (λ back stops. stops) s.leaves (λ limits whole back is stops same. of_all s.leaves stopped limits whole back is same)
      (leads_alone (Always Is) All ContinuesNothing once (λ limits x leaves is. is) (λ limits x leaves is. is) x c)

-- what may be missing, and begins with a terminal where it is there
module _ (Whole Part : Limits → List Leaf → Type 0) (first : Terminal) (some : (limits : Limits) (leaves : List Leaf) → Part limits leaves → Whole limits leaves)
    (is_one : (limits : Limits) (leaves : List Leaf) → Whole limits leaves → (leaves ≡ []) ⊎ Part limits leaves)
    (begins : (limits : Limits) (leaves : List Leaf) → Part limits leaves → StartsWith (λ t. t ≡ first) leaves) where
  there : (here : List Leaf) → StartsWith (λ t. t ≡ first) here → (limits : Limits) (whole back : List Leaf) → Whole limits whole → StopsBefore (ContinuesOptional first) back → SameFirst here (whole ++ back) → Part limits whole
  there here next limits whole back is stops same = go (is_one limits whole is)
    where
      stopped : (back : List Leaf) → StopsBefore (ContinuesOptional first) back → StartsWith (λ t. t ≡ first) back → ⊥
      stopped [] stops starts = starts
      stopped (l ∷ back) stops starts = stops starts

      go : (whole ≡ []) ⊎ Part limits whole → Part limits whole
      go (inl none) = absurd (stopped back stops (starts_same (λ t. t ≡ first) here back (subst (λ (ls : List Leaf). SameFirst here (ls ++ back)) none same) next))
      go (inr part) = part

  pub optional_refused : {cause : Cause} {here after : List Leaf} → StartsWith (λ t. t ≡ first) here → Refuses Part ContinuesNothing cause here after → Refuses Whole (ContinuesOptional first) cause here after
  optional_refused {here = here} next r = refuses_where Part Whole ContinuesNothing (ContinuesOptional first) some (λ back stops. stops_nothing back) here (there here next) r

  pub optional_settled : {here after : List Leaf} → StartsWith (λ t. t ≡ first) here → Settles Part ContinuesNothing here after → Settles Whole (ContinuesOptional first) here after
  optional_settled {here} next k = settles_where Part Whole ContinuesNothing (ContinuesOptional first) some (λ back stops. stops_nothing back) here (there here next) k

  pub optional_missing : {here : List Leaf} → StopsBefore (λ t. t ≡ first) here → Settles Whole (ContinuesOptional first) here here
  optional_missing {here} stopped = record {
    passed = [];
    split = refl;
    alone = λ leaves front back agrees e is stops. go front back (is_one no_limits front is) (subst (λ (ls : List Leaf). SameFirst here ls) e (agrees_first [] here leaves agrees));
  } where
    go : (front back : List Leaf) → (front ≡ []) ⊎ Part no_limits front → SameFirst here (front ++ back) → front ≡ []
    go front back (inl none) same = none
    go front back (inr part) same = absurd (starts_or_stops (λ t. t ≡ first) here (front ++ back) same stopped (starts_longer (λ t. t ≡ first) front back (begins no_limits front part)))

-- the first leaf that was read
pub leaf_next : (t : Terminal) (at : Span) {s u : State} → Covers (IsLeaf t at) s u → StartsWith (λ v. v ≡ t) s.leaves
leaf_next t at {s} {u} c = subst (λ (ls : List Leaf). StartsWith (λ v. v ≡ t) ls) (sym (c.split ∙ ap (λ ls. ls ++ u.leaves) c.is)) refl

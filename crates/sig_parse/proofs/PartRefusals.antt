-- A refusal of a part is one of what the part stands in.
use Rattle.sig_parse.proofs.Common.{◌≡◌, ◌++◌, List, [], ◌∷◌, refl, sym, ap, ◌∙◌, subst, append_assoc, append-nil, Terminal, Leaf, Limits, both_limits, nesting_limit, no_limits, StopsBefore, OneReading, StartsWith, part_at, Cause, Wrong, TooDeep, TooMany, refused_within, Reaches, ReachesNext, IsAllowed, Agrees, Refuses}

-- both lists are empty, or both begin with the same leaf
abbrev pub SameFirst : List Leaf → List Leaf → Type 0
SameFirst [] [] = Unit {0}
SameFirst (l ∷ leaves) (m ∷ other) = l ≡ m
SameFirst _ _ = ⊥

pub agrees_first : (passed after leaves : List Leaf) → Agrees passed after leaves → SameFirst (passed ++ after) leaves
agrees_first [] [] leaves e = subst (λ (l : List Leaf). SameFirst [] l) (sym e) tt
agrees_first [] (l ∷ after) leaves (more, e) = subst (λ (ls : List Leaf). SameFirst (l ∷ after) ls) (sym e) refl
agrees_first (p ∷ passed) [] leaves e = subst (λ (ls : List Leaf). SameFirst (p ∷ (passed ++ [])) ls) (sym e) refl
agrees_first (p ∷ passed) (l ∷ after) leaves (more, e) = subst (λ (ls : List Leaf). SameFirst (p ∷ (passed ++ l ∷ after)) ls) (sym e) refl

agrees_split : (front passed after leaves : List Leaf) → Agrees (front ++ passed) after leaves → (rest : List Leaf) × (leaves ≡ front ++ rest) × Agrees passed after rest
agrees_split front passed [] leaves e = (passed, e, refl)
agrees_split front passed (l ∷ after) leaves (more, e) = (passed ++ l ∷ more, e ∙ append_assoc front passed (l ∷ more), (more, refl))

pub first_stops : (Continues : Terminal → Type 0) (leaves other : List Leaf) → SameFirst leaves other → StopsBefore Continues leaves → StopsBefore Continues other
first_stops Continues [] [] same stops = tt
first_stops Continues (l ∷ leaves) (m ∷ other) same stops = λ continues. stops (subst (λ (n : Leaf). Continues n.terminal) (sym same) continues)
first_stops Continues _ _ same stops = absurd same

-- the part stands between these leaves
module _ (Is Whole : Limits → List Leaf → Type 0) (front behind : List Leaf) (extend : (limits : Limits) (leaves : List Leaf) → Is limits leaves → Whole limits (front ++ (leaves ++ behind))) where
  around : (passed done : List Leaf) → front ++ ((passed ++ done) ++ behind) ≡ (front ++ passed) ++ (done ++ behind)
  around passed done = ap (λ l. front ++ l) (append_assoc passed done behind) ∙ sym (append_assoc front passed (done ++ behind))

  reaches_around : (limits : Limits) (passed : List Leaf) → Reaches Is limits passed → Reaches Whole limits (front ++ passed)
  reaches_around limits passed (done, is) = (done ++ behind, subst (λ (l : List Leaf). Whole limits l) (around passed done) (extend limits (passed ++ done) is))

  next_around : (limits : Limits) (passed after : List Leaf) → ReachesNext Is limits passed after → ReachesNext Whole limits (front ++ passed) after
  next_around limits passed [] none = none
  next_around limits passed (l ∷ after) reaches =
      subst (λ (ls : List Leaf). Reaches Whole limits ls) (sym (append_assoc front passed (l ∷ []))) (reaches_around limits (passed ++ l ∷ []) reaches)

  allowed_around : (cause : Cause) (passed after : List Leaf) → IsAllowed Is cause passed after → IsAllowed Whole cause (front ++ passed) after
  allowed_around Wrong passed after allowed = tt
  allowed_around TooDeep passed after allowed = next_around no_limits passed after allowed
  allowed_around TooMany passed after allowed = next_around nesting_limit passed after allowed

  -- A reading of the whole, behind the same leaves, has one of the part, where the part's reading begins
  -- with the same leaf as these.
  abbrev HasPart : (Continues WholeContinues : Terminal → Type 0) (here : List Leaf) → Type 0
  HasPart Continues WholeContinues here = (limits : Limits) (rest whole back : List Leaf) → front ++ rest ≡ whole ++ back → Whole limits whole → StopsBefore WholeContinues back → SameFirst here rest
      → (part other : List Leaf) × (rest ≡ part ++ other) × Is limits part × StopsBefore Continues other

  pub refuses_inside : (Continues WholeContinues : Terminal → Type 0) (cause : Cause) (here after : List Leaf) → HasPart Continues WholeContinues here
      → Refuses Is Continues cause here after → Refuses Whole WholeContinues cause (front ++ here) after
  refuses_inside Continues WholeContinues cause here after has r = record {
    passed = front ++ r.passed;
    split = ap (λ l. front ++ l) r.split ∙ sym (append_assoc front r.passed after);
    viable = reaches_around both_limits r.passed r.viable;
    allowed = allowed_around cause r.passed after r.allowed;
    excluded = λ leaves whole back agrees e is stops.
        let parts = agrees_split front r.passed after leaves agrees in
        let same : SameFirst here parts.0 = subst (λ (l : List Leaf). SameFirst l parts.0) (sym r.split) (agrees_first r.passed after parts.0 parts.2) in
        let inner = has (refused_within cause) parts.0 whole back (sym parts.1 ∙ e) is stops same in
        r.excluded parts.0 inner.0 inner.1 parts.2 inner.2 inner.3 inner.4;
  }

-- a smaller language refuses where it has what is viable; here only the names differ
pub refuses_first : (Is Whole : Limits → List Leaf → Type 0) (behind : List Leaf) → ((limits : Limits) (leaves : List Leaf) → Is limits leaves → Whole limits (leaves ++ behind))
    → (Continues WholeContinues : Terminal → Type 0) (cause : Cause) (here after : List Leaf)
    → ((limits : Limits) (whole back : List Leaf) → Whole limits whole → StopsBefore WholeContinues back → SameFirst here (whole ++ back)
    → (part other : List Leaf) × (whole ++ back ≡ part ++ other) × Is limits part × StopsBefore Continues other)
    → Refuses Is Continues cause here after → Refuses Whole WholeContinues cause here after
refuses_first Is Whole behind extend Continues WholeContinues cause here after has r =
    refuses_inside Is Whole [] behind extend Continues WholeContinues cause here after
    (λ limits rest whole back e is stops same.
    let parts = has limits whole back is stops (subst (λ (l : List Leaf). SameFirst here l) e same) in
    (parts.0, parts.1, e ∙ parts.2, parts.3, parts.4)) r

-- A part behind one that was read: the other has one reading.
module _ {A : Type 0} (IsFirst : A → List Leaf → Type 0) (FirstContinues : Terminal → Type 0) (once : OneReading IsFirst FirstContinues)
    (Is Whole : Limits → List Leaf → Type 0) (x : A) (front : List Leaf) (is_first : IsFirst x front)
    (extend : (limits : Limits) (leaves : List Leaf) → Is limits leaves → Whole limits (front ++ leaves)) where
  abbrev Splits : (Continues WholeContinues : Terminal → Type 0) → Type 0
  Splits Continues WholeContinues = (limits : Limits) (whole back : List Leaf) → Whole limits whole → StopsBefore WholeContinues back
      → (y : A) × (first part : List Leaf) × (whole ≡ first ++ part) × IsFirst y first × StopsBefore FirstContinues (part ++ back) × (y ≡ x → Is limits part) × StopsBefore Continues back

  pub refuses_second : (Continues WholeContinues : Terminal → Type 0) (cause : Cause) (here after : List Leaf) → StopsBefore FirstContinues here → Splits Continues WholeContinues
      → Refuses Is Continues cause here after → Refuses Whole WholeContinues cause (front ++ here) after
  refuses_second Continues WholeContinues cause here after stopped splits r =
      refuses_inside Is Whole front [] (λ limits leaves is. subst (λ (l : List Leaf). Whole limits (front ++ l)) (sym (append-nil leaves)) (extend limits leaves is)) Continues WholeContinues cause here after
      (λ limits rest whole back e is stops same.
      let s = splits limits whole back is stops in
      let one = part_at IsFirst FirstContinues x (once x) s.0 front s.1 rest (s.2 ++ back) (e ∙ ap (λ l. l ++ back) s.3 ∙ append_assoc s.1 s.2 back) is_first s.4
      (first_stops FirstContinues here rest same stopped) s.5 in
      (s.2, back, one.2, s.6 (sym one.0), s.7)) r

-- the first leaf begins nothing of the language, which is not empty
starts_first : (Begins : Terminal → Type 0) (here whole back : List Leaf) → SameFirst here (whole ++ back) → StartsWith Begins whole → StopsBefore Begins here → ⊥
starts_first Begins here [] back same starts stops = starts
starts_first Begins [] (w ∷ whole) back same starts stops = same
starts_first Begins (l ∷ here) (w ∷ whole) back same starts stops = stops (subst (λ (n : Leaf). Begins n.terminal) (sym same) starts)

pub refuses_at_once : (Is : Limits → List Leaf → Type 0) (Continues Begins : Terminal → Type 0) (some : List Leaf) → Is both_limits some
    → ((leaves : List Leaf) → Is no_limits leaves → StartsWith Begins leaves) → (here : List Leaf) → StopsBefore Begins here → Refuses Is Continues Wrong here here
refuses_at_once Is Continues Begins some is begins here stops = record {
  passed = [];
  split = refl;
  viable = (some, is);
  allowed = tt;
  excluded = λ leaves front back agrees e in_language stopped.
      starts_first Begins here front back (subst (λ (l : List Leaf). SameFirst here l) e (agrees_first [] here leaves agrees)) (begins front in_language) stops;
}

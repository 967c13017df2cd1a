-- What was passed leads from a language to what is left of it.
use Rattle.sig_parse.proofs.Common.{◌≡◌, ◌++◌, List, [], ◌∷◌, refl, sym, ap, ◌∙◌, subst, append_assoc, append-nil, append_cancel_left, append_cancel_right, Span, Terminal, Leaf, leaf, Limits, both_limits, no_limits, StopsBefore, OneReading, StartsWith, ContinuesNothing, cons_same, append_to, stops_nothing, State, Covers, IsLeaf, Cause, Agrees, Refuses, Settles, InAny}
use Rattle.sig_parse.proofs.PartRefusals.{SameFirst, agrees_first, first_stops, refuses_inside, refuses_first}

-- Behind what was passed, some of the one language is what stands in the other.
pub record Leads (Whole : Limits → List Leaf → Type 0) (WholeContinues : Terminal → Type 0) (Part : Limits → List Leaf → Type 0) (Continues : Terminal → Type 0) (before after : List Leaf) : Type 0 where
  pub front : List Leaf
  pub split : before ≡ front ++ after
  pub extend : (limits : Limits) (leaves : List Leaf) → Part limits leaves → Whole limits (front ++ leaves)
  pub left : (limits : Limits) (rest whole back : List Leaf) → front ++ rest ≡ whole ++ back → Whole limits whole → StopsBefore WholeContinues back → SameFirst after rest
      → (part : List Leaf) × (rest ≡ part ++ back) × Part limits part × StopsBefore Continues back

-- the same first leaf behind the same leaves
pub same_behind : (front after rest : List Leaf) → SameFirst after rest → SameFirst (front ++ after) (front ++ rest)
same_behind [] after rest same = same
same_behind (l ∷ front) after rest same = refl

pub agrees_behind : (front after rest : List Leaf) → SameFirst after rest → Agrees front after (front ++ rest)
agrees_behind front [] [] same = append-nil front
agrees_behind front (l ∷ after) (m ∷ rest) same = (rest, ap (λ n. front ++ n ∷ rest) (sym same))
agrees_behind front _ _ same = absurd same

pub behind_agrees : (front after leaves : List Leaf) → Agrees front after leaves → (rest : List Leaf) × (leaves ≡ front ++ rest) × SameFirst after rest
behind_agrees front [] leaves e = ([], e ∙ sym (append-nil front), tt)
behind_agrees front (l ∷ after) leaves (more, e) = (l ∷ more, e, refl)

module _ {Whole Part : Limits → List Leaf → Type 0} {WholeContinues Continues : Terminal → Type 0} {before after : List Leaf} (l : Leads Whole WholeContinues Part Continues before after) where
  -- what is refused of the rest is refused of the whole
  pub leads_refuses : {cause : Cause} {stopped : List Leaf} → Refuses Part Continues cause after stopped → Refuses Whole WholeContinues cause before stopped
  leads_refuses {cause = cause} {stopped = stopped} r =
      subst (λ (b : List Leaf). Refuses Whole WholeContinues cause b stopped) (sym l.split)
      (refuses_inside Part Whole l.front [] (λ limits leaves is. subst (λ (ls : List Leaf). Whole limits (l.front ++ ls)) (sym (append-nil leaves)) (l.extend limits leaves is))
      Continues WholeContinues cause after stopped
      (λ limits rest whole back e is stops same. let one = l.left limits rest whole back e is stops same in (one.0, back, one.1, one.2, one.3)) r)

  pub leads_on : {Rest : Limits → List Leaf → Type 0} {RestContinues : Terminal → Type 0} {behind : List Leaf} → Leads Part Continues Rest RestContinues after behind → Leads Whole WholeContinues Rest RestContinues before behind
  leads_on {Rest = Rest} {RestContinues = RestContinues} {behind = behind} m = record {
    front = l.front ++ m.front;
    split = l.split ∙ ap (λ ls. l.front ++ ls) m.split ∙ sym (append_assoc l.front m.front behind);
    extend = λ limits leaves is. subst (λ (ls : List Leaf). Whole limits ls) (sym (append_assoc l.front m.front leaves)) (l.extend limits (m.front ++ leaves) (m.extend limits leaves is));
    left = λ limits rest whole back e is stops same.
        let one = l.left limits (m.front ++ rest) whole back (sym (append_assoc l.front m.front rest) ∙ e) is stops
        (subst (λ (ls : List Leaf). SameFirst ls (m.front ++ rest)) (sym m.split) (same_behind m.front behind rest same)) in
        m.left limits rest one.0 back one.1 one.2 one.3 same;
  }

-- one language as another
pub refuses_as : (Is Whole : Limits → List Leaf → Type 0) (Continues : Terminal → Type 0) → ((limits : Limits) (leaves : List Leaf) → Is limits leaves → Whole limits leaves)
    → ((limits : Limits) (leaves : List Leaf) → Whole limits leaves → Is limits leaves) → {cause : Cause} {here after : List Leaf} → Refuses Is Continues cause here after → Refuses Whole Continues cause here after
refuses_as Is Whole Continues to from {cause} {here} {after} r =
    refuses_first Is Whole [] (λ limits leaves is. subst (λ (ls : List Leaf). Whole limits ls) (sym (append-nil leaves)) (to limits leaves is)) Continues Continues cause here after
    (λ limits whole back is stops same. (whole, back, refl, from limits whole is, stops)) r

-- what has one reading is settled where what is next does not continue it
pub settles_once : {A : Type 0} (Is : Limits → A → List Leaf → Type 0) (Continues : Terminal → Type 0) → OneReading (Is no_limits) Continues → (x : A) (passed after : List Leaf) → Is no_limits x passed → StopsBefore Continues after
    → (leaves front back : List Leaf) → Agrees passed after leaves → leaves ≡ front ++ back → InAny Is no_limits front → StopsBefore Continues back → front ≡ passed
settles_once Is Continues once x passed after is_x stopped leaves front back agrees e is stops =
    let parts = behind_agrees passed after leaves agrees in
    sym (once x is.0 passed front parts.0 back (sym parts.1 ∙ e) is_x is.1 (first_stops Continues after parts.0 parts.2 stopped) stops).1

-- Something, and behind it what is of another language.
abbrev pub Then : {A : Type 0} → (Limits → A → List Leaf → Type 0) → (Limits → List Leaf → Type 0) → Limits → List Leaf → Type 0
Then {A = A} First Rest limits leaves = (x : A) × (front back : List Leaf) × (leaves ≡ front ++ back) × First limits x front × Rest limits back

-- the other does not continue the first
abbrev pub Apart : (FirstContinues : Terminal → Type 0) (Rest : Limits → List Leaf → Type 0) (Continues : Terminal → Type 0) → Type 0
Apart FirstContinues Rest Continues = (limits : Limits) (leaves back : List Leaf) → Rest limits leaves → StopsBefore Continues back → StopsBefore FirstContinues (leaves ++ back)

pub apart_nothing : (Rest : Limits → List Leaf → Type 0) (Continues : Terminal → Type 0) → Apart ContinuesNothing Rest Continues
apart_nothing Rest Continues limits leaves back is stops = stops_nothing (leaves ++ back)

module _ {A : Type 0} (First : Limits → A → List Leaf → Type 0) (FirstContinues : Terminal → Type 0) (Rest : Limits → List Leaf → Type 0) (Continues : Terminal → Type 0) (apart : Apart FirstContinues Rest Continues) where
  -- the first is refused
  pub then_first : (some : List Leaf) → ((limits : Limits) → Rest limits some) → {cause : Cause} {here after : List Leaf} → Refuses (InAny First) FirstContinues cause here after → Refuses (Then First Rest) Continues cause here after
  then_first some is_some {cause} {here} {after} r =
      refuses_first (InAny First) (Then First Rest) some (λ limits leaves is. (is.0, leaves, some, refl, is.1, is_some limits)) FirstContinues Continues cause here after
      (λ limits whole back is stops same. (is.1, is.2 ++ back, append_to whole is.1 is.2 back is.3, (is.0, is.4), apart limits is.2 back is.5 stops)) r

  -- the first was read
  module _ (within : (limits : Limits) (x : A) (leaves : List Leaf) → First both_limits x leaves → First limits x leaves)
      (free : (limits : Limits) (x : A) (leaves : List Leaf) → First limits x leaves → First no_limits x leaves) where
    then_leads : (x : A) (front after : List Leaf) → First both_limits x front
        → ((leaves other back : List Leaf) → Agrees front after leaves → leaves ≡ other ++ back → InAny First no_limits other → StopsBefore FirstContinues back → other ≡ front)
        → (before : List Leaf) → before ≡ front ++ after → Leads (Then First Rest) Continues Rest Continues before after
    then_leads x front after is_x alone before split = record {
      front = front;
      split = split;
      extend = λ limits leaves is. (x, front, leaves, refl, within limits x front is_x, is);
      left = λ limits rest whole back e is stops same.
          let begin : front ++ rest ≡ is.1 ++ (is.2 ++ back) = e ∙ append_to whole is.1 is.2 back is.3 in
          let found : is.1 ≡ front = alone (front ++ rest) is.1 (is.2 ++ back) (agrees_behind front after rest same) begin (is.0, free limits is.0 is.1 is.4) (apart limits is.2 back is.5 stops) in
          (is.2, append_cancel_left front rest (is.2 ++ back) (begin ∙ ap (λ ls. ls ++ (is.2 ++ back)) found), is.5, stops);
    }

    pub leads_settled : (x : A) {s t : State} → Covers (First both_limits x) s t → Settles (InAny First) FirstContinues s.leaves t.leaves → Leads (Then First Rest) Continues Rest Continues s.leaves t.leaves
    leads_settled x {s} {t} c k =
        let same : k.passed ≡ c.front = append_cancel_right k.passed c.front t.leaves (sym k.split ∙ c.split) in
        then_leads x c.front t.leaves c.is
        (subst (λ (ls : List Leaf). (leaves other back : List Leaf) → Agrees ls t.leaves leaves → leaves ≡ other ++ back → InAny First no_limits other → StopsBefore FirstContinues back → other ≡ ls) same k.alone)
        s.leaves c.split

    pub leads_stopped : OneReading (First no_limits) FirstContinues → (x : A) {s t : State} → Covers (First both_limits x) s t → StopsBefore FirstContinues t.leaves → Leads (Then First Rest) Continues Rest Continues s.leaves t.leaves
    leads_stopped once x {s} {t} c stops = then_leads x c.front t.leaves c.is (settles_once First FirstContinues once x c.front t.leaves (free both_limits x c.front c.is) stops) s.leaves c.split

-- the same of what has one reading whatever is behind it
module _ {A : Type 0} (First : Limits → A → List Leaf → Type 0) (Rest : Limits → List Leaf → Type 0) (Continues : Terminal → Type 0) (once : OneReading (First no_limits) ContinuesNothing)
    (within : (limits : Limits) (x : A) (leaves : List Leaf) → First both_limits x leaves → First limits x leaves)
    (free : (limits : Limits) (x : A) (leaves : List Leaf) → First limits x leaves → First no_limits x leaves) where
  pub leads_alone : (x : A) {s t : State} → Covers (First both_limits x) s t → Leads (Then First Rest) Continues Rest Continues s.leaves t.leaves
  leads_alone x {s} {t} c = leads_stopped First ContinuesNothing Rest Continues (apart_nothing Rest Continues) within free once x c (stops_nothing t.leaves)

-- what has one reading, as settled
pub settled_once : {A : Type 0} (Is : Limits → A → List Leaf → Type 0) (Continues : Terminal → Type 0) → OneReading (Is no_limits) Continues → ((limits : Limits) (x : A) (leaves : List Leaf) → Is limits x leaves → Is no_limits x leaves)
    → (x : A) {s t : State} → Covers (Is both_limits x) s t → StopsBefore Continues t.leaves → Settles (InAny Is) Continues s.leaves t.leaves
settled_once Is Continues once free x {s} {t} c stops = record { passed = c.front; split = c.split; alone = settles_once Is Continues once x c.front t.leaves (free both_limits x c.front c.is) stops }

-- Settled parts one behind another.
pub settles_on : {Whole Part : Limits → List Leaf → Type 0} {WholeContinues Continues : Terminal → Type 0} {before between after : List Leaf}
    → Leads Whole WholeContinues Part Continues before between → Settles Part Continues between after → Settles Whole WholeContinues before after
settles_on {Whole} {Part} {WholeContinues} {Continues} {before} {between} {after} l k = record {
  passed = l.front ++ k.passed;
  split = l.split ∙ ap (λ ls. l.front ++ ls) k.split ∙ sym (append_assoc l.front k.passed after);
  alone = λ leaves front back agrees e is stops.
      let parts = behind_agrees (l.front ++ k.passed) after leaves agrees in
      let rest = k.passed ++ parts.0 in
      let begin : l.front ++ rest ≡ front ++ back = sym (append_assoc l.front k.passed parts.0) ∙ sym parts.1 ∙ e in
      let one = l.left no_limits rest front back begin is stops (subst (λ (ls : List Leaf). SameFirst ls rest) (sym k.split) (same_behind k.passed after parts.0 parts.2)) in
      let inner : one.0 ≡ k.passed = k.alone rest one.0 back (agrees_behind k.passed after parts.0 parts.2) one.1 one.2 one.3 in
      append_cancel_right front (l.front ++ k.passed) back (sym begin ∙ ap (λ ls. l.front ++ ls) (one.1 ∙ ap (λ ls. ls ++ back) inner) ∙ sym (append_assoc l.front k.passed back));
}

-- Leaves that begin as these do, and are of one language, are of another.
module _ (Is Whole : Limits → List Leaf → Type 0) (Continues WholeContinues : Terminal → Type 0) (to : (limits : Limits) (leaves : List Leaf) → Is limits leaves → Whole limits leaves)
    (stopping : (back : List Leaf) → StopsBefore WholeContinues back → StopsBefore Continues back) (here : List Leaf)
    (from : (limits : Limits) (whole back : List Leaf) → Whole limits whole → StopsBefore WholeContinues back → SameFirst here (whole ++ back) → Is limits whole) where
  pub refuses_where : {cause : Cause} {after : List Leaf} → Refuses Is Continues cause here after → Refuses Whole WholeContinues cause here after
  refuses_where {cause} {after} r =
      refuses_first Is Whole [] (λ limits leaves is. subst (λ (ls : List Leaf). Whole limits ls) (sym (append-nil leaves)) (to limits leaves is)) Continues WholeContinues cause here after
      (λ limits whole back is stops same. (whole, back, refl, from limits whole back is stops same, stopping back stops)) r

  pub leads_where : {Part : Limits → List Leaf → Type 0} {PartContinues : Terminal → Type 0} {after : List Leaf} → Leads Is Continues Part PartContinues here after → Leads Whole WholeContinues Part PartContinues here after
  leads_where {after = after} l = record {
    front = l.front;
    split = l.split;
    extend = λ limits leaves is. to limits (l.front ++ leaves) (l.extend limits leaves is);
    left = λ limits rest whole back e is stops same.
        let begin : SameFirst here (whole ++ back) = subst (λ (ls : List Leaf). SameFirst ls (whole ++ back)) (sym l.split) (subst (λ (ls : List Leaf). SameFirst (l.front ++ after) ls) e (same_behind l.front after rest same)) in
        l.left limits rest whole back e (from limits whole back is stops begin) (stopping back stops) same;
  }

  pub settles_where : {after : List Leaf} → Settles Is Continues here after → Settles Whole WholeContinues here after
  settles_where {after = after} k = record {
    passed = k.passed;
    split = k.split;
    alone = λ leaves front back agrees e is stops.
        let begin : SameFirst here (front ++ back) = subst (λ (ls : List Leaf). SameFirst ls (front ++ back)) (sym k.split) (subst (λ (ls : List Leaf). SameFirst (k.passed ++ after) ls) e (agrees_first k.passed after leaves agrees)) in
        k.alone leaves front back agrees e (from no_limits front back is stops begin) (stopping back stops);
  }

-- one language as another
pub settles_as : (Is Whole : Limits → List Leaf → Type 0) (Continues : Terminal → Type 0) → ((limits : Limits) (leaves : List Leaf) → Is limits leaves → Whole limits leaves)
    → ((limits : Limits) (leaves : List Leaf) → Whole limits leaves → Is limits leaves) → {here after : List Leaf} → Settles Is Continues here after → Settles Whole Continues here after
settles_as Is Whole Continues to from {here} k = settles_where Is Whole Continues Continues to (λ back stops. stops) here (λ limits whole back is stops same. from limits whole is) k

-- the first leaf is in the set and is not
pub starts_or_stops : (Begins : Terminal → Type 0) (leaves other : List Leaf) → SameFirst leaves other → StopsBefore Begins leaves → StartsWith Begins other → ⊥
starts_or_stops Begins [] [] same stops starts = starts
starts_or_stops Begins (l ∷ leaves) (m ∷ other) same stops starts = stops (subst (λ (n : Leaf). Begins n.terminal) (sym same) starts)
starts_or_stops Begins _ _ same stops starts = same

pub starts_same : (Begins : Terminal → Type 0) (leaves other : List Leaf) → SameFirst leaves other → StartsWith Begins leaves → StartsWith Begins other
starts_same Begins [] other same starts = absurd starts
starts_same Begins (l ∷ leaves) [] same starts = same
starts_same Begins (l ∷ leaves) (m ∷ other) same starts = subst (λ (n : Leaf). Begins n.terminal) same starts

-- one leaf
pub leaf_once : (t : Terminal) → OneReading (IsLeaf t) ContinuesNothing
leaf_once t x y front other_front back other_back e is other_is stops other_stops =
    let heads = cons_same (leaf t x) (leaf t y) back other_back (ap (λ l. l ++ back) (sym is) ∙ e ∙ ap (λ l. l ++ other_back) other_is) in
    (ap (λ l. l.at) heads.0, is ∙ ap (λ l. l ∷ []) heads.0 ∙ sym other_is)

abbrev pub Leaf_of : Terminal → Limits → Span → List Leaf → Type 0
Leaf_of t limits at leaves = IsLeaf t at leaves

pub leads_leaf : (t : Terminal) (Rest : Limits → List Leaf → Type 0) (Continues : Terminal → Type 0) (at : Span) {s u : State} → Covers (IsLeaf t at) s u → Leads (Then (Leaf_of t) Rest) Continues Rest Continues s.leaves u.leaves
leads_leaf t Rest Continues at c = leads_alone (Leaf_of t) Rest Continues (leaf_once t) (λ limits x leaves is. is) (λ limits x leaves is. is) at c

-- nothing was passed
pub leads_nowhere : (Is : Limits → List Leaf → Type 0) (Continues : Terminal → Type 0) (here : List Leaf) → Leads Is Continues Is Continues here here
leads_nowhere Is Continues here = record {
  front = [];
  split = refl;
  extend = λ limits leaves is. is;
  left = λ limits rest whole back e is stops same. (whole, e, is, stops);
}

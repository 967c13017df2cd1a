-- What the parts of the parser refuse: constants and inits.
use Rattle.sig_parse.proofs.Common.{◌≡◌, ◌++◌, ℕ, List, [], ◌∷◌, true, false, Option, None, Some, codes, inl, inr, refl, sym, ap, ◌∙◌, subst, pos, neg_ℤ, append-nil, Span, Name, Constant, Int, BoolConstant, Param, Terminal, Leaf, leaf, name, number, word, mark, name_leaf, no_limits, IsConstant, IsInit, IsOptionalInit, StopsBefore, StartsWith, BeginsConstant, BeginsName, ContinuesNothing, ContinuesInit, no_place, different, cons_same, constant_begins, stops_nothing, init_once, Cause, Wrong, Agrees, Refuses, InLeaf, InNumber, InConstant, InInit, InOptionalInit}
use Rattle.sig_parse.proofs.PassedLanguages.{behind_agrees}
use Rattle.sig_parse.proofs.PartRefusals.{SameFirst, refuses_inside, refuses_first, refuses_at_once}

-- some name
abbrev pub some_name : Name
some_name = record { text = codes "x"; at = no_place }

abbrev pub some_leaf : Leaf
some_leaf = name_leaf some_name

leaf_starts : (t : Terminal) (leaves : List Leaf) → InLeaf t no_limits leaves → StartsWith (λ s. s ≡ t) leaves
leaf_starts t leaves (at, e) = subst (λ (l : List Leaf). StartsWith (λ s. s ≡ t) l) (sym e) refl

pub leaf_refused : (t : Terminal) (here : List Leaf) → StopsBefore (λ s. s ≡ t) here → Refuses (InLeaf t) ContinuesNothing Wrong here here
leaf_refused t here stops = refuses_at_once (InLeaf t) ContinuesNothing (λ s. s ≡ t) (leaf t no_place ∷ []) (no_place, refl) (leaf_starts t) here stops

number_starts : (leaves : List Leaf) → InNumber no_limits leaves → StartsWith (λ s. (n : ℕ) × (s ≡ number n)) leaves
number_starts leaves (n, (at, e)) = subst (λ (l : List Leaf). StartsWith (λ s. (n : ℕ) × (s ≡ number n)) l) (sym e) (n, refl)

pub number_refused : (here : List Leaf) → StopsBefore (λ s. (n : ℕ) × (s ≡ number n)) here → Refuses InNumber ContinuesNothing Wrong here here
number_refused here stops = refuses_at_once InNumber ContinuesNothing (λ s. (n : ℕ) × (s ≡ number n)) (leaf (number 0) no_place ∷ []) (0, (no_place, refl)) number_starts here stops

-- a constant
pub constant_refused : (here : List Leaf) → StopsBefore BeginsConstant here → Refuses InConstant ContinuesNothing Wrong here here
constant_refused here stops =
    refuses_at_once InConstant ContinuesNothing BeginsConstant (some_leaf ∷ []) (Param some_name, refl) (λ leaves is. constant_begins is.0 leaves is.1) here stops

negative_part : (at : Span) (c : Constant) (rest whole back : List Leaf) → leaf (mark (codes "-")) at ∷ rest ≡ whole ++ back → IsConstant c whole
    → (part other : List Leaf) × (rest ≡ part ++ other) × InNumber no_limits part
negative_part at (Int value place) rest whole back e (inl (n, v, f)) =
    let heads = cons_same _ _ _ _ (e ∙ ap (λ l. l ++ back) f) in
    let terminals : mark (codes "-") ≡ number n = ap (λ l. l.terminal) heads.0 in
    absurd (mark_no_number (codes "-") n terminals)
  where
    mark_no_number : (text : List ℕ) (n : ℕ) → mark text ≡ number n → ⊥
    mark_no_number text n e = cc
negative_part at (Int value place) rest whole back e (inr (n, digits, v, f)) =
    let heads = cons_same _ _ _ _ (e ∙ ap (λ l. l ++ back) f) in
    (leaf (number n) digits ∷ [], back, heads.1, (n, (digits, refl)))
negative_part at (BoolConstant true place) rest whole back e f =
    let heads = cons_same _ _ _ _ (e ∙ ap (λ l. l ++ back) f) in
    let terminals : mark (codes "-") ≡ word (codes "true") = ap (λ l. l.terminal) heads.0 in
    absurd (different (mark (codes "-")) (word (codes "true")) refl refl terminals)
negative_part at (BoolConstant false place) rest whole back e f =
    let heads = cons_same _ _ _ _ (e ∙ ap (λ l. l ++ back) f) in
    let terminals : mark (codes "-") ≡ word (codes "false") = ap (λ l. l.terminal) heads.0 in
    absurd (different (mark (codes "-")) (word (codes "false")) refl refl terminals)
negative_part at (Param n) rest whole back e f =
    let heads = cons_same _ _ _ _ (e ∙ ap (λ l. l ++ back) f) in
    let terminals : mark (codes "-") ≡ name n.text = ap (λ l. l.terminal) heads.0 in
    absurd (mark_no_name (codes "-") n.text terminals)
  where
    mark_no_name : (text other : List ℕ) → mark text ≡ name other → ⊥
    mark_no_name text other e = cc

-- the number behind a "-"
pub negative_refused : (at : Span) (cause : Cause) (here after : List Leaf) → Refuses InNumber ContinuesNothing cause here after
    → Refuses InConstant ContinuesNothing cause (leaf (mark (codes "-")) at ∷ here) after
negative_refused at cause here after r =
    refuses_inside InNumber InConstant (leaf (mark (codes "-")) at ∷ []) []
    (λ limits leaves is. (Int (neg_ℤ (pos is.0)) at, inr (is.0, is.1.0, refl, ap (λ l. leaf (mark (codes "-")) at ∷ (l ++ [])) is.1.1)))
    ContinuesNothing ContinuesNothing cause here after
    (λ limits rest whole back e is stops same.
    let parts = negative_part at is.0 rest whole back e is.1 in
    (parts.0, parts.1, parts.2, parts.3, stops_nothing parts.1)) r

-- "init" and a constant
init_part : (at : Span) (c : Constant) (rest whole back : List Leaf) → leaf (word (codes "init")) at ∷ rest ≡ whole ++ back → IsInit c whole
    → (part : List Leaf) × (rest ≡ part ++ back) × IsConstant c part
init_part at c rest whole back e (place, part, f, is) =
    let heads = cons_same _ _ _ _ (e ∙ ap (λ l. l ++ back) f) in
    (part, heads.1, is)

pub init_sign : (cause : Cause) (here after : List Leaf) → Refuses (InLeaf (word (codes "init"))) ContinuesNothing cause here after → Refuses InInit ContinuesNothing cause here after
init_sign cause here after r =
    refuses_first (InLeaf (word (codes "init"))) InInit (some_leaf ∷ [])
    (λ limits leaves is. (Param some_name, (is.0, some_leaf ∷ [], ap (λ l. l ++ some_leaf ∷ []) is.1, refl)))
    ContinuesNothing ContinuesNothing cause here after
    (λ limits whole back is stops same. (leaf (word (codes "init")) is.1.0 ∷ [], is.1.1 ++ back, ap (λ l. l ++ back) is.1.2, (is.1.0, refl), stops_nothing (is.1.1 ++ back))) r

pub init_refused : (at : Span) (cause : Cause) (here after : List Leaf) → Refuses InConstant ContinuesNothing cause here after
    → Refuses InInit ContinuesNothing cause (leaf (word (codes "init")) at ∷ here) after
init_refused at cause here after r =
    refuses_inside InConstant InInit (leaf (word (codes "init")) at ∷ []) []
    (λ limits leaves is. (is.0, (at, leaves, ap (λ l. leaf (word (codes "init")) at ∷ l) (append-nil leaves), is.1)))
    ContinuesNothing ContinuesNothing cause here after
    (λ limits rest whole back e is stops same.
    let parts = init_part at is.0 rest whole back e is.1 in
    (parts.0, back, parts.1, (is.0, parts.2), stops_nothing back)) r

-- an init that may be missing, where "init" is next
optional_part : (at : Span) (more : List Leaf) (c : Option Constant) (whole back : List Leaf) → IsOptionalInit c whole → StopsBefore ContinuesInit back
    → SameFirst (leaf (word (codes "init")) at ∷ more) (whole ++ back) → (constant : Constant) × IsInit constant whole
optional_part at more None whole back e stops same = absurd (none_next back (subst (λ (l : List Leaf). SameFirst (leaf (word (codes "init")) at ∷ more) (l ++ back)) e same) stops)
  where
    none_next : (back : List Leaf) → SameFirst (leaf (word (codes "init")) at ∷ more) back → StopsBefore ContinuesInit back → ⊥
    none_next [] same stops = same
    none_next (l ∷ back) same stops = stops (ap (λ l. l.terminal) (sym same))
optional_part at more (Some c) whole back is stops same = (c, is)

pub optional_init_refused : (at : Span) (more : List Leaf) (cause : Cause) (after : List Leaf) → Refuses InInit ContinuesNothing cause (leaf (word (codes "init")) at ∷ more) after
    → Refuses InOptionalInit ContinuesInit cause (leaf (word (codes "init")) at ∷ more) after
optional_init_refused at more cause after r =
    refuses_first InInit InOptionalInit [] (λ limits leaves is. (Some is.0, subst (λ (l : List Leaf). IsInit is.0 l) (sym (append-nil leaves)) is.1))
    ContinuesNothing ContinuesInit cause (leaf (word (codes "init")) at ∷ more) after
    (λ limits whole back is stops same. (whole, back, refl, optional_part at more is.0 whole back is.1 stops same, stops_nothing back)) r

pub optional_refused : (cause : Cause) (here after : List Leaf) → StartsWith ContinuesInit here → Refuses InInit ContinuesNothing cause here after → Refuses InOptionalInit ContinuesInit cause here after
optional_refused cause [] after starts r = absurd starts
optional_refused cause (l ∷ more) after starts r = subst (λ (m : Leaf). Refuses InOptionalInit ContinuesInit cause (m ∷ more) after) whole
    (optional_init_refused l.at more cause after (subst (λ (m : Leaf). Refuses InInit ContinuesNothing cause (m ∷ more) after) (sym whole) r))
  where
    whole : leaf (word (codes "init")) l.at ≡ l
    whole = ap (λ t. leaf t l.at) (sym starts)

-- what begins no constant
pub no_constant : (here : List Leaf) → StopsBefore (λ t. (n : ℕ) × (t ≡ number n)) here → StopsBefore (λ t. t ≡ word (codes "true")) here → StopsBefore (λ t. t ≡ word (codes "false")) here
    → StopsBefore (λ t. t ≡ mark (codes "-")) here → StopsBefore BeginsName here → StopsBefore BeginsConstant here
no_constant [] no_number no_true no_false no_minus no_name = tt
no_constant (l ∷ here) no_number no_true no_false no_minus no_name = go where
  go : BeginsConstant l.terminal → ⊥
  go (inl (inl minus)) = no_minus minus
  go (inl (inr digits)) = no_number digits
  go (inr (inl (true, e))) = no_true e
  go (inr (inl (false, e))) = no_false e
  go (inr (inr is_name)) = no_name is_name

-- an optional init that was read
pub init_settles : (c : Constant) (passed after : List Leaf) → IsInit c passed → (leaves front back : List Leaf) → Agrees passed after leaves → leaves ≡ front ++ back
    → InOptionalInit no_limits front → StopsBefore ContinuesInit back → front ≡ passed
init_settles c passed after is leaves front back agrees e is_front stops =
    let parts = behind_agrees passed after leaves agrees in
    let first : SameFirst (leaf (word (codes "init")) is.0 ∷ (is.1 ++ parts.0)) (front ++ back) = subst (λ (l : List Leaf). SameFirst (leaf (word (codes "init")) is.0 ∷ (is.1 ++ parts.0)) l)
    (ap (λ l. l ++ parts.0) (sym is.2) ∙ sym parts.1 ∙ e) refl in
    let other = optional_part is.0 (is.1 ++ parts.0) is_front.0 front back is_front.1 stops first in
    sym (init_once c other.0 passed front parts.0 back (sym parts.1 ∙ e) is other.1 (stops_nothing parts.0) (stops_nothing back)).1

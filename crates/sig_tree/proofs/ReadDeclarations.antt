-- One reading of declarations, interfaces and pragmas.
use Rattle.sig_tree.proofs.Common.{◌≡◌, ℕ, ◌++◌, List, [], ◌∷◌, refl, sym, ap, ◌∙◌, subst, codes, inl, inr, ◌⊎◌, Span, Kind, Integer, Boolean, Event, Item, Declared, Terminal, Leaf, leaf, name, word, label, mark, name_leaf, kind_word, Between, Each, Further, Separated, IsName, IsPlainItem, IsItem, IsGroup, IsParam, AreGroups, AreParams, IsInterface, IsPlacement, ArePragmas, IsLocalGroup, StartsWith, BeginsGroup, BeginsPlacement, StopsBefore, OneReading, ContinuesNothing, ContinuesOptional, ContinuesInit, ContinuesList, ContinuesEach, ContinuesParam, ContinuesGroup, ContinuesGroups, ContinuesPlacements}
use Rattle.sig_tree.proofs.ListsThatStop.{stops_smaller}
use Rattle.sig_tree.proofs.Operators.{different}
use Rattle.sig_tree.proofs.ReadExpressions.{optional_init_once}
use Rattle.sig_tree.proofs.FirstLeaves.{group_begins, placement_begins}
use Rattle.sig_tree.proofs.CombinedReadings.{cons_same, append_to, starts_stops, part_at, between_once, further_stops, separated_once, each_once}
use Rattle.sig_tree.proofs.ReadEquations.{name_same, name_once, names_once, optional_between}

-- in a larger set too
pub once_larger : {A : Type 0} (Is : A → List Leaf → Type 0) (Small Large : Terminal → Type 0) → ((t : Terminal) → Small t → Large t) → OneReading Is Small → OneReading Is Large
once_larger Is Small Large within once x y front other_front back other_back e is other_is stops other_stops =
    once x y front other_front back other_back e is other_is (stops_smaller Large Small within back stops) (stops_smaller Large Small within other_back other_stops)

-- NAME, of what has no init
pub plain_item_once : OneReading IsPlainItem ContinuesNothing
plain_item_once x y front other_front back other_back e (none, is) (other_none, other_is) stops other_stops =
    let part = name_once x.name y.name front other_front back other_back e is other_is stops other_stops in
    let inits : x.init ≡ y.init = none ∙ sym other_none in
    ((λ i. record { name = part.0 i; init = inits i }), part.1)

-- NAME [ "init" constant ]
pub item_once : OneReading IsItem ContinuesInit
item_once x y front other_front back other_back e (rest, f, is) (other_rest, g, other_is) stops other_stops =
    let begin : name_leaf x.name ∷ (rest ++ back) ≡ name_leaf y.name ∷ (other_rest ++ other_back) = ap (λ l. l ++ back) (sym f) ∙ e ∙ ap (λ l. l ++ other_back) g in
    let heads = cons_same _ _ _ _ begin in
    let names : x.name ≡ y.name = name_same x.name y.name heads.0 in
    let last = optional_init_once x.init y.init rest other_rest back other_back heads.1 is other_is stops other_stops in
    let whole : front ≡ other_front = cc (f, g, heads.0, last.1) in
    ((λ i. record { name = names i; init = last.0 i }), whole)

kind_same : (k j : Kind) → kind_word k ≡ kind_word j → k ≡ j
kind_same Integer Integer e = refl
kind_same Integer Boolean e = absurd (different (word (codes "integer")) (word (codes "boolean")) refl refl e)
kind_same Integer Event e = absurd (different (word (codes "integer")) (word (codes "event")) refl refl e)
kind_same Boolean Integer e = absurd (different (word (codes "boolean")) (word (codes "integer")) refl refl e)
kind_same Boolean Boolean e = refl
kind_same Boolean Event e = absurd (different (word (codes "boolean")) (word (codes "event")) refl refl e)
kind_same Event Integer e = absurd (different (word (codes "event")) (word (codes "integer")) refl refl e)
kind_same Event Boolean e = absurd (different (word (codes "event")) (word (codes "boolean")) refl refl e)
kind_same Event Event e = refl

-- kind item { "," item }
module _ (Is : Item → List Leaf → Type 0) (Continues : Terminal → Type 0) (once : OneReading Is Continues) (apart : Continues (mark (codes ",")) → ⊥) where
  group_once : OneReading (IsGroup Is) (ContinuesList (mark (codes ",")) Continues)
  group_once x y front other_front back other_back e (at, rest, f, are) (other_at, other_rest, g, other_are) stops other_stops =
      let begin : leaf (kind_word x.kind) at ∷ (rest ++ back) ≡ leaf (kind_word y.kind) other_at ∷ (other_rest ++ other_back) =
      ap (λ l. l ++ back) (sym f) ∙ e ∙ ap (λ l. l ++ other_back) g in
      let heads = cons_same _ _ _ _ begin in
      let kinds : x.kind ≡ y.kind = kind_same x.kind y.kind (ap (λ l. l.terminal) heads.0) in
      let last = separated_once Is Continues once (mark (codes ",")) apart x.items y.items rest other_rest back other_back heads.1 are other_are stops other_stops in
      let whole : front ≡ other_front = cc (f, g, heads.0, last.1) in
      ((λ i. record { kind = kinds i; items = last.0 i }), whole)

comma_init : ContinuesInit (mark (codes ",")) → ⊥
comma_init e = cc

pub plain_group_once : OneReading (IsGroup IsPlainItem) ContinuesParam
plain_group_once = group_once IsPlainItem ContinuesNothing plain_item_once (λ none. none)

pub item_group_once : OneReading (IsGroup IsItem) ContinuesGroup
item_group_once = group_once IsItem ContinuesInit item_once comma_init

pub param_once : OneReading IsParam ContinuesParam
param_once x y front other_front back other_back e (kind, is) (other_kind, other_is) stops other_stops =
    plain_group_once x y front other_front back other_back e is other_is stops other_stops

-- [ X { ";" X } [ ";" ] ]
module _ (Is : Declared → List Leaf → Type 0) (Continues : Terminal → Type 0) (once : OneReading Is Continues) (apart : Continues (mark (codes ";")) → ⊥)
    (begins : (x : Declared) (leaves : List Leaf) → Is x leaves → StartsWith BeginsGroup leaves) where
  -- [ ";" ]
  abbrev MayEnd : List Leaf → Type 0
  MayEnd leaves = (leaves ≡ []) ⊎ ((at : Span) × (leaves ≡ leaf (mark (codes ";")) at ∷ []))

  end_stops : (tail back : List Leaf) → MayEnd tail → StopsBefore Continues back → StopsBefore Continues (tail ++ back)
  end_stops tail back (inl e) stops = subst (λ (l : List Leaf). StopsBefore Continues (l ++ back)) (sym e) stops
  end_stops tail back (inr (at, e)) stops = subst (λ (l : List Leaf). StopsBefore Continues (l ++ back)) (sym e) apart

  inner_stops : (back : List Leaf) → StopsBefore (ContinuesGroups Continues) back → StopsBefore Continues back
  inner_stops back stops = stops_smaller (ContinuesGroups Continues) Continues (λ t continues. inr (inr continues)) back stops

  no_semicolon : (back : List Leaf) (at : Span) (rest : List Leaf) → back ≡ leaf (mark (codes ";")) at ∷ rest → StopsBefore (ContinuesGroups Continues) back → ⊥
  no_semicolon back at rest e stops = (subst (λ (l : List Leaf). StopsBefore (ContinuesGroups Continues) l) e stops) (inr (inl refl))

  ends_same : (tail other_tail back other_back : List Leaf) → tail ++ back ≡ other_tail ++ other_back → MayEnd tail → MayEnd other_tail
      → StopsBefore (ContinuesGroups Continues) back → StopsBefore (ContinuesGroups Continues) other_back → tail ≡ other_tail
  ends_same tail other_tail back other_back e (inl f) (inl g) stops other_stops = f ∙ sym g
  ends_same tail other_tail back other_back e (inl f) (inr (at, g)) stops other_stops =
      absurd (no_semicolon back at other_back (ap (λ l. l ++ back) (sym f) ∙ e ∙ ap (λ l. l ++ other_back) g) stops)
  ends_same tail other_tail back other_back e (inr (at, f)) (inl g) stops other_stops =
      absurd (no_semicolon other_back at back (ap (λ l. l ++ other_back) (sym g) ∙ sym e ∙ ap (λ l. l ++ back) f) other_stops)
  ends_same tail other_tail back other_back e (inr (at, f)) (inr (other_at, g)) stops other_stops =
      let heads = cons_same (leaf (mark (codes ";")) at) (leaf (mark (codes ";")) other_at) back other_back (ap (λ l. l ++ back) (sym f) ∙ e ∙ ap (λ l. l ++ other_back) g) in
      f ∙ ap (λ l. l ∷ []) heads.0 ∙ sym g

  -- what follows the last group is no further one
  last_group : (y : Declared) (ys : List Declared) (tail further back more leaves : List Leaf) → MayEnd tail → tail ++ back ≡ further ++ more → Further Is (mark (codes ";")) (y ∷ ys) further
      → StopsBefore (ContinuesGroups Continues) back → ⊥
  last_group y ys tail further back more leaves (inl e) same (at, first, rest, f, is, are) stops =
      no_semicolon back at ((first ++ rest) ++ more) (ap (λ l. l ++ back) (sym e) ∙ same ∙ ap (λ l. l ++ more) f) stops
  last_group y ys tail further back more leaves (inr (ended, e)) same (at, first, rest, f, is, are) stops =
      let heads = cons_same (leaf (mark (codes ";")) ended) (leaf (mark (codes ";")) at) back (first ++ (rest ++ more))
      (ap (λ l. l ++ back) (sym e) ∙ same ∙ append_to further (leaf (mark (codes ";")) at ∷ first) rest more f) in
      starts_stops BeginsGroup (ContinuesGroups Continues) first (rest ++ more) (λ t starts. inl starts) (begins y first is)
      (subst (λ (l : List Leaf). StopsBefore (ContinuesGroups Continues) l) heads.1 stops)

  further_groups : (xs ys : List Declared) (front other_front tail other_tail back other_back : List Leaf) → front ++ (tail ++ back) ≡ other_front ++ (other_tail ++ other_back)
      → Further Is (mark (codes ";")) xs front → Further Is (mark (codes ";")) ys other_front → MayEnd tail → MayEnd other_tail
      → StopsBefore (ContinuesGroups Continues) back → StopsBefore (ContinuesGroups Continues) other_back → (xs ≡ ys) × (front ++ tail ≡ other_front ++ other_tail)
  further_groups [] [] front other_front tail other_tail back other_back e are other_are ends other_ends stops other_stops =
      let tails : tail ≡ other_tail = ends_same tail other_tail back other_back (ap (λ l. l ++ (tail ++ back)) (sym are) ∙ e ∙ ap (λ l. l ++ (other_tail ++ other_back)) other_are) ends other_ends stops other_stops in
      let whole : front ++ tail ≡ other_front ++ other_tail = cc (are, other_are, tails) in
      (refl, whole)
  further_groups [] (y ∷ ys) front other_front tail other_tail back other_back e are other_are ends other_ends stops other_stops =
      absurd (last_group y ys tail other_front back (other_tail ++ other_back) back ends (ap (λ l. l ++ (tail ++ back)) (sym are) ∙ e) other_are stops)
  further_groups (x ∷ xs) [] front other_front tail other_tail back other_back e are other_are ends other_ends stops other_stops =
      absurd (last_group x xs other_tail front other_back (tail ++ back) back other_ends (ap (λ l. l ++ (other_tail ++ other_back)) (sym other_are) ∙ sym e) are other_stops)
  further_groups (x ∷ xs) (y ∷ ys) front other_front tail other_tail back other_back e (at, first, rest, f, is, are) (other_at, other_first, other_rest, g, other_is, other_are) ends other_ends stops other_stops =
      let sign = leaf (mark (codes ";")) at in
      let other_sign = leaf (mark (codes ";")) other_at in
      let begin : sign ∷ (first ++ (rest ++ (tail ++ back))) ≡ other_sign ∷ (other_first ++ (other_rest ++ (other_tail ++ other_back))) =
      sym (append_to front (sign ∷ first) rest (tail ++ back) f) ∙ e ∙ append_to other_front (other_sign ∷ other_first) other_rest (other_tail ++ other_back) g in
      let heads = cons_same _ _ _ _ begin in
      let part = part_at Is Continues x (once x) y first other_first (rest ++ (tail ++ back)) (other_rest ++ (other_tail ++ other_back)) heads.1 is other_is
      (further_stops Is Continues once (mark (codes ";")) apart xs rest (tail ++ back) are (end_stops tail back ends (inner_stops back stops)))
      (further_stops Is Continues once (mark (codes ";")) apart ys other_rest (other_tail ++ other_back) other_are (end_stops other_tail other_back other_ends (inner_stops other_back other_stops))) in
      let last = further_groups xs ys rest other_rest tail other_tail back other_back part.2 are other_are ends other_ends stops other_stops in
      let trees : x ∷ xs ≡ y ∷ ys = cc (part.0, last.0) in
      (trees, append_to front (sign ∷ first) rest tail f ∙ whole sign other_sign first other_first (rest ++ tail) (other_rest ++ other_tail) heads.0 part.1 last.1 ∙ sym (append_to other_front (other_sign ∷ other_first) other_rest other_tail g))
    where
      whole : (sign other_sign : Leaf) (first other_first last other_last : List Leaf) → sign ≡ other_sign → first ≡ other_first → last ≡ other_last → sign ∷ (first ++ last) ≡ other_sign ∷ (other_first ++ other_last)
      whole sign other_sign first other_first last other_last a b c = cc

  no_groups : (y : Declared) (ys : List Declared) (front back leaves : List Leaf) → leaves ≡ front ++ back → AreGroups Is (y ∷ ys) front → StopsBefore (ContinuesGroups Continues) leaves → ⊥
  no_groups y ys front back leaves e (listed, tail, f, (first, rest, g, is, are), ends) stops =
      starts_stops BeginsGroup (ContinuesGroups Continues) first (rest ++ (tail ++ back)) (λ t starts. inl starts) (begins y first is)
      (subst (λ (l : List Leaf). StopsBefore (ContinuesGroups Continues) l) (e ∙ append_to front listed tail back f ∙ append_to listed first rest (tail ++ back) g) stops)

  groups_once : OneReading (AreGroups Is) (ContinuesGroups Continues)
  groups_once [] [] front other_front back other_back e are other_are stops other_stops = (refl, are ∙ sym other_are)
  groups_once [] (y ∷ ys) front other_front back other_back e are other_are stops other_stops =
      absurd (no_groups y ys other_front other_back back (ap (λ l. l ++ back) (sym are) ∙ e) other_are stops)
  groups_once (x ∷ xs) [] front other_front back other_back e are other_are stops other_stops =
      absurd (no_groups x xs front back other_back (ap (λ l. l ++ other_back) (sym other_are) ∙ sym e) are other_stops)
  groups_once (x ∷ xs) (y ∷ ys) front other_front back other_back e (listed, tail, f, (first, rest, g, is, are), ends) (other_listed, other_tail, other_f, (other_first, other_rest, other_g, other_is, other_are), other_ends) stops other_stops =
      let begin : first ++ (rest ++ (tail ++ back)) ≡ other_first ++ (other_rest ++ (other_tail ++ other_back)) =
      sym (append_to front listed tail back f ∙ append_to listed first rest (tail ++ back) g) ∙ e
      ∙ append_to other_front other_listed other_tail other_back other_f ∙ append_to other_listed other_first other_rest (other_tail ++ other_back) other_g in
      let part = part_at Is Continues x (once x) y first other_first (rest ++ (tail ++ back)) (other_rest ++ (other_tail ++ other_back)) begin is other_is
      (further_stops Is Continues once (mark (codes ";")) apart xs rest (tail ++ back) are (end_stops tail back ends (inner_stops back stops)))
      (further_stops Is Continues once (mark (codes ";")) apart ys other_rest (other_tail ++ other_back) other_are (end_stops other_tail other_back other_ends (inner_stops other_back other_stops))) in
      let last = further_groups xs ys rest other_rest tail other_tail back other_back part.2 are other_are ends other_ends stops other_stops in
      let trees : x ∷ xs ≡ y ∷ ys = cc (part.0, last.0) in
      let middle : first ++ (rest ++ tail) ≡ other_first ++ (other_rest ++ other_tail) = cc (part.1, last.1) in
      (trees, f ∙ append_to listed first rest tail g ∙ middle ∙ sym (other_f ∙ append_to other_listed other_first other_rest other_tail other_g))

semicolon_param : ContinuesParam (mark (codes ";")) → ⊥
semicolon_param (inl e) = different (mark (codes ";")) (mark (codes ",")) refl refl e
semicolon_param (inr none) = none

semicolon_group : ContinuesGroup (mark (codes ";")) → ⊥
semicolon_group (inl e) = different (mark (codes ";")) (mark (codes ",")) refl refl e
semicolon_group (inr e) = cc

param_begins : (x : Declared) (leaves : List Leaf) → IsParam x leaves → StartsWith BeginsGroup leaves
param_begins x leaves (kind, is) = group_begins IsPlainItem x leaves is

pub param_groups_once : OneReading (AreGroups IsParam) (ContinuesGroups ContinuesParam)
param_groups_once = groups_once IsParam ContinuesParam param_once semicolon_param param_begins

pub plain_groups_once : OneReading (AreGroups (IsGroup IsPlainItem)) (ContinuesGroups ContinuesParam)
plain_groups_once = groups_once (IsGroup IsPlainItem) ContinuesParam plain_group_once semicolon_param (group_begins IsPlainItem)

pub item_groups_once : OneReading (AreGroups (IsGroup IsItem)) (ContinuesGroups ContinuesGroup)
item_groups_once = groups_once (IsGroup IsItem) ContinuesGroup item_group_once semicolon_group (group_begins IsItem)

-- a mark that ends groups
mark_begins_none : (text : List ℕ) → BeginsGroup (mark text) → ⊥
mark_begins_none text (Integer, e) = cc
mark_begins_none text (Boolean, e) = cc
mark_begins_none text (Event, e) = cc

params_end : (text : List ℕ) → (mark text ≡ mark (codes ";") → ⊥) → (mark text ≡ mark (codes ",") → ⊥) → ContinuesGroups ContinuesParam (mark text) → ⊥
params_end text a b (inl begins) = mark_begins_none text begins
params_end text a b (inr (inl e)) = a e
params_end text a b (inr (inr (inl e))) = b e
params_end text a b (inr (inr (inr none))) = none

groups_end : (text : List ℕ) → (mark text ≡ mark (codes ";") → ⊥) → (mark text ≡ mark (codes ",") → ⊥) → ContinuesGroups ContinuesGroup (mark text) → ⊥
groups_end text a b (inl begins) = mark_begins_none text begins
groups_end text a b (inr (inl e)) = a e
groups_end text a b (inr (inr (inl e))) = b e
groups_end text a b (inr (inr (inr e))) = cc

-- [ "{" [ params ] "}" ]
pub params_once : OneReading AreParams (ContinuesOptional (mark (codes "{")))
params_once = optional_between [] (AreGroups IsParam) (mark (codes "{")) (mark (codes "}"))
    (between_once (AreGroups IsParam) (ContinuesGroups ContinuesParam) param_groups_once (mark (codes "{")) (mark (codes "}"))
    (params_end (codes "}") (different (mark (codes "}")) (mark (codes ";")) refl refl) (different (mark (codes "}")) (mark (codes ",")) refl refl)))

-- "?" inputs "!" outputs
abbrev AreSides : List Declared × List Declared → List Leaf → Type 0
AreSides sides leaves = (asked answered : Span) × (front back : List Leaf)
    × (leaves ≡ leaf (mark (codes "?")) asked ∷ (front ++ leaf (mark (codes "!")) answered ∷ back))
    × AreGroups (IsGroup IsPlainItem) sides.0 front × AreGroups (IsGroup IsItem) sides.1 back

sides_once : OneReading AreSides (ContinuesGroups ContinuesGroup)
sides_once x y front other_front back other_back e (asked, answered, first, rest, f, are_inputs, are_outputs) (other_asked, other_answered, other_first, other_rest, g, other_inputs, other_outputs) stops other_stops =
    let ask = leaf (mark (codes "?")) asked in
    let other_ask = leaf (mark (codes "?")) other_asked in
    let answer = leaf (mark (codes "!")) answered in
    let other_answer = leaf (mark (codes "!")) other_answered in
    let begin : ask ∷ (first ++ (answer ∷ (rest ++ back))) ≡ other_ask ∷ (other_first ++ (other_answer ∷ (other_rest ++ other_back))) =
    sym (append_to front (ask ∷ first) (answer ∷ rest) back f) ∙ e ∙ append_to other_front (other_ask ∷ other_first) (other_answer ∷ other_rest) other_back g in
    let heads = cons_same _ _ _ _ begin in
    let ends = params_end (codes "!") (different (mark (codes "!")) (mark (codes ";")) refl refl) (different (mark (codes "!")) (mark (codes ",")) refl refl) in
    let part = part_at (AreGroups (IsGroup IsPlainItem)) (ContinuesGroups ContinuesParam) x.0 (plain_groups_once x.0) y.0 first other_first (answer ∷ (rest ++ back)) (other_answer ∷ (other_rest ++ other_back)) heads.1
    are_inputs other_inputs ends ends in
    let next = cons_same _ _ _ _ part.2 in
    let last = item_groups_once x.1 y.1 rest other_rest back other_back next.1 are_outputs other_outputs stops other_stops in
    let whole : front ≡ other_front = cc (f, g, heads.0, part.1, next.0, last.1) in
    ((λ i. (part.0 i, last.0 i)), whole)

-- "(" "?" inputs "!" outputs ")"
pub interface_once : OneReading (λ (sides : List Declared × List Declared) leaves. IsInterface sides.0 sides.1 leaves) ContinuesNothing
interface_once = between_once AreSides (ContinuesGroups ContinuesGroup) sides_once (mark (codes "(")) (mark (codes ")"))
    (groups_end (codes ")") (different (mark (codes ")")) (mark (codes ";")) refl refl) (different (mark (codes ")")) (mark (codes ",")) refl refl))

-- "RunOn" "{" NAME { "," NAME } "}" LABEL
abbrev text_of_label : Terminal → List ℕ
text_of_label (label text) = text
text_of_label t = []

braces_names : ContinuesList (mark (codes ",")) ContinuesNothing (mark (codes "}")) → ⊥
braces_names (inl e) = different (mark (codes "}")) (mark (codes ",")) refl refl e
braces_names (inr none) = none

pub placement_once : OneReading IsPlacement ContinuesNothing
placement_once x y front other_front back other_back e (labelled, names, f, are) (other_labelled, other_names, g, other_are) stops other_stops =
    let run = leaf (name (codes "RunOn")) x.at in
    let other_run = leaf (name (codes "RunOn")) y.at in
    let tag = leaf (label x.label) labelled in
    let other_tag = leaf (label y.label) other_labelled in
    let begin : run ∷ (names ++ (tag ∷ back)) ≡ other_run ∷ (other_names ++ (other_tag ∷ other_back)) =
    sym (append_to front (run ∷ names) (tag ∷ []) back f) ∙ e ∙ append_to other_front (other_run ∷ other_names) (other_tag ∷ []) other_back g in
    let heads = cons_same _ _ _ _ begin in
    let part = part_at (λ items leaves. Between (mark (codes "{")) (mark (codes "}")) (Separated IsName (mark (codes ",")) items) leaves) ContinuesNothing x.names
    (between_once (Separated IsName (mark (codes ","))) (ContinuesList (mark (codes ",")) ContinuesNothing) names_once (mark (codes "{")) (mark (codes "}")) braces_names x.names)
    y.names names other_names (tag ∷ back) (other_tag ∷ other_back) heads.1 are other_are (λ none. none) (λ none. none) in
    let last = cons_same _ _ _ _ part.2 in
    let whole : front ≡ other_front = cc (f, g, heads.0, part.1, last.0) in
    ((λ i. record { names = part.0 i; label = text_of_label (last.0 i).terminal; at = (heads.0 i).at }), whole)

-- { pragma }
placements_once : OneReading (Each IsPlacement) (ContinuesEach BeginsPlacement ContinuesNothing)
placements_once = each_once IsPlacement ContinuesNothing placement_once BeginsPlacement placement_begins (λ t begins none. none)

pub pragma_list_once : OneReading (Each IsPlacement) ContinuesPlacements
pragma_list_once = once_larger (Each IsPlacement) (ContinuesEach BeginsPlacement ContinuesNothing) ContinuesPlacements within placements_once where
  within : (t : Terminal) → ContinuesEach BeginsPlacement ContinuesNothing t → ContinuesPlacements t
  within t (inl begins) = begins
  within t (inr none) = absurd none

end_no_pragma : BeginsPlacement (word (codes "end")) → ⊥
end_no_pragma e = cc

-- [ "pragmas" { pragma } "end" "pragmas" ]
pub pragmas_once : OneReading ArePragmas (ContinuesOptional (word (codes "pragmas")))
pragmas_once x y front other_front back other_back e (inl (none, f)) (inl (other_none, g)) stops other_stops = (none ∙ sym other_none, f ∙ sym g)
pragmas_once x y front other_front back other_back e (inl (none, f)) (inr (begun, ended, last, inside, g, are)) stops other_stops =
    absurd ((subst (λ (l : List Leaf). StopsBefore (ContinuesOptional (word (codes "pragmas"))) l) (ap (λ l. l ++ back) (sym f) ∙ e ∙ ap (λ l. l ++ other_back) g) stops) refl)
pragmas_once x y front other_front back other_back e (inr (begun, ended, last, inside, f, are)) (inl (none, g)) stops other_stops =
    absurd ((subst (λ (l : List Leaf). StopsBefore (ContinuesOptional (word (codes "pragmas"))) l) (ap (λ l. l ++ other_back) (sym g) ∙ sym e ∙ ap (λ l. l ++ back) f) other_stops) refl)
pragmas_once x y front other_front back other_back e (inr (begun, ended, last, inside, f, are)) (inr (other_begun, other_ended, other_last, other_inside, g, other_are)) stops other_stops =
    let start = leaf (word (codes "pragmas")) begun in
    let other_start = leaf (word (codes "pragmas")) other_begun in
    let end = leaf (word (codes "end")) ended in
    let other_end = leaf (word (codes "end")) other_ended in
    let close = leaf (word (codes "pragmas")) last in
    let other_close = leaf (word (codes "pragmas")) other_last in
    let begin : start ∷ (inside ++ (end ∷ close ∷ back)) ≡ other_start ∷ (other_inside ++ (other_end ∷ other_close ∷ other_back)) =
    sym (append_to front (start ∷ inside) (end ∷ close ∷ []) back f) ∙ e ∙ append_to other_front (other_start ∷ other_inside) (other_end ∷ other_close ∷ []) other_back g in
    let heads = cons_same _ _ _ _ begin in
    let part = part_at (Each IsPlacement) ContinuesPlacements x (pragma_list_once x) y inside other_inside (end ∷ close ∷ back) (other_end ∷ other_close ∷ other_back) heads.1 are other_are end_no_pragma end_no_pragma in
    let next = cons_same _ _ _ _ part.2 in
    let final = cons_same _ _ _ _ next.1 in
    let whole : front ≡ other_front = cc (f, g, heads.0, part.1, next.0, final.0) in
    (part.0, whole)

-- group ";"
pub local_group_once : OneReading IsLocalGroup ContinuesNothing
local_group_once x y front other_front back other_back e (at, group, f, is) (other_at, other_group, g, other_is) stops other_stops =
    let sign = leaf (mark (codes ";")) at in
    let other_sign = leaf (mark (codes ";")) other_at in
    let begin : group ++ (sign ∷ back) ≡ other_group ++ (other_sign ∷ other_back) =
    sym (append_to front group (sign ∷ []) back f) ∙ e ∙ append_to other_front other_group (other_sign ∷ []) other_back g in
    let part = part_at (IsGroup IsItem) ContinuesGroup x (item_group_once x) y group other_group (sign ∷ back) (other_sign ∷ other_back) begin is other_is semicolon_group semicolon_group in
    let last = cons_same _ _ _ _ part.2 in
    let whole : front ≡ other_front = cc (f, g, part.1, last.0) in
    (part.0, whole)

-- What is refused of declarations, and what was read of them, from their parts.
use Rattle.sig_parse.proofs.Common.{◌≡◌, ◌≢◌, ◌++◌, List, [], ◌∷◌, codes, None, refl, sym, ap, ◌∙◌, subst, Span, Kind, Integer, Boolean, Event, Name, Item, Terminal, Leaf, leaf, name_leaf, kind_word, word, mark, Limits, no_limits, Separated, IsName, StartsWith, StopsBefore, OneReading, ContinuesNothing, ContinuesInit, no_place, different, cons_same, name_once, stops_nothing, Declares, Parameters, Inputs, Signals, IsItemOf, Refusal, Syntax, State, Reads, Covers, IsLeaf, ReadsSeparated, RefusesSeparated, Cause, Wrong, cause_of, Refuses, RefusedBy, Settles, InLeaf, InOptionalInit, InSome, IsKindOf, InKind, InItem, InItems, InGroup, ContinuesItem, ContinuesItems}
use Rattle.sig_parse.proofs.PartRefusals.{SameFirst, refuses_at_once}
use Rattle.sig_parse.proofs.RefusedConstants.{some_name, some_leaf}
use Rattle.sig_parse.proofs.PassedLanguages.{Leads, Then, leads_refuses, settles_on, refuses_where, settles_where, apart_nothing, then_first, leads_alone, settled_once, starts_or_stops}
use Rattle.sig_parse.proofs.ReadRows.{plain_reads, plain_settles, plain_refused}

-- what stands the same, whatever the limits
abbrev pub Always : {A : Type 0} → (A → List Leaf → Type 0) → Limits → A → List Leaf → Type 0
Always Is limits x leaves = Is x leaves

-- a kind
pub kind_same : (k j : Kind) → kind_word k ≡ kind_word j → k ≡ j
kind_same Integer Boolean e = absurd (different (word (codes "integer")) (word (codes "boolean")) refl refl e)
kind_same Integer Event e = absurd (different (word (codes "integer")) (word (codes "event")) refl refl e)
kind_same Boolean Integer e = absurd (different (word (codes "boolean")) (word (codes "integer")) refl refl e)
kind_same Boolean Event e = absurd (different (word (codes "boolean")) (word (codes "event")) refl refl e)
kind_same Event Integer e = absurd (different (word (codes "event")) (word (codes "integer")) refl refl e)
kind_same Event Boolean e = absurd (different (word (codes "event")) (word (codes "boolean")) refl refl e)
kind_same _ _ e = refl

kind_once : (declares : Declares) → OneReading (IsKindOf declares) ContinuesNothing
kind_once declares x y front other_front back other_back e (at, may, f) (place, other_may, g) stops other_stops =
    let heads = cons_same (leaf (kind_word x) at) (leaf (kind_word y) place) back other_back (ap (λ l. l ++ back) (sym f) ∙ e ∙ ap (λ l. l ++ other_back) g) in
    (kind_same x y (ap (λ l. l.terminal) heads.0), f ∙ ap (λ l. l ∷ []) heads.0 ∙ sym g)

abbrev BeginsKind : Declares → Terminal → Type 0
BeginsKind declares t = (kind : Kind) × (declares ≡ Parameters → kind ≢ Event) × (t ≡ kind_word kind)

kind_starts : (declares : Declares) (leaves : List Leaf) → InKind declares no_limits leaves → StartsWith (BeginsKind declares) leaves
kind_starts declares leaves (kind, (at, may, e)) = subst (λ (ls : List Leaf). StartsWith (BeginsKind declares) ls) (sym e) (kind, may, refl)

integer_no_event : (declares : Declares) → declares ≡ Parameters → Integer ≢ Event
integer_no_event declares e f = cc

-- no kind that may stand here is next
kind_refused : (declares : Declares) (here : List Leaf) → StopsBefore (BeginsKind declares) here → Refuses (InKind declares) ContinuesNothing Wrong here here
kind_refused declares here stops =
    refuses_at_once (InKind declares) ContinuesNothing (BeginsKind declares) (leaf (kind_word Integer) no_place ∷ []) (Integer, (no_place, integer_no_event declares, refl)) (kind_starts declares) here stops

pub kind_of_parameter : (declares : Declares) → declares ≡ Parameters → (here : List Leaf) → StopsBefore (λ t. t ≡ word (codes "integer")) here → StopsBefore (λ t. t ≡ word (codes "boolean")) here
    → Refuses (InKind declares) ContinuesNothing Wrong here here
kind_of_parameter declares is [] integer boolean = kind_refused declares [] tt
kind_of_parameter declares is (l ∷ here) integer boolean = kind_refused declares (l ∷ here) (λ begins. none begins.0 begins.1 begins.2) where
  none : (kind : Kind) → (declares ≡ Parameters → kind ≢ Event) → l.terminal ≡ kind_word kind → ⊥
  none Integer may e = integer e
  none Boolean may e = boolean e
  none Event may e = may is refl

pub kind_of_event : (declares : Declares) → (declares ≡ Parameters → ⊥) → {cause : Cause} {here after : List Leaf} → StopsBefore (λ t. t ≡ word (codes "integer")) here → StopsBefore (λ t. t ≡ word (codes "boolean")) here
    → Refuses (InLeaf (word (codes "event"))) ContinuesNothing cause here after → Refuses (InKind declares) ContinuesNothing cause here after
kind_of_event declares other {cause} {here} {after} integer boolean r =
    refuses_where (InLeaf (word (codes "event"))) (InKind declares) ContinuesNothing ContinuesNothing (λ limits leaves is. (Event, (is.0, (λ e. absurd (other e)), is.1))) (λ back stops. stops) here
    (λ limits whole back is stops same. go limits whole back is.0 is.1 same) r
  where
    go : (limits : Limits) (whole back : List Leaf) (kind : Kind) → IsKindOf declares kind whole → SameFirst here (whole ++ back) → InLeaf (word (codes "event")) limits whole
    go limits whole back Integer (at, may, e) same =
        absurd (starts_or_stops (λ t. t ≡ word (codes "integer")) here (leaf (word (codes "integer")) at ∷ back) (subst (λ (ls : List Leaf). SameFirst here (ls ++ back)) e same) integer refl)
    go limits whole back Boolean (at, may, e) same =
        absurd (starts_or_stops (λ t. t ≡ word (codes "boolean")) here (leaf (word (codes "boolean")) at ∷ back) (subst (λ (ls : List Leaf). SameFirst here (ls ++ back)) e same) boolean refl)
    go limits whole back Event (at, may, e) same = (at, e)

-- NAME [ "init" constant ]
abbrev Initialised : Limits → List Leaf → Type 0
Initialised limits leaves = Then (Always IsName) InOptionalInit limits leaves

abbrev Names : Limits → List Leaf → Type 0
Names limits leaves = InSome IsName limits leaves

item_of : (limits : Limits) (leaves : List Leaf) → Initialised limits leaves → InItem Signals limits leaves
item_of limits leaves (n, front, back, e, is, (init, is_init)) = (record { name = n; init = init }, (back, e ∙ ap (λ ls. ls ++ back) is, is_init))

of_item : (limits : Limits) (leaves : List Leaf) → InItem Signals limits leaves → Initialised limits leaves
of_item limits leaves (item, (rest, e, is_init)) = (item.name, name_leaf item.name ∷ [], rest, e, refl, (item.init, is_init))

plain_of : (limits : Limits) (leaves : List Leaf) → Names limits leaves → InItem Inputs limits leaves
plain_of limits leaves (n, is) = (record { name = n; init = None }, (refl, is))

of_plain : (limits : Limits) (leaves : List Leaf) → InItem Inputs limits leaves → Names limits leaves
of_plain limits leaves (item, (none, is)) = (item.name, is)

name_leads : (n : Name) {s t : State} → Covers (IsName n) s t → Leads Initialised ContinuesInit InOptionalInit ContinuesInit s.leaves t.leaves
name_leads n c = leads_alone (Always IsName) InOptionalInit ContinuesInit name_once (λ limits x leaves is. is) (λ limits x leaves is. is) n c

pub item_from_name : (declares : Declares) {cause : Cause} {here after : List Leaf} → Refuses (InSome IsName) ContinuesNothing cause here after → Refuses (InItem declares) (ContinuesItem declares) cause here after
item_from_name Parameters {here = here} r = refuses_where Names (InItem Parameters) ContinuesNothing ContinuesNothing plain_of (λ back stops. stops) here (λ limits whole back is stops same. of_plain limits whole is) r
item_from_name Inputs {here = here} r = refuses_where Names (InItem Inputs) ContinuesNothing ContinuesNothing plain_of (λ back stops. stops) here (λ limits whole back is stops same. of_plain limits whole is) r
item_from_name Signals {here = here} r = refuses_where Initialised (InItem Signals) ContinuesInit ContinuesInit item_of (λ back stops. stops) here (λ limits whole back is stops same. of_item limits whole is)
    (then_first (Always IsName) ContinuesNothing InOptionalInit ContinuesInit (apart_nothing InOptionalInit ContinuesInit) [] (λ limits. (None, refl)) r)

pub item_from_init : (declares : Declares) → declares ≡ Signals → (n : Name) {cause : Cause} {s t : State} {after : List Leaf} → Covers (IsName n) s t
    → Refuses InOptionalInit ContinuesInit cause t.leaves after → Refuses (InItem declares) (ContinuesItem declares) cause s.leaves after
item_from_init declares is n {cause} {s} {t} {after} c r = subst (λ (d : Declares). Refuses (InItem d) (ContinuesItem d) cause s.leaves after) (sym is)
    (refuses_where Initialised (InItem Signals) ContinuesInit ContinuesInit item_of (λ back stops. stops) s.leaves (λ limits whole back is stops same. of_item limits whole is) (leads_refuses (name_leads n c) r))

pub item_settled : (declares : Declares) → declares ≡ Signals → (n : Name) {s t : State} {after : List Leaf} → Covers (IsName n) s t → Settles InOptionalInit ContinuesInit t.leaves after
    → Settles (InItem declares) (ContinuesItem declares) s.leaves after
item_settled declares is n {s} {t} {after} c k = subst (λ (d : Declares). Settles (InItem d) (ContinuesItem d) s.leaves after) (sym is)
    (settles_where Initialised (InItem Signals) ContinuesInit ContinuesInit item_of (λ back stops. stops) s.leaves (λ limits whole back is stops same. of_item limits whole is) (settles_on (name_leads n c) k))

pub plain_settled : (declares : Declares) → (declares ≡ Signals → ⊥) → (n : Name) {s t : State} → Covers (IsName n) s t → Settles (InItem declares) (ContinuesItem declares) s.leaves t.leaves
plain_settled Parameters other n {s} {t} c = settles_where Names (InItem Parameters) ContinuesNothing ContinuesNothing plain_of (λ back stops. stops) s.leaves (λ limits whole back is stops same. of_plain limits whole is)
    (settled_once (Always IsName) ContinuesNothing name_once (λ limits x leaves is. is) n c (stops_nothing t.leaves))
plain_settled Inputs other n {s} {t} c = settles_where Names (InItem Inputs) ContinuesNothing ContinuesNothing plain_of (λ back stops. stops) s.leaves (λ limits whole back is stops same. of_plain limits whole is)
    (settled_once (Always IsName) ContinuesNothing name_once (λ limits x leaves is. is) n c (stops_nothing t.leaves))
plain_settled Signals other n c = absurd (other refl)

-- item { "," item }
comma_apart : (declares : Declares) → ContinuesItem declares (mark (codes ",")) → ⊥
comma_apart Signals e = let both : mark (codes ",") ≡ word (codes "init") = e in cc
comma_apart _ none = none

module _ (declares : Declares) where
  abbrev pub ItemRead : Item → State → State → Type 0
  ItemRead item s t = Reads (IsItemOf declares item) 0 s t × Settles (InItem declares) (ContinuesItem declares) s.leaves t.leaves

  abbrev pub ItemRefused : Refusal → State → State → Type 0
  ItemRefused why s t = RefusedBy (InItem declares) (ContinuesItem declares) s t why

  pub items_read : (items : List Item) (s t : State) → ReadsSeparated ItemRead (mark (codes ",")) items s t → Reads (Separated (IsItemOf declares) (mark (codes ",")) items) 0 s t
  items_read items s t h = plain_reads (IsItemOf declares) (ContinuesItem declares) (mark (codes ",")) (comma_apart declares) ItemRead (λ x s t p. p.0) (λ x s t p. p.1) s items t h

  pub items_settled : (items : List Item) (s t : State) → ReadsSeparated ItemRead (mark (codes ",")) items s t → Settles (InItems declares) (ContinuesItems declares) s.leaves t.leaves
  items_settled items s t h = plain_settles (IsItemOf declares) (ContinuesItem declares) (mark (codes ",")) (comma_apart declares) ItemRead (λ x s t p. p.0) (λ x s t p. p.1) s items t h

  pub items_refused : (why : Refusal) (s t : State) → RefusesSeparated ItemRead ItemRefused (mark (codes ",")) s t why → RefusedBy (InItems declares) (ContinuesItems declares) s t why
  items_refused why s t h = plain_refused (IsItemOf declares) (ContinuesItem declares) (mark (codes ",")) (comma_apart declares) ItemRead (λ x s t p. p.0) (λ x s t p. p.1) ItemRefused (λ why s t r text. r text) why s t h

-- kind item { "," item }
abbrev KindThen : Declares → Limits → List Leaf → Type 0
KindThen declares limits leaves = Then (Always (IsKindOf declares)) (InItems declares) limits leaves

group_of : (declares : Declares) (limits : Limits) (leaves : List Leaf) → KindThen declares limits leaves → InGroup declares limits leaves
group_of Parameters limits leaves (kind, front, back, e, (at, may, f), (items, are)) = (record { kind = kind; items = items }, (may refl, (at, back, e ∙ ap (λ ls. ls ++ back) f, are)))
group_of _ limits leaves (kind, front, back, e, (at, may, f), (items, are)) = (record { kind = kind; items = items }, (at, back, e ∙ ap (λ ls. ls ++ back) f, are))

of_group : (declares : Declares) (limits : Limits) (leaves : List Leaf) → InGroup declares limits leaves → KindThen declares limits leaves
of_group Parameters limits leaves (group, (no_event, (at, rest, e, are))) = (group.kind, leaf (kind_word group.kind) at ∷ [], rest, e, (at, (λ is. no_event), refl), (group.items, are))
of_group Inputs limits leaves (group, (at, rest, e, are)) = (group.kind, leaf (kind_word group.kind) at ∷ [], rest, e, (at, (λ is. absurd (let both : Inputs ≡ Parameters = is in cc)), refl), (group.items, are))
of_group Signals limits leaves (group, (at, rest, e, are)) = (group.kind, leaf (kind_word group.kind) at ∷ [], rest, e, (at, (λ is. absurd (let both : Signals ≡ Parameters = is in cc)), refl), (group.items, are))

some_items : (declares : Declares) → InItems declares no_limits (some_leaf ∷ [])
some_items Signals = (record { name = some_name; init = None } ∷ [], (some_leaf ∷ [], [], refl, ([], refl, refl), refl))
some_items _ = (record { name = some_name; init = None } ∷ [], (some_leaf ∷ [], [], refl, (refl, refl), refl))

kind_leads : (declares : Declares) (kind : Kind) (at : Span) → (declares ≡ Parameters → kind ≢ Event) → {s t : State} → Covers (IsLeaf (kind_word kind) at) s t
    → Leads (KindThen declares) (ContinuesItems declares) (InItems declares) (ContinuesItems declares) s.leaves t.leaves
kind_leads declares kind at may {s} {t} c = leads_alone (Always (IsKindOf declares)) (InItems declares) (ContinuesItems declares) (kind_once declares) (λ limits x leaves is. is) (λ limits x leaves is. is) kind {s = s} {t = t}
    (record { front = c.front; split = c.split; is = (at, may, c.is) })

pub group_from_kind : (declares : Declares) {cause : Cause} {here after : List Leaf} → Refuses (InKind declares) ContinuesNothing cause here after → Refuses (InGroup declares) (ContinuesItems declares) cause here after
group_from_kind declares {here = here} r = refuses_where (KindThen declares) (InGroup declares) (ContinuesItems declares) (ContinuesItems declares) (group_of declares) (λ back stops. stops) here (λ limits whole back is stops same. of_group declares limits whole is)
    (then_first (Always (IsKindOf declares)) ContinuesNothing (InItems declares) (ContinuesItems declares) (apart_nothing (InItems declares) (ContinuesItems declares)) (some_leaf ∷ []) (λ limits. some_items declares) r)

pub group_from_items : (declares : Declares) (kind : Kind) (at : Span) → (declares ≡ Parameters → kind ≢ Event) → {cause : Cause} {s t : State} {after : List Leaf} → Covers (IsLeaf (kind_word kind) at) s t
    → Refuses (InItems declares) (ContinuesItems declares) cause t.leaves after → Refuses (InGroup declares) (ContinuesItems declares) cause s.leaves after
group_from_items declares kind at may {s = s} c r = refuses_where (KindThen declares) (InGroup declares) (ContinuesItems declares) (ContinuesItems declares) (group_of declares) (λ back stops. stops) s.leaves (λ limits whole back is stops same. of_group declares limits whole is)
    (leads_refuses (kind_leads declares kind at may c) r)

pub group_settled : (declares : Declares) (kind : Kind) (at : Span) → (declares ≡ Parameters → kind ≢ Event) → {s t : State} {after : List Leaf} → Covers (IsLeaf (kind_word kind) at) s t
    → Settles (InItems declares) (ContinuesItems declares) t.leaves after → Settles (InGroup declares) (ContinuesItems declares) s.leaves after
group_settled declares kind at may {s = s} c k = settles_where (KindThen declares) (InGroup declares) (ContinuesItems declares) (ContinuesItems declares) (group_of declares) (λ back stops. stops) s.leaves (λ limits whole back is stops same. of_group declares limits whole is)
    (settles_on (kind_leads declares kind at may c) k)

-- the same of where the parser stands
no_kind_before : {s t u : State} → (t ≡ s) × StopsBefore (λ k. k ≡ word (codes "integer")) s.leaves → (u ≡ t) × StopsBefore (λ k. k ≡ word (codes "boolean")) t.leaves
    → (u ≡ s) × StopsBefore (λ k. k ≡ word (codes "boolean")) s.leaves
no_kind_before {s} {t} {u} h k = (k.0 ∙ h.0, subst (λ (x : State). StopsBefore (λ k. k ≡ word (codes "boolean")) x.leaves) h.0 k.1)

pub no_parameter : (declares : Declares) → declares ≡ Parameters → {s t u : State} → (t ≡ s) × StopsBefore (λ k. k ≡ word (codes "integer")) s.leaves → (u ≡ t) × StopsBefore (λ k. k ≡ word (codes "boolean")) t.leaves
    → RefusedBy (InKind declares) ContinuesNothing s u Syntax
no_parameter declares is {s} {t} {u} h k =
    let none = no_kind_before h k in
    λ text. subst (λ (x : State). Refuses (InKind declares) ContinuesNothing Wrong s.leaves x.leaves) (sym none.0) (kind_of_parameter declares is s.leaves h.1 none.1)

pub no_event : (declares : Declares) → (declares ≡ Parameters → ⊥) → (why : Refusal) (v : State) {s t u : State} → (t ≡ s) × StopsBefore (λ k. k ≡ word (codes "integer")) s.leaves → (u ≡ t) × StopsBefore (λ k. k ≡ word (codes "boolean")) t.leaves
    → RefusedBy (InLeaf (word (codes "event"))) ContinuesNothing u v why → RefusedBy (InKind declares) ContinuesNothing s v why
no_event declares other why v {s} {t} {u} h k r =
    let none = no_kind_before h k in
    λ text. kind_of_event declares other h.1 none.1 (subst (λ (x : State). Refuses (InLeaf (word (codes "event"))) ContinuesNothing (cause_of why) x.leaves v.leaves) none.0 (r text))

-- What is read and refused of declarations and of pragmas.
use Rattle.sig_parse.proofs.Common.{◌≡◌, ◌≢◌, ◌++◌, ◌<◌, ◌⊎◌, ℕ, zero, suc, List, [], ◌∷◌, length, codes, arith, inl, inr, refl, None, Span, Kind, Integer, Boolean, Event, Name, Item, Declared, Placement, Terminal, name, word, mark, kind_word, Between, Each, Separated, IsName, AreGroups, IsPlacement, ArePragmas, IsLocalGroup, StartsWith, StopsBefore, ContinuesNothing, ContinuesInit, ContinuesOptional, Declares, Parameters, Signals, IsItemOf, IsGroupOf, State, Reads, IsLeaf, Shorter, Wrong, cause_of, Settles, Closes, InKind, InItems, InGroup, InGroups, InLocalGroup, InBraced, InPragma, InPragmaList, InPragmas, InOptionalInit, ContinuesItems, EndsGroups}
use Rattle.sig_parse.proofs.NextLeaf.{Taken, taken, missing, take, TakenName, taken_name, missing_name, take_name, dec_terminal, starts_or_not}
use Rattle.sig_parse.proofs.Verdicts.{Verdict, read, refused, behind, seen, refusal_for, refused_for, of_text, standing, Row, row_read, row_refused, separated}
use Rattle.sig_parse.proofs.Verdicts as V
use Rattle.sig_parse.proofs.VerdictsOfLeaves.{expected, expected_label, OptionalInitRead, optional_init_verdict}
use Rattle.sig_parse.proofs.VerdictsOfSides.{names_verdict}
use Rattle.sig_parse.proofs.CoveredParts.{covered}
use Rattle.sig_parse.proofs.Joins.{joined, nothing, no_longer}
use Rattle.sig_parse.proofs.Lists.{reads_one, reads_more, each_more}
use Rattle.sig_parse.proofs.EnclosedParts.{between}
use Rattle.sig_parse.proofs.RefusedTokens.{name_refused}
use Rattle.sig_parse.proofs.GroupLemmas.{item_with_init, plain_item, group_of, groups_plain, groups_marked, local_group, placement, pragmas_between}
use Rattle.sig_parse.proofs.PassedLanguages.{leads_refuses, leads_on, leads_nowhere}
use Rattle.sig_parse.proofs.RefusedDeclarations.{kind_of_parameter, kind_of_event, item_from_name, item_from_init, item_settled, plain_settled, ItemRead, ItemRefused, items_read, items_settled, items_refused, group_from_kind, group_from_items, group_settled}
use Rattle.sig_parse.proofs.RefusedGroups.{LeadsGroups, groups_first, groups_begun, groups_next, groups_end, groups_over}
use Rattle.sig_parse.proofs.RefusedHeadings.{local_group_inside, local_group_end}
use Rattle.sig_parse.proofs.RefusedPragmas.{braced_open, braced_inside, braced_close, pragma_first, pragma_names, pragma_label, LeadsPragmas, pragma_list_item, pragma_list_more, pragma_list_ends, pragmas_missing, pragmas_inside, pragmas_last, pragmas_settled}

-- ---- kinds

abbrev KindRead : Declares → State → Kind × Span → State → Type 0
KindRead declares s found t = Reads (IsLeaf (kind_word found.0) found.1) 0 s t × (declares ≡ Parameters → found.0 ≢ Event) × Shorter s t

abbrev KindVerdict : Declares → State → Type 0
KindVerdict declares s = Verdict (KindRead declares s) (InKind declares) ContinuesNothing s.leaves

module _ (s : State) where
  event_kind : (declares : Declares) → (declares ≡ Parameters → ⊥) → StopsBefore (λ t. t ≡ word (codes "integer")) s.leaves → StopsBefore (λ t. t ≡ word (codes "boolean")) s.leaves → KindVerdict declares s
  event_kind declares other no_integer no_boolean = seen (expected (word (codes "event")) s) (λ cause after r. kind_of_event declares other no_integer no_boolean r) (λ at. (Event, at)) (λ at t r. (r.0, (λ is. absurd (other is)), r.1))

  last_kind : (declares : Declares) → StopsBefore (λ t. t ≡ word (codes "integer")) s.leaves → StopsBefore (λ t. t ≡ word (codes "boolean")) s.leaves → KindVerdict declares s
  last_kind Parameters no_integer no_boolean = refused Wrong s.leaves (kind_of_parameter Parameters refl s.leaves no_integer no_boolean)
  last_kind declares no_integer no_boolean = event_kind declares (λ is. let both : declares ≡ Parameters = is in cc) no_integer no_boolean

  module _ (declares : Declares) where
    with_boolean : StopsBefore (λ t. t ≡ word (codes "integer")) s.leaves → Taken (word (codes "boolean")) s → KindVerdict declares s
    with_boolean no_integer (taken at t r shorter) = read (Boolean, at) t (r, (λ is. λ e. cc), shorter)
    with_boolean no_integer (missing no_boolean) = last_kind declares no_integer no_boolean

    with_integer : Taken (word (codes "integer")) s → KindVerdict declares s
    with_integer (taken at t r shorter) = read (Integer, at) t (r, (λ is. λ e. cc), shorter)
    with_integer (missing no_integer) = with_boolean no_integer (take (word (codes "boolean")) s)

    kind_verdict : KindVerdict declares s
    kind_verdict = with_integer (take (word (codes "integer")) s)

-- ---- items

abbrev ItemOutcome : Declares → State → Type 0
ItemOutcome declares s = V.Item (ItemRead declares) (ItemRefused declares) (mark (codes ",")) s

plain_read : (declares : Declares) → (declares ≡ Signals → ⊥) → (n : Name) {s t : State} → Reads (IsName n) 0 s t → Shorter s t → ItemOutcome declares s
plain_read declares other n {s} {t} r shorter = V.item_read (record { name = n; init = None }) t (plain_item declares n other r, plain_settled declares other n (covered r)) shorter

initialised : (n : Name) (s t : State) → Reads (IsName n) 0 s t → Shorter s t → ItemOutcome Signals s
initialised n s t r shorter = at (optional_init_verdict t) where
  at : Verdict (OptionalInitRead t) InOptionalInit ContinuesInit t.leaves → ItemOutcome Signals s
  at (read init u q) = V.item_read (record { name = n; init = init }) u (item_with_init Signals n init refl r q.0, item_settled Signals refl n (covered r) q.1) (omega (arith, shorter, no_longer q.0))
  at (refused cause after q) = V.item_refused (refusal_for cause) (standing after) (of_text cause) (λ text. refused_for cause (item_from_init Signals refl n (covered r) q))

item_named : (declares : Declares) (n : Name) (s t : State) → Reads (IsName n) 0 s t → Shorter s t → ItemOutcome declares s
item_named Signals n s t r shorter = initialised n s t r shorter
item_named declares n s t r shorter = plain_read declares (λ is. let both : declares ≡ Signals = is in cc) n r shorter

item_outcome : (declares : Declares) (s : State) → ItemOutcome declares s
item_outcome declares s = at (take_name s) where
  at : TakenName s → ItemOutcome declares s
  at (taken_name n t r shorter) = item_named declares n s t r shorter
  at (missing_name stops) = V.item_refused (refusal_for Wrong) (standing s.leaves) (of_text Wrong) (λ text. item_from_name declares (name_refused s.leaves stops))

abbrev ItemsRead : Declares → State → List Item → State → Type 0
ItemsRead declares s items t = Reads (Separated (IsItemOf declares) (mark (codes ",")) items) 0 s t × Settles (InItems declares) (ContinuesItems declares) s.leaves t.leaves

items_verdict : (declares : Declares) (s : State) → Verdict (ItemsRead declares s) (InItems declares) (ContinuesItems declares) s.leaves
items_verdict declares s = at (separated (ItemRead declares) (ItemRefused declares) (mark (codes ",")) (λ _. Unit {0}) (λ at s t r ready. tt) (λ x s t r ready. tt) (suc (length s.leaves)) (λ s within ready. item_outcome declares s) s (omega arith) tt) where
  at : Row (ItemRead declares) (ItemRefused declares) (mark (codes ",")) s → Verdict (ItemsRead declares s) (InItems declares) (ContinuesItems declares) s.leaves
  at (row_read items t h) = read items t (items_read declares items s t h, items_settled declares items s t h)
  at (row_refused why t text h) = refused (cause_of why) t.leaves (items_refused declares why s t h text)

-- ---- groups

abbrev pub GroupRead : Declares → State → Declared → State → Type 0
GroupRead declares s g t = Reads (IsGroupOf declares g) 0 s t × Settles (InGroup declares) (ContinuesItems declares) s.leaves t.leaves × Shorter s t

group_verdict : (declares : Declares) (s : State) → Verdict (GroupRead declares s) (InGroup declares) (ContinuesItems declares) s.leaves
group_verdict declares s = behind (kind_verdict s declares) (λ cause after r. group_from_kind declares r) (λ kind t r.
    seen (items_verdict declares t) (λ cause after q. group_from_items declares kind.0 kind.1 r.1 (covered r.0) q) (λ items. record { kind = kind.0; items = items }) (λ items u q. (
      group_of declares kind.0 items kind.1 r.1 r.0 q.0,
      group_settled declares kind.0 kind.1 r.1 (covered r.0) q.1,
      omega (arith, r.2, no_longer q.0),
    )))

abbrev pub GroupsRead : Declares → Terminal → State → List Declared → State → Type 0
GroupsRead declares closing s groups t = Reads (AreGroups (IsGroupOf declares) groups) 0 s t × Closes (InGroups declares closing) closing s.leaves t.leaves

module _ (declares : Declares) (closing : Terminal) (ends : EndsGroups closing) (s : State) where
  abbrev GroupsVerdict : Type 0
  GroupsVerdict = Verdict (GroupsRead declares closing s) (InGroups declares closing) ContinuesNothing s.leaves

  abbrev ClosedOr : State → Type 0
  ClosedOr t = StartsWith (λ u. u ≡ closing) t.leaves ⊎ StopsBefore (λ u. u ≡ closing) t.leaves

  closed_or : (t : State) → ClosedOr t
  closed_or t = starts_or_not (λ u. u ≡ closing) (λ u. dec_terminal u closing) t.leaves

  module _ (groups : List Declared) (now : State) (r : Reads (Separated (IsGroupOf declares) (mark (codes ";")) groups) 0 s now) (l : LeadsGroups declares closing s.leaves now.leaves) where
    groups_ended : StopsBefore (λ t. t ≡ mark (codes ";")) now.leaves → GroupsVerdict
    groups_ended stops = read groups now (groups_plain (IsGroupOf declares) groups r, groups_over declares closing ends l stops)

    behind_semicolon : (at : Span) (t : State) → Reads (IsLeaf (mark (codes ";")) at) 0 now t → Shorter now t → ClosedOr t
        → ((g : Declared) (u : State) → length u.leaves < length now.leaves → Reads (Separated (IsGroupOf declares) (mark (codes ";")) (groups ++ g ∷ [])) 0 s u → LeadsGroups declares closing s.leaves u.leaves → GroupsVerdict) → GroupsVerdict
    behind_semicolon at t q short (inl starts) next = read groups t (
      groups_marked (IsGroupOf declares) groups at r q,
      λ cause stopped x. leads_refuses (groups_next declares closing ends at l (covered q)) (groups_end declares closing ends starts cause stopped x),
    )
    behind_semicolon at t q short (inr open_here) next =
        behind (group_verdict declares t) (λ cause after x. leads_refuses (groups_next declares closing ends at l (covered q)) (groups_first declares closing ends open_here x)) (λ g u x.
        next g u (omega (arith, short, x.2)) (reads_more (IsGroupOf declares) (mark (codes ";")) groups g 0 0 0 at (omega arith) r q x.0)
        (leads_on (groups_next declares closing ends at l (covered q)) (groups_begun declares closing ends g open_here (covered x.0) x.1)))

  groups_loop : (m : ℕ) (groups : List Declared) (now : State) → length now.leaves < m → Reads (Separated (IsGroupOf declares) (mark (codes ";")) groups) 0 s now → LeadsGroups declares closing s.leaves now.leaves → GroupsVerdict
  groups_loop zero groups now less r l = absurd (omega (arith, less))
  groups_loop (suc m) groups now less r l = at (take (mark (codes ";")) now) (λ g u shorter more leads. groups_loop m (groups ++ g ∷ []) u (omega (arith, shorter, less)) more leads) where
    at : Taken (mark (codes ";")) now
        → ((g : Declared) (u : State) → length u.leaves < length now.leaves → Reads (Separated (IsGroupOf declares) (mark (codes ";")) (groups ++ g ∷ [])) 0 s u → LeadsGroups declares closing s.leaves u.leaves → GroupsVerdict) → GroupsVerdict
    at (missing stops) next = groups_ended groups now r l stops
    at (taken place t q short) next = behind_semicolon groups now r l place t q short (closed_or t) next

  pub groups_verdict : GroupsVerdict
  groups_verdict = at (closed_or s) where
    at : ClosedOr s → GroupsVerdict
    at (inl starts) = read [] s (nothing (AreGroups (IsGroupOf declares) []) s s refl refl, groups_end declares closing ends starts)
    at (inr open_here) = behind (group_verdict declares s) (λ cause after x. groups_first declares closing ends open_here x) (λ g u x.
        groups_loop (suc (length u.leaves)) (g ∷ []) u (omega arith) (reads_one (IsGroupOf declares) (mark (codes ";")) g 0 x.0) (groups_begun declares closing ends g open_here (covered x.0) x.1))

abbrev pub LocalRead : State → Declared → State → Type 0
LocalRead s g t = Reads (IsLocalGroup g) 0 s t × Shorter s t

pub local_group_verdict : (s : State) → Verdict (LocalRead s) InLocalGroup ContinuesNothing s.leaves
local_group_verdict s = behind (group_verdict Signals s) (λ cause after r. local_group_inside r) (λ g t r.
    seen (expected (mark (codes ";")) t) (λ cause after q. local_group_end g (covered r.0) r.1 q) (λ at. g) (λ at u q. (local_group g at r.0 q.0, omega (arith, r.2, q.1))))

-- ---- pragmas

abbrev BracedRead : State → List Name → State → Type 0
BracedRead s names t = Reads (Between (mark (codes "{")) (mark (codes "}")) (Separated IsName (mark (codes ",")) names)) 0 s t

braced_verdict : (s : State) → Verdict (BracedRead s) InBraced ContinuesNothing s.leaves
braced_verdict s = behind (expected (mark (codes "{")) s) (λ cause after r. braced_open r) (λ opened t q.
    behind (names_verdict t) (λ cause after r. braced_inside opened (covered q.0) r) (λ names u r.
    seen (expected (mark (codes "}")) u) (λ cause after p. braced_close opened names (covered q.0) (covered r.0) r.1 p) (λ closed. names) (λ closed v p.
    between (mark (codes "{")) (mark (codes "}")) (Separated IsName (mark (codes ",")) names) 0 opened closed q.0 r.0 p.0)))

abbrev PragmaRead : State → Placement → State → Type 0
PragmaRead s pragma t = Reads (IsPlacement pragma) 0 s t × Shorter s t

pragma_verdict : (s : State) → Verdict (PragmaRead s) InPragma ContinuesNothing s.leaves
pragma_verdict s = behind (expected (name (codes "RunOn")) s) (λ cause after r. pragma_first r) (λ at t q.
    behind (braced_verdict t) (λ cause after r. pragma_names at (covered q.0) r) (λ names u r.
    seen (expected_label u) (λ cause after p. pragma_label at names (covered q.0) (covered r) p) (λ found. record { names = names; label = found.0; at = at }) (λ found v p. (
      placement names found.0 at found.1 q.0 r p.0,
      omega (arith, q.1, no_longer r, p.1),
    ))))

abbrev PragmaListRead : State → List Placement → State → Type 0
PragmaListRead s pragmas t = Reads (Each IsPlacement pragmas) 0 s t × Closes InPragmaList (word (codes "end")) s.leaves t.leaves

module _ (s : State) where
  abbrev PragmaListVerdict : Type 0
  PragmaListVerdict = Verdict (PragmaListRead s) InPragmaList ContinuesNothing s.leaves

  one_pragma_more : (pragmas : List Placement) (pragma : Placement) {t u : State} → Reads (Each IsPlacement pragmas) 0 s t → Reads (IsPlacement pragma) 0 t u → Reads (Each IsPlacement (pragmas ++ pragma ∷ [])) 0 s u
  one_pragma_more pragmas pragma r q = joined (Each IsPlacement (pragmas ++ pragma ∷ [])) 0 refl (λ front back is one. each_more IsPlacement pragmas pragma front back is one) r q

  pragma_loop : (m : ℕ) (pragmas : List Placement) (now : State) → length now.leaves < m → Reads (Each IsPlacement pragmas) 0 s now → LeadsPragmas s.leaves now.leaves → PragmaListVerdict
  pragma_loop zero pragmas now less r l = absurd (omega (arith, less))
  pragma_loop (suc m) pragmas now less r l = at (starts_or_not (λ t. t ≡ word (codes "end")) (λ t. dec_terminal t (word (codes "end"))) now.leaves)
      (λ pragma u shorter more leads. pragma_loop m (pragmas ++ pragma ∷ []) u (omega (arith, shorter, less)) more leads) where
        at : StartsWith (λ t. t ≡ word (codes "end")) now.leaves ⊎ StopsBefore (λ t. t ≡ word (codes "end")) now.leaves
            → ((pragma : Placement) (u : State) → length u.leaves < length now.leaves → Reads (Each IsPlacement (pragmas ++ pragma ∷ [])) 0 s u → LeadsPragmas s.leaves u.leaves → PragmaListVerdict) → PragmaListVerdict
        at (inl starts) next = read pragmas now (r, λ cause stopped x. leads_refuses l (pragma_list_ends starts cause stopped x))
        at (inr no_end) next = behind (pragma_verdict now) (λ cause after x. leads_refuses l (pragma_list_item no_end x)) (λ pragma u x.
            next pragma u x.1 (one_pragma_more pragmas pragma r x.0) (leads_on l (pragma_list_more pragma no_end (covered x.0))))

  pragma_list_verdict : PragmaListVerdict
  pragma_list_verdict = pragma_loop (suc (length s.leaves)) [] s (omega arith) (nothing (Each IsPlacement []) s s refl refl) (leads_nowhere InPragmaList ContinuesNothing s.leaves)

abbrev pub PragmasRead : State → List Placement → State → Type 0
PragmasRead s pragmas t = Reads (ArePragmas pragmas) 0 s t × Settles InPragmas (ContinuesOptional (word (codes "pragmas"))) s.leaves t.leaves

pub pragmas_verdict : (s : State) → Verdict (PragmasRead s) InPragmas (ContinuesOptional (word (codes "pragmas"))) s.leaves
pragmas_verdict s = at (take (word (codes "pragmas")) s) where
  at : Taken (word (codes "pragmas")) s → Verdict (PragmasRead s) InPragmas (ContinuesOptional (word (codes "pragmas"))) s.leaves
  at (missing stops) = read [] s (nothing (ArePragmas []) s s refl (inl (refl, refl)), pragmas_missing stops)
  at (taken first t q short) = behind (pragma_list_verdict t) (λ cause after r. pragmas_inside first (covered q) r) (λ pragmas u r.
      behind (expected (word (codes "end")) u) (λ cause after p. pragmas_inside first (covered q) (r.1 cause after p)) (λ ended v p.
      seen (expected (word (codes "pragmas")) v) (λ cause after o. pragmas_last first pragmas ended (covered q) (covered r.0) (covered p.0) o) (λ last. pragmas) (λ last w o. (
        pragmas_between pragmas first ended last q r.0 p.0 o.0,
        pragmas_settled first pragmas ended last (covered q) (covered r.0) (covered p.0) (covered o.0),
      ))))

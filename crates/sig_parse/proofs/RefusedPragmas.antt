-- What is refused of pragmas, and what was read of them, from their parts.
use Rattle.sig_parse.proofs.Common.{◌≡◌, ◌++◌, ◌⊎◌, List, [], ◌∷◌, codes, inl, inr, refl, sym, ap, ◌∙◌, subst, append_assoc, Span, Name, Placement, Terminal, Leaf, leaf, name, word, mark, label, Limits, Each, Separated, IsName, IsPlacement, StartsWith, BeginsPlacement, StopsBefore, OneReading, ContinuesNothing, ContinuesList, ContinuesOptional, ContinuesPlacements, no_place, different, between_once, names_once, stops_nothing, placement_once, pragma_list_once, State, Covers, IsLeaf, Cause, Refuses, Settles, Closes, InLeaf, InLabel, UpTo, InNames, IsBraced, InBraced, InPragma, InPragmaList, InPragmas}
use Rattle.sig_parse.proofs.RefusedConstants.{some_name, some_leaf}
use Rattle.sig_parse.proofs.PassedLanguages.{Leads, Then, leads_refuses, settles_on, refuses_where, apart_nothing, then_first, leads_stopped, leads_alone, settled_once, Leaf_of, leaf_once, leads_leaf}
use Rattle.sig_parse.proofs.RefusedDeclarations.{Always}
use Rattle.sig_parse.proofs.ClosedRows.{closes_next}
use Rattle.sig_parse.proofs.Enclosures.{up_to_once, up_to_covered, each_refused, each_read, optional_refused, optional_settled, optional_missing, leaf_next}

-- names in braces
abbrev NameList : List Name → List Leaf → Type 0
NameList names leaves = Separated IsName (mark (codes ",")) names leaves

abbrev ContinuesNames : Terminal → Type 0
ContinuesNames t = ContinuesList (mark (codes ",")) ContinuesNothing t

abbrev Braces : Limits → List Leaf → Type 0
Braces limits leaves = Then (Leaf_of (mark (codes "{"))) (Then (Always NameList) (InLeaf (mark (codes "}")))) limits leaves

braced_of : (limits : Limits) (leaves : List Leaf) → Braces limits leaves → InBraced limits leaves
braced_of limits leaves (opened, front, back, e, f, (names, inside, last, g, are, (closed, h))) =
    (names, (opened, closed, inside, e ∙ ap (λ ls. ls ++ back) f ∙ ap (λ ls. leaf (mark (codes "{")) opened ∷ ls) (g ∙ ap (λ ls. inside ++ ls) h), are))

of_braced : (limits : Limits) (leaves : List Leaf) → InBraced limits leaves → Braces limits leaves
of_braced limits leaves (names, (opened, closed, inside, e, are)) =
    (opened, leaf (mark (codes "{")) opened ∷ [], inside ++ leaf (mark (codes "}")) closed ∷ [], e, refl, (names, inside, leaf (mark (codes "}")) closed ∷ [], refl, are, (closed, refl)))

names_closed : ContinuesNames (mark (codes "}")) → ⊥
names_closed (inl e) = different (mark (codes "}")) (mark (codes ",")) refl refl e
names_closed (inr none) = none

closing_apart : (limits : Limits) (leaves back : List Leaf) → InLeaf (mark (codes "}")) limits leaves → StopsBefore ContinuesNothing back → StopsBefore ContinuesNames (leaves ++ back)
closing_apart limits leaves back (at, e) stops = subst (λ (ls : List Leaf). StopsBefore ContinuesNames (ls ++ back)) (sym e) names_closed

abbrev NamesThen : Limits → List Leaf → Type 0
NamesThen limits leaves = Then (Always NameList) (InLeaf (mark (codes "}"))) limits leaves

as_braced : {cause : Cause} {here after : List Leaf} → Refuses Braces ContinuesNothing cause here after → Refuses InBraced ContinuesNothing cause here after
as_braced {here = here} r = refuses_where Braces InBraced ContinuesNothing ContinuesNothing braced_of (λ back stops. stops) here (λ limits whole back is stops same. of_braced limits whole is) r

pub braced_open : {cause : Cause} {here after : List Leaf} → Refuses (InLeaf (mark (codes "{"))) ContinuesNothing cause here after → Refuses InBraced ContinuesNothing cause here after
braced_open r = as_braced (then_first (Leaf_of (mark (codes "{"))) ContinuesNothing NamesThen ContinuesNothing (apart_nothing NamesThen ContinuesNothing) (some_leaf ∷ leaf (mark (codes "}")) no_place ∷ [])
    (λ limits. (some_name ∷ [], some_leaf ∷ [], leaf (mark (codes "}")) no_place ∷ [], refl, (some_leaf ∷ [], [], refl, refl, refl), (no_place, refl))) r)

pub braced_inside : (opened : Span) {cause : Cause} {s t : State} {after : List Leaf} → Covers (IsLeaf (mark (codes "{")) opened) s t
    → Refuses InNames ContinuesNames cause t.leaves after → Refuses InBraced ContinuesNothing cause s.leaves after
braced_inside opened c r = as_braced (leads_refuses (leads_leaf (mark (codes "{")) NamesThen ContinuesNothing opened c)
    (then_first (Always NameList) ContinuesNames (InLeaf (mark (codes "}"))) ContinuesNothing closing_apart (leaf (mark (codes "}")) no_place ∷ []) (λ limits. (no_place, refl)) r))

pub braced_close : (opened : Span) (names : List Name) {cause : Cause} {s t u : State} {after : List Leaf} → Covers (IsLeaf (mark (codes "{")) opened) s t → Covers (NameList names) t u → StopsBefore ContinuesNames u.leaves
    → Refuses (InLeaf (mark (codes "}"))) ContinuesNothing cause u.leaves after → Refuses InBraced ContinuesNothing cause s.leaves after
braced_close opened names c d stops r = as_braced (leads_refuses (leads_leaf (mark (codes "{")) NamesThen ContinuesNothing opened c)
    (leads_refuses (leads_stopped (Always NameList) ContinuesNames (InLeaf (mark (codes "}"))) ContinuesNothing closing_apart (λ limits x leaves is. is) (λ limits x leaves is. is) names_once names d stops) r))

braced_once : OneReading IsBraced ContinuesNothing
braced_once = between_once NameList ContinuesNames names_once (mark (codes "{")) (mark (codes "}")) names_closed

-- "RunOn", names in braces and a label
abbrev RunsOn : Limits → List Leaf → Type 0
RunsOn limits leaves = Then (Leaf_of (name (codes "RunOn"))) (Then (Always IsBraced) InLabel) limits leaves

abbrev BracedThen : Limits → List Leaf → Type 0
BracedThen limits leaves = Then (Always IsBraced) InLabel limits leaves

pragma_of : (limits : Limits) (leaves : List Leaf) → RunsOn limits leaves → InPragma limits leaves
pragma_of limits leaves (at, front, back, e, f, (names, inside, last, g, are, (text, (labelled, h)))) =
    (record { names = names; label = text; at = at }, (labelled, inside, e ∙ ap (λ ls. ls ++ back) f ∙ ap (λ ls. leaf (name (codes "RunOn")) at ∷ ls) (g ∙ ap (λ ls. inside ++ ls) h), are))

of_pragma : (limits : Limits) (leaves : List Leaf) → InPragma limits leaves → RunsOn limits leaves
of_pragma limits leaves (pragma, (labelled, names, e, are)) =
    (pragma.at, leaf (name (codes "RunOn")) pragma.at ∷ [], names ++ leaf (label pragma.label) labelled ∷ [], e, refl, (pragma.names, names, leaf (label pragma.label) labelled ∷ [], refl, are, (pragma.label, (labelled, refl))))

as_pragma : {cause : Cause} {here after : List Leaf} → Refuses RunsOn ContinuesNothing cause here after → Refuses InPragma ContinuesNothing cause here after
as_pragma {here = here} r = refuses_where RunsOn InPragma ContinuesNothing ContinuesNothing pragma_of (λ back stops. stops) here (λ limits whole back is stops same. of_pragma limits whole is) r

abbrev some_braced : List Leaf
some_braced = leaf (mark (codes "{")) no_place ∷ some_leaf ∷ leaf (mark (codes "}")) no_place ∷ []

abbrev some_label : Leaf
some_label = leaf (label []) no_place

pub pragma_first : {cause : Cause} {here after : List Leaf} → Refuses (InLeaf (name (codes "RunOn"))) ContinuesNothing cause here after → Refuses InPragma ContinuesNothing cause here after
pragma_first r = as_pragma (then_first (Leaf_of (name (codes "RunOn"))) ContinuesNothing BracedThen ContinuesNothing (apart_nothing BracedThen ContinuesNothing) (some_braced ++ some_label ∷ [])
    (λ limits. (some_name ∷ [], some_braced, some_label ∷ [], refl, (no_place, no_place, some_leaf ∷ [], refl, (some_leaf ∷ [], [], refl, refl, refl)), ([], (no_place, refl)))) r)

pub pragma_names : (at : Span) {cause : Cause} {s t : State} {after : List Leaf} → Covers (IsLeaf (name (codes "RunOn")) at) s t → Refuses InBraced ContinuesNothing cause t.leaves after → Refuses InPragma ContinuesNothing cause s.leaves after
pragma_names at c r = as_pragma (leads_refuses (leads_leaf (name (codes "RunOn")) BracedThen ContinuesNothing at c)
    (then_first (Always IsBraced) ContinuesNothing InLabel ContinuesNothing (apart_nothing InLabel ContinuesNothing) (some_label ∷ []) (λ limits. ([], (no_place, refl))) r))

pub pragma_label : (at : Span) (names : List Name) {cause : Cause} {s t u : State} {after : List Leaf} → Covers (IsLeaf (name (codes "RunOn")) at) s t → Covers (IsBraced names) t u
    → Refuses InLabel ContinuesNothing cause u.leaves after → Refuses InPragma ContinuesNothing cause s.leaves after
pragma_label at names c d r = as_pragma (leads_refuses (leads_leaf (name (codes "RunOn")) BracedThen ContinuesNothing at c)
    (leads_refuses (leads_alone (Always IsBraced) InLabel ContinuesNothing braced_once (λ limits x leaves is. is) (λ limits x leaves is. is) names d) r))

-- { pragma } "end"
end_apart : BeginsPlacement (word (codes "end")) → ⊥
end_apart e = cc

abbrev pub LeadsPragmas : (before after : List Leaf) → Type 0
LeadsPragmas before after = Leads InPragmaList ContinuesNothing InPragmaList ContinuesNothing before after

pub pragma_list_item : {cause : Cause} {here after : List Leaf} → StopsBefore (λ t. t ≡ word (codes "end")) here → Refuses InPragma ContinuesNothing cause here after → Refuses InPragmaList ContinuesNothing cause here after
pragma_list_item stopped r = each_refused IsPlacement placement_once (word (codes "end")) stopped r

pub pragma_list_more : (pragma : Placement) {s t : State} → StopsBefore (λ u. u ≡ word (codes "end")) s.leaves → Covers (IsPlacement pragma) s t → LeadsPragmas s.leaves t.leaves
pragma_list_more pragma stopped c = each_read IsPlacement placement_once (word (codes "end")) pragma stopped c

pub pragma_list_ends : {here : List Leaf} → StartsWith (λ t. t ≡ word (codes "end")) here → Closes InPragmaList (word (codes "end")) here here
pragma_list_ends next = closes_next InPragmaList (word (codes "end")) next

-- "pragmas" { pragma } "end" "pragmas"
abbrev Listing : List Placement → List Leaf → Type 0
Listing pragmas leaves = UpTo (word (codes "end")) (Each IsPlacement) pragmas leaves

abbrev ListingThen : Limits → List Leaf → Type 0
ListingThen limits leaves = Then (Always Listing) (InLeaf (word (codes "pragmas"))) limits leaves

abbrev Pragmas : Limits → List Leaf → Type 0
Pragmas limits leaves = Then (Leaf_of (word (codes "pragmas"))) ListingThen limits leaves

pragmas_of : (limits : Limits) (leaves : List Leaf) → Pragmas limits leaves → InPragmas limits leaves
pragmas_of limits leaves (first, front, back, e, f, (pragmas, middle, last, g, (ended, inside, h, are), (closed, k))) = (
  pragmas,
  inr (
    first,
    ended,
    closed,
    inside,
    e ∙ ap (λ ls. ls ++ back) f ∙ ap (λ ls. leaf (word (codes "pragmas")) first ∷ ls) (g ∙ ap (λ ls. ls ++ last) h ∙ append_assoc inside (leaf (word (codes "end")) ended ∷ []) last ∙ ap (λ ls. inside ++ leaf (word (codes "end")) ended ∷ ls) k),
    are,
  ),
)

of_pragmas : (limits : Limits) (leaves : List Leaf) → InPragmas limits leaves → (leaves ≡ []) ⊎ Pragmas limits leaves
of_pragmas limits leaves (pragmas, inl (none, e)) = inl e
of_pragmas limits leaves (pragmas, inr (first, ended, last, inside, e, are)) = inr (
  first,
  leaf (word (codes "pragmas")) first ∷ [],
  inside ++ leaf (word (codes "end")) ended ∷ leaf (word (codes "pragmas")) last ∷ [],
  e,
  refl,
  (pragmas, inside ++ leaf (word (codes "end")) ended ∷ [], leaf (word (codes "pragmas")) last ∷ [], sym (append_assoc inside (leaf (word (codes "end")) ended ∷ []) (leaf (word (codes "pragmas")) last ∷ [])), (ended, inside, refl, are), (last, refl)),
)

pragmas_start : (limits : Limits) (leaves : List Leaf) → Pragmas limits leaves → StartsWith (λ t. t ≡ word (codes "pragmas")) leaves
pragmas_start limits leaves (first, front, back, e, f, rest) = subst (λ (ls : List Leaf). StartsWith (λ t. t ≡ word (codes "pragmas")) ls) (sym (e ∙ ap (λ ls. ls ++ back) f)) refl

as_pragmas : {cause : Cause} {here after : List Leaf} → StartsWith (λ t. t ≡ word (codes "pragmas")) here → Refuses Pragmas ContinuesNothing cause here after → Refuses InPragmas (ContinuesOptional (word (codes "pragmas"))) cause here after
as_pragmas next r = optional_refused InPragmas Pragmas (word (codes "pragmas")) pragmas_of of_pragmas pragmas_start next r

listing_once : OneReading Listing ContinuesNothing
listing_once = up_to_once (Each IsPlacement) (word (codes "end")) ContinuesPlacements pragma_list_once end_apart

listing_leads : (ps : List Placement) (ended : Span) {s t u : State} → Covers (Each IsPlacement ps) s t → Covers (IsLeaf (word (codes "end")) ended) t u
    → Leads ListingThen ContinuesNothing (InLeaf (word (codes "pragmas"))) ContinuesNothing s.leaves u.leaves
listing_leads ps ended c d = leads_alone (Always Listing) (InLeaf (word (codes "pragmas"))) ContinuesNothing listing_once (λ limits x leaves is. is) (λ limits x leaves is. is) ps
    (up_to_covered (Each IsPlacement) (word (codes "end")) ps ended c d)

pub pragmas_missing : {here : List Leaf} → StopsBefore (λ t. t ≡ word (codes "pragmas")) here → Settles InPragmas (ContinuesOptional (word (codes "pragmas"))) here here
pragmas_missing stopped = optional_missing InPragmas Pragmas (word (codes "pragmas")) pragmas_of of_pragmas pragmas_start stopped

list_behind : {cause : Cause} {here after : List Leaf} → Refuses InPragmaList ContinuesNothing cause here after → Refuses ListingThen ContinuesNothing cause here after
list_behind r = then_first (Always Listing) ContinuesNothing (InLeaf (word (codes "pragmas"))) ContinuesNothing (apart_nothing (InLeaf (word (codes "pragmas"))) ContinuesNothing) (leaf (word (codes "pragmas")) no_place ∷ []) (λ limits. (no_place, refl)) r

pub pragmas_inside : (first : Span) {cause : Cause} {s t : State} {after : List Leaf} → Covers (IsLeaf (word (codes "pragmas")) first) s t
    → Refuses InPragmaList ContinuesNothing cause t.leaves after → Refuses InPragmas (ContinuesOptional (word (codes "pragmas"))) cause s.leaves after
pragmas_inside first c r = as_pragmas (leaf_next (word (codes "pragmas")) first c) (leads_refuses (leads_leaf (word (codes "pragmas")) ListingThen ContinuesNothing first c) (list_behind r))

pub pragmas_last : (first : Span) (ps : List Placement) (ended : Span) {cause : Cause} {s t u v : State} {after : List Leaf} → Covers (IsLeaf (word (codes "pragmas")) first) s t
    → Covers (Each IsPlacement ps) t u → Covers (IsLeaf (word (codes "end")) ended) u v
    → Refuses (InLeaf (word (codes "pragmas"))) ContinuesNothing cause v.leaves after → Refuses InPragmas (ContinuesOptional (word (codes "pragmas"))) cause s.leaves after
pragmas_last first ps ended c d k r = as_pragmas (leaf_next (word (codes "pragmas")) first c) (leads_refuses (leads_leaf (word (codes "pragmas")) ListingThen ContinuesNothing first c) (leads_refuses (listing_leads ps ended d k) r))

pub pragmas_settled : (first : Span) (ps : List Placement) (ended last : Span) {s t u v w : State} → Covers (IsLeaf (word (codes "pragmas")) first) s t
    → Covers (Each IsPlacement ps) t u → Covers (IsLeaf (word (codes "end")) ended) u v → Covers (IsLeaf (word (codes "pragmas")) last) v w
    → Settles InPragmas (ContinuesOptional (word (codes "pragmas"))) s.leaves w.leaves
pragmas_settled first ps ended last {w = w} c d k l = optional_settled InPragmas Pragmas (word (codes "pragmas")) pragmas_of of_pragmas pragmas_start (leaf_next (word (codes "pragmas")) first c)
    (settles_on (leads_leaf (word (codes "pragmas")) ListingThen ContinuesNothing first c) (settles_on (listing_leads ps ended d k)
    (settled_once (Leaf_of (word (codes "pragmas"))) ContinuesNothing (leaf_once (word (codes "pragmas"))) (λ limits x leaves is. is) last l (stops_nothing w.leaves))))

-- What is refused of the headings of processes and of local groups, and what was read of them, from their
-- parts.
use Rattle.sig_parse.proofs.Common.{◌≡◌, ◌++◌, ◌⊎◌, List, [], ◌∷◌, codes, inl, inr, refl, sym, ap, ◌∙◌, subst, append_assoc, Span, Name, Declared, Terminal, Leaf, leaf, name_leaf, word, mark, Limits, IsName, AreGroups, StartsWith, StopsBefore, OneReading, ContinuesNothing, ContinuesOptional, ContinuesGroups, no_place, name_once, stops_nothing, param_groups_once, plain_groups_once, item_groups_once, Declares, Parameters, Inputs, Signals, IsGroupOf, State, Covers, IsLeaf, Cause, Refuses, Settles, InLeaf, InName, UpTo, InGroup, InGroups, ContinuesItems, EndsGroups, InParams, InInterface, InTitle, InLocalGroup}
use Rattle.sig_parse.proofs.RefusedConstants.{some_name, some_leaf}
use Rattle.sig_parse.proofs.PassedLanguages.{Leads, Then, Apart, leads_refuses, leads_on, settles_on, refuses_where, apart_nothing, then_first, leads_settled, leads_alone, settled_once, Leaf_of, leads_leaf}
use Rattle.sig_parse.proofs.RefusedDeclarations.{Always}
use Rattle.sig_parse.proofs.RefusedGroups.{ending_mark, ending_semicolon, ending_continues, semicolon_continues}
use Rattle.sig_parse.proofs.Enclosures.{up_to_once, up_to_covered, optional_refused, optional_settled, optional_missing, leaf_next}

-- groups up to the mark that ends them
abbrev GroupsTo : Declares → Terminal → List Declared → List Leaf → Type 0
GroupsTo declares closing groups leaves = UpTo closing (AreGroups (IsGroupOf declares)) groups leaves

groups_once : (declares : Declares) → OneReading (AreGroups (IsGroupOf declares)) (ContinuesGroups (ContinuesItems declares))
groups_once Parameters = param_groups_once
groups_once Inputs = plain_groups_once
groups_once Signals = item_groups_once

module _ (declares : Declares) (closing : Terminal) (ends : EndsGroups closing) where
  groups_apart : ContinuesGroups (ContinuesItems declares) closing → ⊥
  groups_apart (inl begins) = ending_mark closing ends begins
  groups_apart (inr (inl e)) = ending_semicolon closing ends e
  groups_apart (inr (inr continues)) = ending_continues declares closing ends continues

  closed_once : OneReading (GroupsTo declares closing) ContinuesNothing
  closed_once = up_to_once (AreGroups (IsGroupOf declares)) closing (ContinuesGroups (ContinuesItems declares)) (groups_once declares) groups_apart

-- "{" params "}"
abbrev Braces : Limits → List Leaf → Type 0
Braces limits leaves = Then (Leaf_of (mark (codes "{"))) (InGroups Parameters (mark (codes "}"))) limits leaves

params_of : (limits : Limits) (leaves : List Leaf) → Braces limits leaves → InParams limits leaves
params_of limits leaves (opened, front, back, e, f, (groups, (closed, inside, g, are))) =
    (groups, inr (opened, closed, inside, e ∙ ap (λ ls. ls ++ back) f ∙ ap (λ ls. leaf (mark (codes "{")) opened ∷ ls) g, are))

of_params : (limits : Limits) (leaves : List Leaf) → InParams limits leaves → (leaves ≡ []) ⊎ Braces limits leaves
of_params limits leaves (groups, inl (none, e)) = inl e
of_params limits leaves (groups, inr (opened, closed, inside, e, are)) =
    inr (opened, leaf (mark (codes "{")) opened ∷ [], inside ++ leaf (mark (codes "}")) closed ∷ [], e, refl, (groups, (closed, inside, refl, are)))

params_start : (limits : Limits) (leaves : List Leaf) → Braces limits leaves → StartsWith (λ t. t ≡ mark (codes "{")) leaves
params_start limits leaves (opened, front, back, e, f, rest) = subst (λ (ls : List Leaf). StartsWith (λ t. t ≡ mark (codes "{")) ls) (sym (e ∙ ap (λ ls. ls ++ back) f)) refl

pub params_missing : {here : List Leaf} → StopsBefore (λ t. t ≡ mark (codes "{")) here → Settles InParams (ContinuesOptional (mark (codes "{"))) here here
params_missing stopped = optional_missing InParams Braces (mark (codes "{")) params_of of_params params_start stopped

pub params_inside : (opened : Span) {cause : Cause} {s t : State} {after : List Leaf} → Covers (IsLeaf (mark (codes "{")) opened) s t
    → Refuses (InGroups Parameters (mark (codes "}"))) ContinuesNothing cause t.leaves after → Refuses InParams (ContinuesOptional (mark (codes "{"))) cause s.leaves after
params_inside opened c r = optional_refused InParams Braces (mark (codes "{")) params_of of_params params_start (leaf_next (mark (codes "{")) opened c)
    (leads_refuses (leads_leaf (mark (codes "{")) (InGroups Parameters (mark (codes "}"))) ContinuesNothing opened c) r)

pub params_settled : (opened : Span) (groups : List Declared) (closed : Span) {s t u v : State} → Covers (IsLeaf (mark (codes "{")) opened) s t → Covers (AreGroups (IsGroupOf Parameters) groups) t u → Covers (IsLeaf (mark (codes "}")) closed) u v
    → Settles InParams (ContinuesOptional (mark (codes "{"))) s.leaves v.leaves
params_settled opened groups closed {v = v} c d k = optional_settled InParams Braces (mark (codes "{")) params_of of_params params_start (leaf_next (mark (codes "{")) opened c)
    (settles_on (leads_leaf (mark (codes "{")) (InGroups Parameters (mark (codes "}"))) ContinuesNothing opened c)
    (settled_once (Always (GroupsTo Parameters (mark (codes "}")))) ContinuesNothing (closed_once Parameters (mark (codes "}")) (inl refl)) (λ limits x leaves is. is) groups
    (up_to_covered (AreGroups (IsGroupOf Parameters)) (mark (codes "}")) groups closed d k) (stops_nothing v.leaves)))

-- "(" "?" inputs "!" outputs ")"
abbrev Outputs : Limits → List Leaf → Type 0
Outputs limits leaves = InGroups Signals (mark (codes ")")) limits leaves

abbrev InputsThen : Limits → List Leaf → Type 0
InputsThen limits leaves = Then (Always (GroupsTo Inputs (mark (codes "!")))) Outputs limits leaves

abbrev AskedThen : Limits → List Leaf → Type 0
AskedThen limits leaves = Then (Leaf_of (mark (codes "?"))) InputsThen limits leaves

abbrev Sides : Limits → List Leaf → Type 0
Sides limits leaves = Then (Leaf_of (mark (codes "("))) AskedThen limits leaves

interface_of : (limits : Limits) (leaves : List Leaf) → Sides limits leaves → InInterface limits leaves
interface_of limits leaves (opened, a, b, e, f, (asked, c, d, g, h, (inputs, m, n, k, (answered, front, l, are_inputs), (outputs, (closed, back, o, are_outputs))))) = (
  (inputs, outputs),
  (
    opened,
    closed,
    leaf (mark (codes "?")) asked ∷ (front ++ leaf (mark (codes "!")) answered ∷ back),
    e ∙ ap (λ ls. ls ++ b) f ∙ ap (λ ls. leaf (mark (codes "(")) opened ∷ ls) (g ∙ ap (λ ls. ls ++ d) h ∙ ap (λ ls. leaf (mark (codes "?")) asked ∷ ls)
        (k ∙ ap (λ ls. ls ++ n) l ∙ append_assoc front (leaf (mark (codes "!")) answered ∷ []) n ∙ ap (λ ls. front ++ leaf (mark (codes "!")) answered ∷ ls) o
        ∙ sym (append_assoc front (leaf (mark (codes "!")) answered ∷ back) (leaf (mark (codes ")")) closed ∷ [])))),
    (asked, answered, front, back, refl, are_inputs, are_outputs),
  ),
)

of_interface : (limits : Limits) (leaves : List Leaf) → InInterface limits leaves → Sides limits leaves
of_interface limits leaves ((inputs, outputs), (opened, closed, inside, e, (asked, answered, front, back, f, are_inputs, are_outputs))) =
    let last = leaf (mark (codes ")")) closed in
    let answer = leaf (mark (codes "!")) answered in (
      opened,
      leaf (mark (codes "(")) opened ∷ [],
      leaf (mark (codes "?")) asked ∷ (front ++ answer ∷ (back ++ last ∷ [])),
      e ∙ ap (λ ls. leaf (mark (codes "(")) opened ∷ (ls ++ last ∷ [])) f ∙ ap (λ ls. leaf (mark (codes "(")) opened ∷ leaf (mark (codes "?")) asked ∷ ls) (append_assoc front (answer ∷ back) (last ∷ [])),
      refl,
      (
        asked,
        leaf (mark (codes "?")) asked ∷ [],
        front ++ answer ∷ (back ++ last ∷ []),
        refl,
        refl,
        (inputs, front ++ answer ∷ [], back ++ last ∷ [], sym (append_assoc front (answer ∷ []) (back ++ last ∷ [])), (answered, front, refl, are_inputs), (outputs, (closed, back, refl, are_outputs))),
      ),
    )

as_interface : {cause : Cause} {here after : List Leaf} → Refuses Sides ContinuesNothing cause here after → Refuses InInterface ContinuesNothing cause here after
as_interface {here = here} r = refuses_where Sides InInterface ContinuesNothing ContinuesNothing interface_of (λ back stops. stops) here (λ limits whole back is stops same. of_interface limits whole is) r

some_outputs : (limits : Limits) → Outputs limits (leaf (mark (codes ")")) no_place ∷ [])
some_outputs limits = ([], (no_place, [], refl, refl))

some_inputs : (limits : Limits) → InputsThen limits (leaf (mark (codes "!")) no_place ∷ leaf (mark (codes ")")) no_place ∷ [])
some_inputs limits = ([], leaf (mark (codes "!")) no_place ∷ [], leaf (mark (codes ")")) no_place ∷ [], refl, (no_place, [], refl, refl), some_outputs limits)

some_asked : (limits : Limits) → AskedThen limits (leaf (mark (codes "?")) no_place ∷ leaf (mark (codes "!")) no_place ∷ leaf (mark (codes ")")) no_place ∷ [])
some_asked limits = (no_place, leaf (mark (codes "?")) no_place ∷ [], leaf (mark (codes "!")) no_place ∷ leaf (mark (codes ")")) no_place ∷ [], refl, refl, some_inputs limits)

pub interface_open : {cause : Cause} {here after : List Leaf} → Refuses (InLeaf (mark (codes "("))) ContinuesNothing cause here after → Refuses InInterface ContinuesNothing cause here after
interface_open r = as_interface (then_first (Leaf_of (mark (codes "("))) ContinuesNothing AskedThen ContinuesNothing (apart_nothing AskedThen ContinuesNothing) _ some_asked r)

module _ (opened : Span) {s t : State} (c : Covers (IsLeaf (mark (codes "(")) opened) s t) where
  pub interface_asked : {cause : Cause} {after : List Leaf} → Refuses (InLeaf (mark (codes "?"))) ContinuesNothing cause t.leaves after → Refuses InInterface ContinuesNothing cause s.leaves after
  interface_asked r = as_interface (leads_refuses (leads_leaf (mark (codes "(")) AskedThen ContinuesNothing opened c)
      (then_first (Leaf_of (mark (codes "?"))) ContinuesNothing InputsThen ContinuesNothing (apart_nothing InputsThen ContinuesNothing) _ some_inputs r))

  module _ (asked : Span) {u : State} (d : Covers (IsLeaf (mark (codes "?")) asked) t u) where
    to_inputs : Leads Sides ContinuesNothing InputsThen ContinuesNothing s.leaves u.leaves
    to_inputs = leads_on (leads_leaf (mark (codes "(")) AskedThen ContinuesNothing opened c) (leads_leaf (mark (codes "?")) InputsThen ContinuesNothing asked d)

    pub interface_inputs : {cause : Cause} {after : List Leaf} → Refuses (InGroups Inputs (mark (codes "!"))) ContinuesNothing cause u.leaves after → Refuses InInterface ContinuesNothing cause s.leaves after
    interface_inputs r = as_interface (leads_refuses to_inputs
        (then_first (Always (GroupsTo Inputs (mark (codes "!")))) ContinuesNothing Outputs ContinuesNothing (apart_nothing Outputs ContinuesNothing) _ some_outputs r))

    pub interface_outputs : (inputs : List Declared) (answered : Span) {v w : State} → Covers (AreGroups (IsGroupOf Inputs) inputs) u v → Covers (IsLeaf (mark (codes "!")) answered) v w → {cause : Cause} {after : List Leaf}
        → Refuses (InGroups Signals (mark (codes ")"))) ContinuesNothing cause w.leaves after → Refuses InInterface ContinuesNothing cause s.leaves after
    interface_outputs inputs answered k l r = as_interface (leads_refuses to_inputs (leads_refuses
        (leads_alone (Always (GroupsTo Inputs (mark (codes "!")))) Outputs ContinuesNothing (closed_once Inputs (mark (codes "!")) (inr (inl refl))) (λ limits x leaves is. is) (λ limits x leaves is. is) inputs
        (up_to_covered (AreGroups (IsGroupOf Inputs)) (mark (codes "!")) inputs answered k l)) r))

-- "process" NAME "="
abbrev NameThen : Limits → List Leaf → Type 0
NameThen limits leaves = Then (Always IsName) (InLeaf (mark (codes "="))) limits leaves

abbrev Titled : Limits → List Leaf → Type 0
Titled limits leaves = Then (Leaf_of (word (codes "process"))) NameThen limits leaves

title_of : (limits : Limits) (leaves : List Leaf) → Titled limits leaves → InTitle limits leaves
title_of limits leaves (begun, a, b, e, f, (n, c, d, g, is, (equals, h))) =
    (n, (begun, equals, e ∙ ap (λ ls. ls ++ b) f ∙ ap (λ ls. leaf (word (codes "process")) begun ∷ ls) (g ∙ ap (λ ls. ls ++ d) is ∙ ap (λ ls. name_leaf n ∷ ls) h)))

of_title : (limits : Limits) (leaves : List Leaf) → InTitle limits leaves → Titled limits leaves
of_title limits leaves (n, (begun, equals, e)) =
    (begun, leaf (word (codes "process")) begun ∷ [], name_leaf n ∷ leaf (mark (codes "=")) equals ∷ [], e, refl, (n, name_leaf n ∷ [], leaf (mark (codes "=")) equals ∷ [], refl, refl, (equals, refl)))

as_title : {cause : Cause} {here after : List Leaf} → Refuses Titled ContinuesNothing cause here after → Refuses InTitle ContinuesNothing cause here after
as_title {here = here} r = refuses_where Titled InTitle ContinuesNothing ContinuesNothing title_of (λ back stops. stops) here (λ limits whole back is stops same. of_title limits whole is) r

pub title_begun : {cause : Cause} {here after : List Leaf} → Refuses (InLeaf (word (codes "process"))) ContinuesNothing cause here after → Refuses InTitle ContinuesNothing cause here after
title_begun r = as_title (then_first (Leaf_of (word (codes "process"))) ContinuesNothing NameThen ContinuesNothing (apart_nothing NameThen ContinuesNothing) (some_leaf ∷ leaf (mark (codes "=")) no_place ∷ [])
    (λ limits. (some_name, some_leaf ∷ [], leaf (mark (codes "=")) no_place ∷ [], refl, refl, (no_place, refl))) r)

pub title_name : (begun : Span) {cause : Cause} {s t : State} {after : List Leaf} → Covers (IsLeaf (word (codes "process")) begun) s t → Refuses InName ContinuesNothing cause t.leaves after → Refuses InTitle ContinuesNothing cause s.leaves after
title_name begun c r = as_title (leads_refuses (leads_leaf (word (codes "process")) NameThen ContinuesNothing begun c)
    (then_first (Always IsName) ContinuesNothing (InLeaf (mark (codes "="))) ContinuesNothing (apart_nothing (InLeaf (mark (codes "="))) ContinuesNothing) (leaf (mark (codes "=")) no_place ∷ []) (λ limits. (no_place, refl)) r))

pub title_equals : (begun : Span) (n : Name) {cause : Cause} {s t u : State} {after : List Leaf} → Covers (IsLeaf (word (codes "process")) begun) s t → Covers (IsName n) t u
    → Refuses (InLeaf (mark (codes "="))) ContinuesNothing cause u.leaves after → Refuses InTitle ContinuesNothing cause s.leaves after
title_equals begun n c d r = as_title (leads_refuses (leads_leaf (word (codes "process")) NameThen ContinuesNothing begun c)
    (leads_refuses (leads_alone (Always IsName) (InLeaf (mark (codes "="))) ContinuesNothing name_once (λ limits x leaves is. is) (λ limits x leaves is. is) n d) r))

-- group ";"
abbrev GroupThen : Limits → List Leaf → Type 0
GroupThen limits leaves = Then (Always (IsGroupOf Signals)) (InLeaf (mark (codes ";"))) limits leaves

local_of : (limits : Limits) (leaves : List Leaf) → GroupThen limits leaves → InLocalGroup limits leaves
local_of limits leaves (g, front, back, e, is, (at, f)) = (g, (at, front, e ∙ ap (λ ls. front ++ ls) f, is))

of_local : (limits : Limits) (leaves : List Leaf) → InLocalGroup limits leaves → GroupThen limits leaves
of_local limits leaves (g, (at, front, e, is)) = (g, front, leaf (mark (codes ";")) at ∷ [], e, is, (at, refl))

local_apart : Apart (ContinuesItems Signals) (InLeaf (mark (codes ";"))) ContinuesNothing
local_apart limits leaves back (at, e) stops = subst (λ (ls : List Leaf). StopsBefore (ContinuesItems Signals) (ls ++ back)) (sym e) (semicolon_continues Signals)

as_local : {cause : Cause} {here after : List Leaf} → Refuses GroupThen ContinuesNothing cause here after → Refuses InLocalGroup ContinuesNothing cause here after
as_local {here = here} r = refuses_where GroupThen InLocalGroup ContinuesNothing ContinuesNothing local_of (λ back stops. stops) here (λ limits whole back is stops same. of_local limits whole is) r

pub local_group_inside : {cause : Cause} {here after : List Leaf} → Refuses (InGroup Signals) (ContinuesItems Signals) cause here after → Refuses InLocalGroup ContinuesNothing cause here after
local_group_inside r = as_local (then_first (Always (IsGroupOf Signals)) (ContinuesItems Signals) (InLeaf (mark (codes ";"))) ContinuesNothing local_apart (leaf (mark (codes ";")) no_place ∷ []) (λ limits. (no_place, refl)) r)

pub local_group_end : (g : Declared) {cause : Cause} {s t : State} {after : List Leaf} → Covers (IsGroupOf Signals g) s t → Settles (InGroup Signals) (ContinuesItems Signals) s.leaves t.leaves
    → Refuses (InLeaf (mark (codes ";"))) ContinuesNothing cause t.leaves after → Refuses InLocalGroup ContinuesNothing cause s.leaves after
local_group_end g c k r = as_local (leads_refuses (leads_settled (Always (IsGroupOf Signals)) (ContinuesItems Signals) (InLeaf (mark (codes ";"))) ContinuesNothing local_apart (λ limits x leaves is. is) (λ limits x leaves is. is) g c k) r)

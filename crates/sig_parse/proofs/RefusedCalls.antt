-- What is refused of calls, of their constants and of their arguments, where the parser stands.
use Rattle.sig_parse.proofs.Common.{◌≡◌, ◌++◌, ◌+◌, ◌≤◌, ◌<◌, ℕ, List, [], ◌∷◌, codes, map, sum_by, true, false, inl, inr, ◌⊎◌, refl, sym, ap, ◌∙◌, subst, arith, append-nil, Span, Name, Constant, Expression, RightSide, Computed, Called, Leaf, leaf, mark, name_leaf, default_level, Limits, both_limits, MayHave, operators, right_operators, Between, Listed, Separated, IsConstant, IsExpression, IsName, AreConstants, IsRight, StartsWith, BeginsName, BeginsConstant, BeginsLeft, StopsBefore, OneReading, ContinuesNothing, ContinuesOptional, ContinuesEach, ContinuesList, ContinuesExpression, ContinuesDefinition, no_place, different, constant_once, cons_same, between_once, listed_once, constant_begins, mark_apart, stops_nothing, names_once, call_or_expression, Opens, Refusal, State, Reads, IsLeaf, Cause, Wrong, TooDeep, Refuses, RefusedBy, Settles, Closes, BeginsCall, InLeaf, InOne, counted, InConstant, InConstantList, InConstants, InLevel, InArgumentList, InArguments, InRight, InLeft, InSome, UpTo, InNames, ReadsSeparated, RefusesSeparated}
use Rattle.sig_parse.proofs.PartRefusals.{SameFirst, refuses_first}
use Rattle.sig_parse.proofs.CoveredParts.{covered}
use Rattle.sig_parse.proofs.LiftedRefusals.{Lifts, leaf_split}
use Rattle.sig_parse.proofs.RefusedLevels.{fewer}
use Rattle.sig_parse.proofs.RefusedLists.{List_of, bracketed_from_closed, closed_from_inside, closed_from_end}
use Rattle.sig_parse.proofs.RefusedSides.{Name_of, Constant_of, no_operators, counted_sum, left_refused, left_too_deep, left_from_names, constants_from_list, right_from_expression}
use Rattle.sig_parse.proofs.RefusedNames.{ContinuesNames, counted_names}
use Rattle.sig_parse.proofs.Joins.{viewed}
use Rattle.sig_parse.proofs.Lists.{listed}
use Rattle.sig_parse.proofs.Rows.{none_of}
use Rattle.sig_parse.proofs.ReadRows.{plain_reads, plain_not_closed, plain_closes}
use Rattle.sig_parse.proofs.ClosedRows.{Closed}
use Rattle.sig_parse.proofs.ExpressionRows.{ExpressionRead, ExpressionRefused, expressions_so_far, enclosed_refused, enclosed_closes}
use Rattle.sig_parse.proofs.Enclosures.{optional_missing, optional_settled, leaf_next}
use Rattle.sig_parse.proofs.EnclosedParts.{between}
use Rattle.sig_parse.proofs.PassedLanguages.{Leads, Then, Apart, settled_once, leads_on, leads_refuses, leads_settled, then_first, refuses_as, starts_same}

-- Constants.

abbrev pub ConstantRead : Constant → State → State → Type 0
ConstantRead c s t = Reads (IsConstant c) 0 s t

abbrev pub ConstantRefused : Refusal → State → State → Type 0
ConstantRefused why s t = RefusedBy InConstant ContinuesNothing s t why

constant_settled : (c : Constant) (s t : State) → ConstantRead c s t → Settles (InSome IsConstant) ContinuesNothing s.leaves t.leaves
constant_settled c s t r = settled_once Constant_of ContinuesNothing constant_once (λ limits x leaves is. is) c (covered r) (stops_nothing t.leaves)

brace_apart : mark (codes ",") ≡ mark (codes "}") → ⊥
brace_apart e = different (mark (codes ",")) (mark (codes "}")) refl refl e

pub constants_read : (constants : List Constant) (s t : State) → ReadsSeparated ConstantRead (mark (codes ",")) constants s t → Reads (Listed IsConstant (mark (codes ",")) constants) 0 s t
constants_read constants s t h = viewed (Listed IsConstant (mark (codes ",")) constants) (λ front is. listed IsConstant (mark (codes ",")) constants front is)
    (plain_reads IsConstant ContinuesNothing (mark (codes ",")) (λ none. none) ConstantRead (λ c s t r. r) constant_settled s constants t h)

as_constant_list : {cause : Cause} {here after : List Leaf} → Refuses (InSome (UpTo (mark (codes "}")) (Listed IsConstant (mark (codes ","))))) ContinuesNothing cause here after → Refuses InConstantList ContinuesNothing cause here after
as_constant_list r = refuses_as (InSome (UpTo (mark (codes "}")) (Listed IsConstant (mark (codes ","))))) InConstantList ContinuesNothing (λ limits leaves is. (is.0, is.1.0, is.1.1, is.1.2, is.1.3)) (λ limits leaves is. (is.0, (is.1, is.2, is.3, is.4))) r

pub constants_refused : (why : Refusal) (s t : State) → StopsBefore (λ u. u ≡ mark (codes "}")) s.leaves → RefusesSeparated ConstantRead ConstantRefused (mark (codes ",")) s t why → RefusedBy InConstantList ContinuesNothing s t why
constants_refused why s t open_here h text = as_constant_list (plain_not_closed IsConstant ContinuesNothing (mark (codes ",")) (λ none. none) ConstantRead (λ c s t r. r) constant_settled ConstantRefused (λ why s t r text. r text) (mark (codes "}")) brace_apart (λ none. none) why s t open_here h text)

pub constants_end : (constants : List Constant) (s t : State) → StopsBefore (λ u. u ≡ mark (codes "}")) s.leaves → ReadsSeparated ConstantRead (mark (codes ",")) constants s t → Closes InConstantList (mark (codes "}")) s.leaves t.leaves
constants_end constants s t open_here h cause stopped r = as_constant_list (plain_closes IsConstant ContinuesNothing (mark (codes ",")) (λ none. none) ConstantRead (λ c s t r. r) constant_settled (mark (codes "}")) brace_apart (λ none. none) s constants t open_here h cause stopped r)

-- in braces
pub constants_lifts : (opened : Span) {s t : State} → Reads (IsLeaf (mark (codes "{")) opened) 0 s t → Lifts InConstantList ContinuesNothing t.leaves InConstants (ContinuesOptional (mark (codes "{"))) s.leaves
constants_lifts opened {s} {t} q cause after r = subst (λ (ls : List Leaf). Refuses InConstants (ContinuesOptional (mark (codes "{"))) cause ls after) (sym (leaf_split q))
    (constants_from_list opened cause t.leaves after (refuses_as InConstantList (Closed Constant_of none_of MayHave ContinuesNothing (mark (codes ",")) (mark (codes "}")) 0) ContinuesNothing
    (λ limits leaves is. (is.0, (is.1, is.2, is.3, is.4), λ kept. let none = no_operators is.0 in omega arith)) (λ limits leaves is. (is.0, is.1.0, is.1.1, is.1.2, is.1.3)) r))

abbrev Braced : Limits → List Leaf → Type 0
Braced limits leaves = (constants : List Constant) × Between (mark (codes "{")) (mark (codes "}")) (Listed IsConstant (mark (codes ",")) constants) leaves

braced_some : (limits : Limits) (leaves : List Leaf) → Braced limits leaves → InConstants limits leaves
braced_some limits leaves is = (is.0, inr is.1)

braced_or_none : (limits : Limits) (leaves : List Leaf) → InConstants limits leaves → (leaves ≡ []) ⊎ Braced limits leaves
braced_or_none limits leaves (cs, inl (none, e)) = inl e
braced_or_none limits leaves (cs, inr is) = inr (cs, is)

braced_begins : (limits : Limits) (leaves : List Leaf) → Braced limits leaves → StartsWith (λ t. t ≡ mark (codes "{")) leaves
braced_begins limits leaves (cs, (opened, closed, inside, e, are)) = subst (λ (ls : List Leaf). StartsWith (λ t. t ≡ mark (codes "{")) ls) (sym e) refl

begins_no_constant : BeginsConstant (mark (codes "}")) → ⊥
begins_no_constant (inl (inl e)) = different (mark (codes "}")) (mark (codes "-")) refl refl e
begins_no_constant (inl (inr (value, e))) = cc
begins_no_constant (inr (inl (true, e))) = cc
begins_no_constant (inr (inl (false, e))) = cc
begins_no_constant (inr (inr (text, e))) = cc

no_constant_goes_on : ContinuesEach BeginsConstant (ContinuesList (mark (codes ",")) ContinuesNothing) (mark (codes "}")) → ⊥
no_constant_goes_on (inl begins) = begins_no_constant begins
no_constant_goes_on (inr (inl e)) = brace_apart (sym e)
no_constant_goes_on (inr (inr none)) = none

braced_once : OneReading (λ constants leaves. Between (mark (codes "{")) (mark (codes "}")) (Listed IsConstant (mark (codes ",")) constants) leaves) ContinuesNothing
braced_once = between_once (Listed IsConstant (mark (codes ","))) (ContinuesEach BeginsConstant (ContinuesList (mark (codes ",")) ContinuesNothing))
    (listed_once IsConstant ContinuesNothing constant_once BeginsConstant constant_begins (mark (codes ",")) (λ none. none)) (mark (codes "{")) (mark (codes "}")) no_constant_goes_on

pub some_constants : (opened closed : Span) (constants : List Constant) {s t u v : State} → Reads (IsLeaf (mark (codes "{")) opened) 0 s t → Reads (Listed IsConstant (mark (codes ",")) constants) 0 t u → Reads (IsLeaf (mark (codes "}")) closed) 0 u v
    → Settles InConstants (ContinuesOptional (mark (codes "{"))) s.leaves v.leaves
some_constants opened closed constants {s} {t} {u} {v} q r p = optional_settled InConstants Braced (mark (codes "{")) braced_some braced_or_none braced_begins (leaf_next (mark (codes "{")) opened (covered q))
    (settled_once (λ limits constants leaves. Between (mark (codes "{")) (mark (codes "}")) (Listed IsConstant (mark (codes ",")) constants) leaves) ContinuesNothing braced_once (λ limits x leaves is. is) constants
    (covered (between (mark (codes "{")) (mark (codes "}")) (Listed IsConstant (mark (codes ",")) constants) 0 opened closed q r p)) (stops_nothing v.leaves))

pub constants_missing : {here : List Leaf} → StopsBefore (λ t. t ≡ mark (codes "{")) here → Settles InConstants (ContinuesOptional (mark (codes "{"))) here here
constants_missing stopped = optional_missing InConstants Braced (mark (codes "{")) braced_some braced_or_none braced_begins stopped

pub constants_close : (opened : Span) {s t : State} {here : List Leaf} → Reads (IsLeaf (mark (codes "{")) opened) 0 s t → Closes InConstantList (mark (codes "}")) t.leaves here
    → Lifts (InLeaf (mark (codes "}"))) ContinuesNothing here InConstants (ContinuesOptional (mark (codes "{"))) s.leaves
constants_close opened q closes cause after r = constants_lifts opened q cause after (closes cause after r)

-- the constants of a call, whatever the limits
abbrev pub Lists_constants : Limits → List Constant → List Leaf → Type 0
Lists_constants limits constants leaves = AreConstants constants leaves

-- Arguments.

parenthesis_apart : mark (codes ",") ≡ mark (codes ")") → ⊥
parenthesis_apart e = different (mark (codes ",")) (mark (codes ")")) refl refl e

module _ (depth : ℕ) where
  comma : ContinuesExpression default_level (mark (codes ",")) → ⊥
  comma continues = mark_apart (codes ",") refl default_level continues

  close : ContinuesExpression default_level (mark (codes ")")) → ⊥
  close continues = mark_apart (codes ")") refl default_level continues

  pub arguments_read : {B : Type 0} (expression_of : B → Expression) (arguments : List B) (s t : State) → ReadsSeparated (ExpressionRead expression_of depth) (mark (codes ",")) arguments s t
      → Reads (Listed (IsExpression both_limits depth) (mark (codes ",")) (map expression_of arguments)) (sum_by operators (map expression_of arguments)) s t
  arguments_read expression_of arguments s t (h, stops) = viewed (Listed (IsExpression both_limits depth) (mark (codes ",")) (map expression_of arguments))
      (λ front is. listed (IsExpression both_limits depth) (mark (codes ",")) (map expression_of arguments) front is) (expressions_so_far expression_of depth (mark (codes ",")) comma s arguments t h).0

  pub arguments_refused : {B : Type 0} (expression_of : B → Expression) (why : Refusal) (s t : State) → s.operators ≤ 512 → StopsBefore (λ u. u ≡ mark (codes ")")) s.leaves → RefusesSeparated (ExpressionRead expression_of depth) (ExpressionRefused expression_of depth) (mark (codes ",")) s t why
      → RefusedBy (InArgumentList depth s.operators) ContinuesNothing s t why
  arguments_refused expression_of why s t few open_here h = enclosed_refused expression_of depth (mark (codes ",")) comma (mark (codes ")")) parenthesis_apart close why s t few open_here h

  pub arguments_end : {B : Type 0} (expression_of : B → Expression) (arguments : List B) (s t : State) → s.operators ≤ 512 → StopsBefore (λ u. u ≡ mark (codes ")")) s.leaves → ReadsSeparated (ExpressionRead expression_of depth) (mark (codes ",")) arguments s t
      → Closes (InArgumentList depth s.operators) (mark (codes ")")) s.leaves t.leaves
  arguments_end expression_of arguments s t few open_here h = enclosed_closes expression_of depth (mark (codes ",")) comma (mark (codes ")")) parenthesis_apart close s arguments t few open_here h

  -- in parentheses
  pub arguments_opening : (used : ℕ) (here : List Leaf) → used ≤ 512 → Lifts (InLeaf (mark (codes "("))) ContinuesNothing here (InArguments depth used) ContinuesNothing here
  arguments_opening used here few cause after r =
      refuses_first (InLeaf (mark (codes "("))) (InArguments depth used) (leaf (mark (codes ")")) no_place ∷ [])
      (λ limits leaves is. ([], (is.0, no_place, [], ap (λ l. l ++ leaf (mark (codes ")")) no_place ∷ []) is.1, refl), λ kept. omega arith)) ContinuesNothing ContinuesNothing cause here after
      (λ limits whole back is stops same. (
        leaf (mark (codes "(")) is.1.0 ∷ [],
        (is.1.2 ++ leaf (mark (codes ")")) is.1.1 ∷ []) ++ back,
        ap (λ l. l ++ back) is.1.3,
        (is.1.0, refl),
        stops_nothing ((is.1.2 ++ leaf (mark (codes ")")) is.1.1 ∷ []) ++ back),
      )) r

  pub arguments_lift : (opened : Span) {s t : State} → Reads (IsLeaf (mark (codes "(")) opened) 0 s t → Lifts (InArgumentList depth t.operators) ContinuesNothing t.leaves (InArguments depth s.operators) ContinuesNothing s.leaves
  arguments_lift opened {s} {t} q cause after r = subst (λ (ls : List Leaf). Refuses (InArguments depth s.operators) ContinuesNothing cause ls after) (sym (leaf_split q))
      (bracketed_from_closed (λ limits xs leaves. Listed (IsExpression limits depth) (mark (codes ",")) xs leaves) (counted operators) s.operators (mark (codes "(")) (mark (codes ")")) opened cause t.leaves after
      (subst (λ (n : ℕ). Refuses (InArgumentList depth n) ContinuesNothing cause t.leaves after) (omega (arith, q.counted)) r))

  pub arguments_close : (opened : Span) {s t : State} {here : List Leaf} → Reads (IsLeaf (mark (codes "(")) opened) 0 s t → Closes (InArgumentList depth t.operators) (mark (codes ")")) t.leaves here
      → Lifts (InLeaf (mark (codes ")"))) ContinuesNothing here (InArguments depth s.operators) ContinuesNothing s.leaves
  arguments_close opened q closes cause after r = arguments_lift opened q cause after (closes cause after r)

  -- Calls.

  abbrev pub BehindName : ℕ → Limits → List Leaf → Type 0
  BehindName used limits leaves = Then Lists_constants (InArguments depth used) limits leaves

  arguments_begin : (used : ℕ) → Apart (ContinuesOptional (mark (codes "{"))) (InArguments depth used) ContinuesNothing
  arguments_begin used limits leaves back (arguments, (opened, closed, inside, e, are), fits) stops =
      subst (λ (ls : List Leaf). StopsBefore (ContinuesOptional (mark (codes "{"))) (ls ++ back)) (sym e) (different (mark (codes "(")) (mark (codes "{")) refl refl)

  pub call_begun : (used : ℕ) (n : Name) {s t : State} → Reads (IsName n) 0 s t → StartsWith Opens t.leaves → Leads (InRight depth used) ContinuesDefinition (BehindName used) ContinuesNothing s.leaves t.leaves
  call_begun used n {s} {t} r opens = record {
    front = name_leaf n ∷ [];
    split = r.split ∙ ap (λ ls. ls ++ t.leaves) r.is;
    extend = λ limits leaves (constants, first, last, e, are, (arguments, are_arguments, fits)). (
      Called n constants arguments,
      (first, last, ap (λ ls. name_leaf n ∷ ls) e, are, are_arguments),
      fewer limits (used + sum_by operators arguments) (used + counted operators arguments) (omega (arith, counted_sum arguments)) fits,
    );
    left = λ limits rest whole back e is stops same. go limits rest whole back e is.0 is.1 is.2 stops same;
  } where
    go : (limits : Limits) (rest whole back : List Leaf) → (name_leaf n ∷ []) ++ rest ≡ whole ++ back → (right : RightSide) → IsRight limits depth right whole → MayHave limits (used + right_operators right) → StopsBefore ContinuesDefinition back → SameFirst t.leaves rest
        → (part : List Leaf) × (rest ≡ part ++ back) × BehindName used limits part × StopsBefore ContinuesNothing back
    go limits rest whole back e (Computed x) is fits stops same =
        absurd (call_or_expression limits depth x n whole back rest [] (sym e ∙ ap (λ l. name_leaf n ∷ l) (sym (append-nil rest))) is stops (starts_same Opens t.leaves rest same opens))
    go limits rest whole back e (Called m constants arguments) (front, last, f, are_constants, are_arguments) fits stops same =
        let heads = cons_same (name_leaf n) (name_leaf m) rest ((front ++ last) ++ back) (e ∙ ap (λ l. l ++ back) f) in (
          front ++ last,
          heads.1,
          (constants, front, last, refl, are_constants, (arguments, are_arguments, fewer limits (used + counted operators arguments) (used + sum_by operators arguments) (omega (arith, counted_sum arguments)) fits)),
          stops_nothing back,
        )

  some_arguments : (used : ℕ) → used ≤ 512 → (limits : Limits) → InArguments depth used limits (leaf (mark (codes "(")) no_place ∷ leaf (mark (codes ")")) no_place ∷ [])
  some_arguments used few limits = ([], (no_place, no_place, [], refl, refl), λ kept. omega arith)

  pub call_constants_refused : (used : ℕ) {before here : List Leaf} → used ≤ 512 → Leads (InRight depth used) ContinuesDefinition (BehindName used) ContinuesNothing before here
      → Lifts InConstants (ContinuesOptional (mark (codes "{"))) here (InRight depth used) ContinuesDefinition before
  call_constants_refused used {here = here} few l cause after r = leads_refuses l
      (then_first Lists_constants (ContinuesOptional (mark (codes "{"))) (InArguments depth used) ContinuesNothing (arguments_begin used) (leaf (mark (codes "(")) no_place ∷ leaf (mark (codes ")")) no_place ∷ []) (some_arguments used few) r)

  pub call_arguments_refused : (used : ℕ) (constants : List Constant) {before : List Leaf} {s t : State} → Leads (InRight depth used) ContinuesDefinition (BehindName used) ContinuesNothing before s.leaves
      → Reads (AreConstants constants) 0 s t → Settles InConstants (ContinuesOptional (mark (codes "{"))) s.leaves t.leaves → Lifts (InArguments depth used) ContinuesNothing t.leaves (InRight depth used) ContinuesDefinition before
  call_arguments_refused used constants l r k cause after q = leads_refuses (leads_on l
      (leads_settled Lists_constants (ContinuesOptional (mark (codes "{"))) (InArguments depth used) ContinuesNothing (arguments_begin used) (λ limits x leaves is. is) (λ limits x leaves is. is) constants (covered r) k)) q

-- behind a name and constants stand as many operators
pub same_count : (depth : ℕ) {A B : List Leaf → Type 0} {cause : Cause} {here after : List Leaf} {s t u : State} → Reads A 0 s t → Reads B 0 t u
    → Refuses (InArguments depth u.operators) ContinuesNothing cause here after → Refuses (InArguments depth s.operators) ContinuesNothing cause here after
same_count depth {cause = cause} {here = here} {after = after} {s = s} {t = t} {u = u} q r refused = subst (λ (n : ℕ). Refuses (InArguments depth n) ContinuesNothing cause here after) same refused where
  same : u.operators ≡ s.operators
  same = omega (arith, q.counted, r.counted)

-- a name, and what opens brackets behind it
pub call_is_named : (here : List Leaf) → BeginsCall here → StartsWith BeginsName here
call_is_named [] begins = begins
call_is_named (l ∷ here) begins = begins.0

pub call_opens_behind : (n : Name) {s t : State} → BeginsCall s.leaves → Reads (IsName n) 0 s t → StartsWith Opens t.leaves
call_opens_behind n {s} {t} begins r = go s.leaves begins (r.split ∙ ap (λ ls. ls ++ t.leaves) r.is) where
  go : (here : List Leaf) → BeginsCall here → here ≡ name_leaf n ∷ t.leaves → StartsWith Opens t.leaves
  go [] begins e = absurd begins
  go (l ∷ here) begins e = subst (λ (ls : List Leaf). StartsWith Opens ls) (cons_same l (name_leaf n) here t.leaves e).1 begins.1

-- Left sides.

pub left_deep : (depth : ℕ) (here : List Leaf) → 64 ≤ depth → StartsWith (λ t. t ≡ mark (codes "(")) here → Refuses (InLeft depth) ContinuesNothing TooDeep here here
left_deep depth [] deep starts = absurd starts
left_deep depth (l ∷ more) deep starts = subst (λ (m : Leaf). Refuses (InLeft depth) ContinuesNothing TooDeep (m ∷ more) (m ∷ more)) (ap (λ t. leaf t l.at) (sym starts)) (left_too_deep depth deep l.at more)

abbrev NamesUpTo : Limits → List Leaf → Type 0
NamesUpTo = InOne (λ limits names leaves. (closed : Span) × (inside : List Leaf) × (leaves ≡ inside ++ leaf (mark (codes ")")) closed ∷ []) × List_of Name_of (mark (codes ",")) limits names inside) (counted none_of) 0

close_apart : ContinuesNames (mark (codes ")")) → ⊥
close_apart (inl e) = different (mark (codes ")")) (mark (codes ",")) refl refl e
close_apart (inr none) = none

left_lifts : (depth : ℕ) (opened : Span) {s t : State} → depth < 64 → Reads (IsLeaf (mark (codes "(")) opened) 0 s t → Lifts NamesUpTo ContinuesNothing t.leaves (InLeft depth) ContinuesNothing s.leaves
left_lifts depth opened {s} {t} shallow q cause after r = subst (λ (ls : List Leaf). Refuses (InLeft depth) ContinuesNothing cause ls after) (sym (leaf_split q)) (left_from_names depth shallow opened cause t.leaves after r)

pub left_names_refused : (depth : ℕ) (opened : Span) {s t : State} → depth < 64 → Reads (IsLeaf (mark (codes "(")) opened) 0 s t → Lifts InNames ContinuesNames t.leaves (InLeft depth) ContinuesNothing s.leaves
left_names_refused depth opened {t = t} shallow q cause after r = left_lifts depth opened shallow q cause after
    (closed_from_inside (List_of Name_of (mark (codes ","))) (counted none_of) 0 (mark (codes "(")) (mark (codes ")")) ContinuesNames close_apart cause t.leaves after (counted_names r))

pub left_close_refused : (depth : ℕ) (opened : Span) (names : List Name) {s t u : State} → depth < 64 → Reads (IsLeaf (mark (codes "(")) opened) 0 s t → Reads (Separated IsName (mark (codes ",")) names) 0 t u → StopsBefore ContinuesNames u.leaves
    → Lifts (InLeaf (mark (codes ")"))) ContinuesNothing u.leaves (InLeft depth) ContinuesNothing s.leaves
left_close_refused depth opened names {s} {t} {u} shallow q r stops cause after p = left_lifts depth opened shallow q cause after
    (subst (λ (ls : List Leaf). Refuses NamesUpTo ContinuesNothing cause ls after) (sym r.split)
    (closed_from_end (List_of Name_of (mark (codes ","))) (counted none_of) 0 (mark (codes "(")) (mark (codes ")")) ContinuesNames close_apart names_once (λ limits x leaves is. is) (λ limits x leaves is. is)
    names r.front r.is (let none = no_operators names in omega arith) cause u.leaves after stops p))

no_left : (here : List Leaf) → StopsBefore (λ t. t ≡ mark (codes "(")) here → StopsBefore BeginsName here → StopsBefore BeginsLeft here
no_left [] no_opening no_name = tt
no_left (l ∷ here) no_opening no_name = go where
  go : BeginsLeft l.terminal → ⊥
  go (inl e) = no_opening e
  go (inr is_name) = no_name is_name

pub left_here : (depth : ℕ) (here : List Leaf) → StopsBefore (λ t. t ≡ mark (codes "(")) here → StopsBefore BeginsName here → Refuses (InLeft depth) ContinuesNothing Wrong here here
left_here depth here no_opening no_name = left_refused depth here (no_left here no_opening no_name)

-- Right sides.

pub right_lifts : (depth used : ℕ) (here : List Leaf) → Lifts (InLevel default_level depth used) (ContinuesExpression default_level) here (InRight depth used) ContinuesDefinition here
right_lifts depth used here cause after r = right_from_expression depth used cause here after r

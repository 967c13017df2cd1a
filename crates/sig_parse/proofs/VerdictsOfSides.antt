-- What is read and refused of the sides of definitions, of definitions and of clock equations.
use Rattle.sig_parse.proofs.Common.{◌≡◌, ◌<◌, ◌≤◌, ◌⊎◌, ℕ, suc, List, [], ◌∷◌, length, map, map-id, sum_by, codes, arith, inl, inr, refl, subst, Name, Constant, Expression, RightSide, Computed, Called, Equations, Defines, Equal, Terminal, Leaf, mark, both_limits, operators, right_operators, Separated, Listed, IsConstant, IsExpression, IsName, IsLeft, AreConstants, AreArguments, IsRight, IsClockEquation, IsBody, StartsWith, StopsBefore, BeginsName, ContinuesNothing, ContinuesOptional, ContinuesDefinition, ContinuesClockEquation, Syntax, State, Reads, Covers, Wrong, TooDeep, cause_of, Settles, Closes, InNames, InLeft, InConstant, InConstantList, InConstants, InArgumentList, InArguments, InRight, InDefinition, InClockEquation, BeginsCall, cases_lt, dec_both, dec_either}
use Rattle.sig_parse.specs.inner.Ahead.{StartsThen}
use Rattle.sig_parse.specs.declared.operator.Level.TheVariants.{Default as DefaultLevel}
use Rattle.sig_parse.proofs.NextLeaf.{Taken, taken, missing, take, TakenName, taken_name, missing_name, take_name, dec_name, dec_terminal, starts_or_not}
use Rattle.sig_parse.proofs.Verdicts.{Verdict, read, refused, behind, seen, refusal_for, refused_for, of_text, standing, Item, item_read, item_refused, Row, row_read, row_refused, separated}
use Rattle.sig_parse.proofs.VerdictsOfLeaves.{expected, ConstantIs, constant_verdict, next_is}
use Rattle.sig_parse.proofs.VerdictsOfExpressions.{LevelVerdict, level_verdict}
use Rattle.sig_parse.proofs.CoveredParts.{covered}
use Rattle.sig_parse.proofs.Joins.{viewed, nothing}
use Rattle.sig_parse.proofs.EnclosedParts.{between, call}
use Rattle.sig_parse.proofs.ClosedRows.{closes_next}
use Rattle.sig_parse.proofs.RefusedTokens.{name_refused}
use Rattle.sig_parse.proofs.RefusedNames.{NameRead, NameRefused, ContinuesNames, names_read, names_refused, names_stop}
use Rattle.sig_parse.proofs.ExpressionRows.{ExpressionRead, ExpressionRefused, expressions_so_far, last_stops}
use Rattle.sig_parse.proofs.RefusedCalls.{ConstantRead, ConstantRefused, constants_read, constants_refused, constants_end, constants_lifts, constants_missing, constants_close, some_constants, arguments_read, arguments_refused, arguments_end, arguments_opening, arguments_lift, arguments_close, call_begun, call_constants_refused, call_arguments_refused, same_count, call_is_named, call_opens_behind, left_deep, left_names_refused, left_close_refused, left_here, right_lifts}
use Rattle.sig_parse.proofs.RefusedEquations.{apart}
use Rattle.sig_parse.proofs.RefusedExpressions.{starts_and_stops}
use Rattle.sig_parse.proofs.SettledBodies.{right_settles_expression, right_settles_call, operands_settled}
use Rattle.sig_parse.proofs.RefusedDefinitions.{definition_left, definition_define, definition_right, definition_settled, clock_refused, clock_alone, clock_stops}
use Rattle.sig_parse.proofs.BodyLemmas.{definition, clock_equation}

-- ---- names

name_item : (s : State) → Item NameRead NameRefused (mark (codes ",")) s
name_item s = at (take_name s) where
  at : TakenName s → Item NameRead NameRefused (mark (codes ",")) s
  at (taken_name n u r shorter) = item_read n u r shorter
  at (missing_name stops) = item_refused Syntax s (λ memory. cc) (λ text. name_refused s.leaves stops)

abbrev pub NamesRead : State → List Name → State → Type 0
NamesRead s names t = Reads (Separated IsName (mark (codes ",")) names) 0 s t × StopsBefore ContinuesNames t.leaves

pub names_verdict : (s : State) → Verdict (NamesRead s) InNames ContinuesNames s.leaves
names_verdict s = at (separated NameRead NameRefused (mark (codes ",")) (λ _. Unit {0}) (λ at s t r ready. tt) (λ n s t r ready. tt) (suc (length s.leaves)) (λ s within ready. name_item s) s (omega arith) tt) where
  at : Row NameRead NameRefused (mark (codes ",")) s → Verdict (NamesRead s) InNames ContinuesNames s.leaves
  at (row_read names t h) = read names t (names_read names s t h, names_stop t.leaves h.1)
  at (row_refused why t text h) = refused (cause_of why) t.leaves (names_refused why s t h text)

-- ---- left sides

abbrev pub LeftRead : ℕ → State → List Name → State → Type 0
LeftRead depth s names t = Reads (IsLeft both_limits depth names) 0 s t

pub left_verdict : (depth : ℕ) (s : State) → Verdict (LeftRead depth s) (InLeft depth) ContinuesNothing s.leaves
left_verdict depth s = at (take (mark (codes "(")) s) (cases_lt depth 64) where
  alone : StopsBefore (λ t. t ≡ mark (codes "(")) s.leaves → TakenName s → Verdict (LeftRead depth s) (InLeft depth) ContinuesNothing s.leaves
  alone no_opening (taken_name n u r shorter) = read (n ∷ []) u (viewed (IsLeft both_limits depth (n ∷ [])) (λ front is. inl (n, refl, is)) r)
  alone no_opening (missing_name no_name) = refused Wrong s.leaves (left_here depth s.leaves no_opening no_name)

  at : Taken (mark (codes "(")) s → (depth < 64) ⊎ (64 ≤ depth) → Verdict (LeftRead depth s) (InLeft depth) ContinuesNothing s.leaves
  at (missing no_opening) shallow = alone no_opening (take_name s)
  at (taken opened t q short) (inr deep) = refused TooDeep s.leaves (left_deep depth s.leaves deep (next_is (mark (codes "(")) opened q))
  at (taken opened t q short) (inl shallow) = behind (names_verdict t) (λ cause after r. left_names_refused depth opened shallow q cause after r) (λ names u r.
      seen (expected (mark (codes ")")) u) (λ cause after p. left_close_refused depth opened names shallow q r.0 r.1 cause after p) (λ closed. names) (λ closed v p.
      viewed (IsLeft both_limits depth names) (λ front is. inr ((λ _. shallow), is)) (between (mark (codes "(")) (mark (codes ")")) (Separated IsName (mark (codes ",")) names) 0 opened closed q r.0 p.0)))

-- ---- constants

constant_item : (s : State) → Item ConstantRead ConstantRefused (mark (codes ",")) s
constant_item s = at (constant_verdict s) where
  at : Verdict (ConstantIs s) InConstant ContinuesNothing s.leaves → Item ConstantRead ConstantRefused (mark (codes ",")) s
  at (read c t r) = item_read c t r.0 r.1
  at (refused cause after r) = item_refused (refusal_for cause) (standing after) (of_text cause) (λ text. refused_for cause r)

abbrev ConstantListRead : State → List Constant → State → Type 0
ConstantListRead s constants t = Reads (Listed IsConstant (mark (codes ",")) constants) 0 s t × Closes InConstantList (mark (codes "}")) s.leaves t.leaves

constant_list_verdict : (s : State) → Verdict (ConstantListRead s) InConstantList ContinuesNothing s.leaves
constant_list_verdict s = at (starts_or_not (λ t. t ≡ mark (codes "}")) (λ t. dec_terminal t (mark (codes "}"))) s.leaves) where
  row : StopsBefore (λ t. t ≡ mark (codes "}")) s.leaves → Row ConstantRead ConstantRefused (mark (codes ",")) s → Verdict (ConstantListRead s) InConstantList ContinuesNothing s.leaves
  row open_here (row_read constants t h) = read constants t (constants_read constants s t h, constants_end constants s t open_here h)
  row open_here (row_refused why t text h) = refused (cause_of why) t.leaves (constants_refused why s t open_here h text)

  at : StartsWith (λ t. t ≡ mark (codes "}")) s.leaves ⊎ StopsBefore (λ t. t ≡ mark (codes "}")) s.leaves → Verdict (ConstantListRead s) InConstantList ContinuesNothing s.leaves
  at (inl starts) = read [] s (nothing (Listed IsConstant (mark (codes ",")) []) s s refl refl, closes_next InConstantList (mark (codes "}")) starts)
  at (inr open_here) = row open_here (separated ConstantRead ConstantRefused (mark (codes ",")) (λ _. Unit {0}) (λ at s t r ready. tt) (λ c s t r ready. tt) (suc (length s.leaves)) (λ s within ready. constant_item s) s (omega arith) tt)

abbrev ConstantsRead : State → List Constant → State → Type 0
ConstantsRead s constants t = Reads (AreConstants constants) 0 s t × Settles InConstants (ContinuesOptional (mark (codes "{"))) s.leaves t.leaves

constants_verdict : (s : State) → Verdict (ConstantsRead s) InConstants (ContinuesOptional (mark (codes "{"))) s.leaves
constants_verdict s = at (take (mark (codes "{")) s) where
  at : Taken (mark (codes "{")) s → Verdict (ConstantsRead s) InConstants (ContinuesOptional (mark (codes "{"))) s.leaves
  at (missing stops) = read [] s (nothing (AreConstants []) s s refl (inl (refl, refl)), constants_missing stops)
  at (taken opened t q short) = behind (constant_list_verdict t) (λ cause after r. constants_lifts opened q cause after r) (λ constants u r.
      seen (expected (mark (codes "}")) u) (λ cause after p. constants_close opened q r.1 cause after p) (λ closed. constants) (λ closed v p. (
        viewed (AreConstants constants) (λ front is. inr is) (between (mark (codes "{")) (mark (codes "}")) (Listed IsConstant (mark (codes ",")) constants) 0 opened closed q r.0 p.0),
        some_constants opened closed constants q r.0 p.0,
      )))

-- ---- expressions with a separator between them

abbrev pub Own : Expression → Expression
Own e = e

pub expression_item : (depth : ℕ) (separator : Terminal) (s : State) → s.operators ≤ 512 → Item (ExpressionRead Own depth) (ExpressionRefused Own depth) separator s
expression_item depth separator s few = at (level_verdict DefaultLevel depth s few) where
  at : LevelVerdict DefaultLevel depth s → Item (ExpressionRead Own depth) (ExpressionRefused Own depth) separator s
  at (read e t r) = item_read e t (r.0, r.2) r.1
  at (refused cause after r) = item_refused (refusal_for cause) (standing after) (of_text cause) (λ fits text. refused_for cause r)

pub expressions : (depth : ℕ) (separator : Terminal) (s : State) → s.operators ≤ 512 → Row (ExpressionRead Own depth) (ExpressionRefused Own depth) separator s
expressions depth separator s few = separated (ExpressionRead Own depth) (ExpressionRefused Own depth) separator (λ (s : State). s.operators ≤ 512) (λ at s t r ready. r.few ready) (λ e s t p ready. p.0.few ready)
    (suc (length s.leaves)) (λ s within ready. expression_item depth separator s ready) s (omega arith) few

-- ---- arguments

abbrev ArgumentListRead : ℕ → State → List Expression → State → Type 0
ArgumentListRead depth s arguments t = Reads (Listed (IsExpression both_limits depth) (mark (codes ",")) arguments) (sum_by operators arguments) s t × Closes (InArgumentList depth s.operators) (mark (codes ")")) s.leaves t.leaves

module _ (depth : ℕ) (s : State) (few : s.operators ≤ 512) where
  own_list : (arguments : List Expression) (t : State) → Reads (Listed (IsExpression both_limits depth) (mark (codes ",")) (map Own arguments)) (sum_by operators (map Own arguments)) s t
      → Reads (Listed (IsExpression both_limits depth) (mark (codes ",")) arguments) (sum_by operators arguments) s t
  own_list arguments t r = subst (λ (xs : List Expression). Reads (Listed (IsExpression both_limits depth) (mark (codes ",")) xs) (sum_by operators xs) s t) (map-id arguments) r

  argument_row : StopsBefore (λ t. t ≡ mark (codes ")")) s.leaves → Row (ExpressionRead Own depth) (ExpressionRefused Own depth) (mark (codes ",")) s → Verdict (ArgumentListRead depth s) (InArgumentList depth s.operators) ContinuesNothing s.leaves
  argument_row open_here (row_read arguments t h) = read arguments t (own_list arguments t (arguments_read depth Own arguments s t h), arguments_end depth Own arguments s t few open_here h)
  argument_row open_here (row_refused why t text h) = refused (cause_of why) t.leaves (arguments_refused depth Own why s t few open_here h text)

  argument_list_verdict : Verdict (ArgumentListRead depth s) (InArgumentList depth s.operators) ContinuesNothing s.leaves
  argument_list_verdict = elim (starts_or_not (λ t. t ≡ mark (codes ")")) (λ t. dec_terminal t (mark (codes ")"))) s.leaves) [
    | inl starts ↦ read [] s (nothing (Listed (IsExpression both_limits depth) (mark (codes ",")) []) s s refl refl, closes_next (InArgumentList depth s.operators) (mark (codes ")")) starts)
    | inr open_here ↦ argument_row open_here (expressions depth (mark (codes ",")) s few)
  ]

abbrev ArgumentsRead : ℕ → State → List Expression → State → Type 0
ArgumentsRead depth s arguments t = Reads (AreArguments both_limits depth arguments) (sum_by operators arguments) s t

arguments_verdict : (depth : ℕ) (s : State) → s.operators ≤ 512 → Verdict (ArgumentsRead depth s) (InArguments depth s.operators) ContinuesNothing s.leaves
arguments_verdict depth s few =
    behind (expected (mark (codes "(")) s) (λ cause after r. arguments_opening depth s.operators s.leaves few cause after r) (λ opened t q.
    behind (argument_list_verdict depth t (q.0.few few)) (λ cause after r. arguments_lift depth opened q.0 cause after r) (λ arguments u r.
    seen (expected (mark (codes ")")) u) (λ cause after p. arguments_close depth opened q.0 r.1 cause after p) (λ closed. arguments) (λ closed v p.
    between (mark (codes "(")) (mark (codes ")")) (Listed (IsExpression both_limits depth) (mark (codes ",")) arguments) (sum_by operators arguments) opened closed q.0 r.0 p.0)))

-- ---- right sides

pub dec_starts : (Begins : Terminal → Type 0) → ((t : Terminal) → Dec (Begins t)) → (leaves : List Leaf) → Dec (StartsWith Begins leaves)
dec_starts Begins decide [] = no (λ none. none)
dec_starts Begins decide (l ∷ leaves) = decide l.terminal

pub dec_starts_then : (Begins : Terminal → Type 0) (Behind : List Leaf → Type 0) → ((t : Terminal) → Dec (Begins t)) → ((leaves : List Leaf) → Dec (Behind leaves)) → (leaves : List Leaf) → Dec (StartsThen Begins Behind leaves)
dec_starts_then Begins Behind decide rest [] = no (λ none. none)
dec_starts_then Begins Behind decide rest (l ∷ leaves) = dec_both (decide l.terminal) (rest leaves)

dec_call : (leaves : List Leaf) → Dec (BeginsCall leaves)
dec_call leaves = dec_starts_then BeginsName (StartsWith (λ t. (t ≡ mark (codes "(")) ⊎ (t ≡ mark (codes "{")))) dec_name
    (λ rest. dec_starts (λ t. (t ≡ mark (codes "(")) ⊎ (t ≡ mark (codes "{"))) (λ t. dec_either (dec_terminal t (mark (codes "("))) (dec_terminal t (mark (codes "{")))) rest) leaves

abbrev pub RightRead : ℕ → State → RightSide → State → Type 0
RightRead depth s right t = Reads (IsRight both_limits depth right) (right_operators right) s t × Settles (InRight depth s.operators) ContinuesDefinition s.leaves t.leaves

abbrev RightVerdict : ℕ → State → Type 0
RightVerdict depth s = Verdict (RightRead depth s) (InRight depth s.operators) ContinuesDefinition s.leaves

module _ (depth : ℕ) (s : State) (few : s.operators ≤ 512) where
  called : BeginsCall s.leaves → TakenName s → RightVerdict depth s
  called begins (missing_name no_name) = absurd (starts_and_stops BeginsName s.leaves (call_is_named s.leaves begins) no_name)
  called begins (taken_name n t r shorter) =
      let leads = call_begun depth s.operators n r (call_opens_behind n begins r) in
      behind (constants_verdict t) (λ cause after q. call_constants_refused depth s.operators few leads cause after q) (λ constants u q.
      seen (arguments_verdict depth u (q.0.few (r.few few))) (λ cause after p. call_arguments_refused depth s.operators constants leads q.0 q.1 cause after (same_count depth r q.0 p)) (λ arguments. Called n constants arguments)
      (λ arguments v p. (call depth n constants arguments r q.0 p, right_settles_call depth s.operators n constants arguments (covered (call depth n constants arguments r q.0 p)))))

  pub right_verdict : RightVerdict depth s
  right_verdict = elim (dec_call s.leaves) [
    | yes begins ↦ called begins (take_name s)
    | no no_call ↦ seen (level_verdict DefaultLevel depth s few) (λ cause after r. right_lifts depth s.operators s.leaves cause after r) Computed
        (λ e t r. (r.0, right_settles_expression depth s.operators e no_call (covered r.0) r.2))
  ]

-- ---- definitions and clock equations, where no operators were counted

abbrev pub fresh : State → State
fresh s = record { leaves = s.leaves; operators = 0 }

pub from_fresh : {A : List Leaf → Type 0} {s t : State} → Covers A (fresh s) t → Covers A s t
from_fresh c = record { front = c.front; split = c.split; is = c.is }

abbrev pub DefinitionRead : ℕ → State → Equations → State → Type 0
DefinitionRead depth s body t = Covers (IsBody both_limits body depth) s t × Settles (InDefinition depth) ContinuesDefinition s.leaves t.leaves

pub definition_verdict : (depth : ℕ) (s : State) → Verdict (DefinitionRead depth s) (InDefinition depth) ContinuesDefinition s.leaves
definition_verdict depth s =
    behind (left_verdict depth (fresh s)) (λ cause after r. definition_left depth r) (λ names t r.
    behind (expected (mark (codes ":=")) t) (λ cause after q. definition_define depth names (covered r) q) (λ at u q.
    let none : u.operators ≡ 0 = omega (arith, r.counted, q.0.counted) in
    seen (right_verdict depth u (omega (arith, none))) (λ cause after p. definition_right depth names (covered r) at u.operators (covered q.0) none p) (λ right. Defines names right) (λ right v p. (
      definition names right depth at s refl r q.0 p.0,
      definition_settled depth names (covered r) at u.operators (covered q.0) none p.1,
    ))))

abbrev pub ClockRead : ℕ → State → Equations → State → Type 0
ClockRead depth s body t = Covers (IsBody both_limits body depth) s t × Settles (InClockEquation depth) ContinuesClockEquation s.leaves t.leaves

module _ (depth : ℕ) (s : State) where
  operands_read : (es : List Expression) (t : State) → Reads (Separated (IsExpression both_limits depth) (mark (codes "^=")) (map Own es)) (sum_by operators (map Own es)) (fresh s) t → 2 ≤ length es → Covers (IsClockEquation both_limits depth es) (fresh s) t
  operands_read es t r two = clock_equation depth es refl two
      (subst (λ (xs : List Expression). Reads (Separated (IsExpression both_limits depth) (mark (codes "^=")) xs) (sum_by operators xs) (fresh s) t) (map-id es) r)

  clock_row : Row (ExpressionRead Own depth) (ExpressionRefused Own depth) (mark (codes "^=")) (fresh s) → Verdict (ClockRead depth s) (InClockEquation depth) ContinuesClockEquation s.leaves
  clock_row (row_refused why t text h) = refused (cause_of why) t.leaves (clock_refused depth Own why (fresh s) t refl h text)
  clock_row (row_read es t h) = elim (cases_lt (length es) 2) [
    | inl less ↦ refused Wrong t.leaves (clock_alone depth Own es (fresh s) t refl less h)
    | inr two ↦ let c = operands_read es t (expressions_so_far Own depth (mark (codes "^=")) (apart depth) (fresh s) es t h.0).0 two in
        read (Equal es) t (
          from_fresh c,
          operands_settled depth es c (clock_stops depth t.leaves (last_stops Own depth (mark (codes "^=")) (apart depth) (fresh s) es t h.0) h.1),
        )
  ]

  pub clock_verdict : Verdict (ClockRead depth s) (InClockEquation depth) ContinuesClockEquation s.leaves
  clock_verdict = clock_row (expressions depth (mark (codes "^=")) (fresh s) (omega arith))

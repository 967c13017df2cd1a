-- The names of a flat body's signals and of the intermediates of its operators, in a text within the limits.
use Rattle.sig_call.proofs.Common.{◌≡◌, ◌++◌, ◌+◌, ◌<◌, ◌≤◌, ◌∙◌, ℕ, suc, List, [], ◌∷◌, Some, length, map, decimal, sym, ap, subst, arith, length-decimal-le, length-append, AllByRecursion, bytes_eq, PROGRAM_BYTES, SIGNALS, Signal, Span, Name, Expression, Equations, ProcessModel, FlatEquation, FlatBody, Declaration, inputs_of, outputs_of, locals_of, name_of, process_of, all_processes, Copy, Progress, Expands, Ended, Defined, Equated, Expanded, IsFlatBody, copied_signals, copy_prefix, cluster_of_call, first_progress, flat_of, flat_right, inputs_defined, outputs_defined, signals_declared, with_copy, Token, Lexeme, lexemes, the_end, IsSpelled, InOrder, leaves_of, HasTree, IsWellFormed, AtOperators, IsGraphic, IsSignalName, NamesOperators, placed_name, IsTree, IsReady, AreExpandable, IsWithin, all_both, all_so}
use Rattle.sig_call.proofs.Existence.{found_name}
use Rattle.sig_call.proofs.Expandable.{expandable, found_all}
use Rattle.sig_call.proofs.FlatPlaces.{flat_at, operators_of, right_at}
use Rattle.sig_call.proofs.Graphic.{decimal_graphic, name_graphic, name_some}
use Rattle.sig_call.proofs.ProgressSteps.{grows_along}
use Rattle.sig_call.proofs.ProcessRules.{all_map, all_parts}
use Rattle.sig_call.proofs.Places.{AtPlacesOf, ArePlaced, IsPlaced, StandsAt, all_placed, leaves_placed}
use Rattle.sig_call.proofs.Readiness.{call_adds, call_numbers, some_names}
use Rattle.sig_call.proofs.Spelled.{IsNamed, Spelled, all_spelled}
use Rattle.sig_call.proofs.LeafBytes.{IsRoomyProcess, each_roomy, leaf_bytes, leaf_bytes_within}
use Rattle.sig_call.proofs.Whole.{first_found}

-- places in a program
abbrev IsPlace : Span → Type 0
IsPlace at = IsWithin PROGRAM_BYTES at

-- a prefix behind which a place can stand
record IsPrefix (prefix : List ℕ) : Type 0 where
  graphic : AllByRecursion IsGraphic prefix
  short : length prefix + 16 ≤ PROGRAM_BYTES

place_name : (prefix : List ℕ) → IsPrefix prefix → (at : Span) → IsPlace at → IsSignalName (placed_name prefix at)
place_name prefix fits at place =
    let line : at.line ≤ 1048577 = place.line in
    let col : at.col ≤ 1048577 = place.col in
    let short : length prefix + 16 ≤ 1048576 = fits.short in
    let line_long : length (decimal at.line) ≤ 7 = length-decimal-le 7 at.line (omega arith) (omega arith) (omega arith) in
    let col_long : length (decimal at.col) ≤ 7 = length-decimal-le 7 at.col (omega arith) (omega arith) (omega arith) in
    let whole : length (placed_name prefix at) ≡ length prefix + suc (length (decimal at.line) + suc (length (decimal at.col))) =
    length-append prefix _ ∙ ap (λ n. length prefix + suc n) (length-append (decimal at.line) (58 ∷ decimal at.col)) in
    record {
      some = omega arith;
      few = omega arith;
      graphic = all_both IsGraphic prefix _ fits.graphic ((omega arith, omega arith), all_both IsGraphic (decimal at.line) (58 ∷ decimal at.col) (decimal_graphic at.line (omega arith)) ((omega arith, omega arith), decimal_graphic at.col (omega arith)));
    }

-- expressions
flat_operators : (P Q : Span → Type 0) → ((at : Span) → P at → Q at) → (copy : Copy) (e : Expression) → AtPlacesOf P e → AtOperators Q (flat_of copy e)
flat_operators P Q so copy e h = operators_of P Q so (flat_of copy e) (flat_at P copy e h)

right_operators : (P Q : Span → Type 0) → ((at : Span) → P at → Q at) → (copy : Copy) (left : Name) (e : Expression) → AtPlacesOf P e → AtOperators Q (flat_right copy left e)
right_operators P Q so copy left e h = operators_of P Q so (flat_right copy left e) (right_at P copy left e h)

operands_operators : (P Q : Span → Type 0) → ((at : Span) → P at → Q at) → (copy : Copy) (es : List Expression) → AllByRecursion (AtPlacesOf P) es → AllByRecursion (AtOperators Q) (map (flat_of copy) es)
operands_operators P Q so copy [] h = tt
operands_operators P Q so copy (e ∷ es) h = (flat_operators P Q so copy e h.0, operands_operators P Q so copy es h.1)

inputs_operators : (copy : Copy) → IsPrefix copy.prefix → (base : ℕ) (es : List Expression) → AllByRecursion (AtPlacesOf IsPlace) es → AllByRecursion NamesOperators (inputs_defined copy base es)
inputs_operators copy fits base [] h = tt
inputs_operators copy fits base (e ∷ es) h = (flat_operators IsPlace (λ at. IsSignalName (placed_name copy.prefix at)) (place_name copy.prefix fits) copy e h.0, inputs_operators copy fits (suc base) es h.1)

outputs_operators : (copy : Copy) (names : List Name) (output : ℕ) → AllByRecursion NamesOperators (outputs_defined copy names output)
outputs_operators copy [] output = tt
outputs_operators copy (n ∷ ns) output = (tt, outputs_operators copy ns (suc output))

-- what is known of the processes of a text
pub record IsNameable (p : ProcessModel) : Type 0 where
  pub spelled : Spelled p
  pub roomy : IsRoomyProcess PROGRAM_BYTES p
  pub placed : ArePlaced IsPlace p

abbrev AreNameable : List ProcessModel → Type 0
AreNameable all = (text : List ℕ) (p : ProcessModel) → process_of all text ≡ Some p → IsNameable p

abbrev AreNamed : List Signal → Type 0
AreNamed signals = AllByRecursion (λ (signal : Signal). IsSignalName signal.name) signals

-- the prefix of a call's copy
prefix_graphic : (name : Name) (n : ℕ) → n ≤ 512 → AllByRecursion IsGraphic name.text → AllByRecursion IsGraphic (copy_prefix name n)
prefix_graphic name n few graphic =
    all_both IsGraphic name.text _ graphic ((omega arith, omega arith), all_both IsGraphic (decimal n) (46 ∷ []) (decimal_graphic n (omega arith)) ((omega arith, omega arith), tt))

prefix_long : (name : Name) (n : ℕ) → n ≤ 512 → length (copy_prefix name n) ≤ length name.text + 5
prefix_long name n few =
    let digits : length (decimal n) ≤ 3 = length-decimal-le 3 n (omega arith) (omega arith) (omega arith) in
    let whole : length (copy_prefix name n) ≡ length name.text + suc (length (decimal n) + 1) =
    length-append name.text _ ∙ ap (λ m. length name.text + suc m) (length-append (decimal n) (46 ∷ [])) in
    omega arith

-- the names of a copy's signals
copy_named : (prefix : List ℕ) → AllByRecursion IsGraphic prefix → (ds : List Declaration) → AllByRecursion IsNamed ds → AllByRecursion (λ (d : Declaration). length prefix + length d.name.text ≤ PROGRAM_BYTES) ds
    → AllByRecursion (λ (d : Declaration). IsSignalName (prefix ++ d.name.text)) ds
copy_named prefix graphic [] named short = tt
copy_named prefix graphic (d ∷ ds) named short =
    let some = name_some d.name.text named.0.0 in
    let whole : length (prefix ++ d.name.text) ≡ length prefix + length d.name.text = length-append prefix d.name.text in
    let few : length prefix + length d.name.text ≤ PROGRAM_BYTES = short.0 in (
      record { some = omega arith; few = omega arith; graphic = all_both IsGraphic prefix d.name.text graphic (name_graphic d.name.text named.0.0) },
      copy_named prefix graphic ds named.1 short.1,
    )

-- a process that is called has an output, whose name is a byte more
first_output : (q : ℕ) (outputs locals : List Declaration) → 1 ≤ length outputs → AllByRecursion (λ (d : Declaration). q + (length d.name.text + 20) ≤ PROGRAM_BYTES) (outputs ++ locals) → AllByRecursion IsNamed (outputs ++ locals) → q + 21 ≤ PROGRAM_BYTES
first_output q [] locals some roomy named = (let no : 1 ≤ 0 = some in absurd (omega arith))
first_output q (d ∷ ds) locals some roomy named =
    let byte = name_some d.name.text named.0.0 in
    let room : q + (length d.name.text + 20) ≤ PROGRAM_BYTES = roomy.0 in
    omega arith

call_prefix : (called : ProcessModel) (name : Name) (n : ℕ) → (name_of called).text ≡ name.text → IsNameable called → 1 ≤ length (outputs_of called) → n ≤ 512 → IsPrefix (copy_prefix name n)
call_prefix called name n same nameable some few =
    let own = outputs_of called ++ locals_of called in
    let roomy = (all_parts (λ (d : Declaration). length (name_of called).text + (length d.name.text + 20) ≤ PROGRAM_BYTES) (inputs_of called) own nameable.roomy.declared).1 in
    let named = (all_parts IsNamed (inputs_of called) own nameable.spelled.declared).1 in
    let room : length (name_of called).text + 21 ≤ PROGRAM_BYTES = first_output (length (name_of called).text) (outputs_of called) (locals_of called) some roomy named in
    let long : length (copy_prefix name n) ≤ length name.text + 5 = prefix_long name n few in
    let equal : length (name_of called).text ≡ length name.text = ap length same in
    record {
      graphic = prefix_graphic name n few (subst (AllByRecursion IsGraphic) same (name_graphic (name_of called).text nameable.spelled.name));
      short = omega arith;
    }

call_signals : (called : ProcessModel) (name : Name) (n cluster : ℕ) → (name_of called).text ≡ name.text → IsNameable called → n ≤ 512 → AreNamed (copied_signals (copy_prefix name n) cluster called)
call_signals called name n cluster same nameable few =
    let long : length (copy_prefix name n) ≤ length name.text + 5 = prefix_long name n few in
    let equal : length (name_of called).text ≡ length name.text = ap length same in
    all_map (λ (signal : Signal). IsSignalName signal.name) _ (signals_declared called)
    (copy_named (copy_prefix name n) (prefix_graphic name n few (subst (AllByRecursion IsGraphic) same (name_graphic (name_of called).text nameable.spelled.name))) (signals_declared called) nameable.spelled.declared
    (all_so (λ (d : Declaration). length (name_of called).text + (length d.name.text + 20) ≤ PROGRAM_BYTES) (λ (d : Declaration). length (copy_prefix name n) + length d.name.text ≤ PROGRAM_BYTES)
    (λ d r. (let room : length (name_of called).text + (length d.name.text + 20) ≤ PROGRAM_BYTES = r in omega arith)) (signals_declared called) nameable.roomy.declared))

-- the names after an expansion, those of its operators, and the numbers of calls
record Naming (after : Progress) (flat : List FlatEquation) : Type 0 where
  signals : AreNamed after.signals
  operators : AllByRecursion NamesOperators flat
  calls : after.calls ≤ length after.signals

naming : {all : List ProcessModel} {copy : Copy} {equations : List Equations} {before after : Progress} {flat : List FlatEquation} → AreExpandable all → AreNameable all → AllByRecursion (IsReady all) equations → AllByRecursion (IsPlaced IsPlace) equations
    → IsPrefix copy.prefix → length after.signals ≤ 512 → AreNamed before.signals → before.calls ≤ length before.signals → Expands all copy equations before after flat → Naming after flat
naming sound nameable ready placed fits few named calls Ended = record { signals = named; operators = tt; calls = calls }
naming {copy = copy} sound nameable ready placed fits few named calls (Defined name e behind) =
    let rest = naming sound nameable ready.1 placed.1 fits few named calls behind in
    record {
      signals = rest.signals;
      operators = (right_operators IsPlace (λ at. IsSignalName (placed_name copy.prefix at)) (place_name copy.prefix fits) copy name e placed.0.1, rest.operators);
      calls = rest.calls;
    }
naming {copy = copy} sound nameable ready placed fits few named calls (Equated operands behind) =
    let rest = naming sound nameable ready.1 placed.1 fits few named calls behind in
    record {
      signals = rest.signals;
      operators = (operands_operators IsPlace (λ at. IsSignalName (placed_name copy.prefix at)) (place_name copy.prefix fits) copy operands placed.0, rest.operators);
      calls = rest.calls;
    }
naming {all = all} {copy = copy} {before = before} {after = after} sound nameable ready placed fits few named calls (Expanded {inside = i} {body = body} {flat = later} names name constants arguments called found inside behind) =
    let base = length before.signals in
    let n = suc before.calls in
    let new : List Signal = copied_signals (copy_prefix name n) (cluster_of_call copy before.signals names) called in
    let adds : base < length (with_copy copy before names name called).signals = call_adds all copy before names name constants arguments called ready.0 found in
    let first : length (with_copy copy before names name called).signals ≤ length i.signals = grows_along inside in
    let second : length i.signals ≤ length after.signals = grows_along behind in
    let own = nameable name.text called found in
    let same = found_name all name.text called found in
    let outputs : length names ≡ length (outputs_of called) = (call_numbers all names name constants arguments called ready.0 found).outputs in
    let some : 1 ≤ length names = some_names all names name constants arguments ready.0 in
    let body_named = naming sound nameable (sound name.text called found).equations own.placed.equations (call_prefix called name n same own (omega arith) (omega arith)) (omega arith)
    (all_both (λ (signal : Signal). IsSignalName signal.name) before.signals new named (call_signals called name n (cluster_of_call copy before.signals names) same own (omega arith))) (omega arith) inside in
    let rest = naming sound nameable ready.1 placed.1 fits few body_named.signals body_named.calls behind in
    let output = base + length (inputs_of called) in
    record {
      signals = rest.signals;
      operators = all_both NamesOperators (inputs_defined copy base arguments) (body ++ (outputs_defined copy names output ++ later)) (inputs_operators copy fits base arguments placed.0.1)
          (all_both NamesOperators body (outputs_defined copy names output ++ later) body_named.operators
          (all_both NamesOperators (outputs_defined copy names output) later (outputs_operators copy names output) rest.operators));
      calls = rest.calls;
    }

-- the flat body of a text
pub record NamedBody (flat : FlatBody) : Type 0 where
  pub signals : AreNamed flat.signals
  pub operators : AllByRecursion NamesOperators flat.equations

named_parts : (after : Progress) (equations : List FlatEquation) (flat : FlatBody) (inputs outputs : ℕ) → Naming after equations → flat ≡ record { signals = after.signals; inputs = inputs; outputs = outputs; equations = equations } → NamedBody flat
named_parts after equations flat inputs outputs named is = subst NamedBody (sym is) record { signals = named.signals; operators = named.operators }

first_signals : (p : ProcessModel) → IsNameable p → AreNamed (first_progress p).signals
first_signals p own =
    all_map (λ (signal : Signal). IsSignalName signal.name) _ (signals_declared p)
    (copy_named [] tt (signals_declared p) own.spelled.declared
    (all_so (λ (d : Declaration). length (name_of p).text + (length d.name.text + 20) ≤ PROGRAM_BYTES) (λ (d : Declaration). 0 + length d.name.text ≤ PROGRAM_BYTES)
    (λ d r. (let room : length (name_of p).text + (length d.name.text + 20) ≤ PROGRAM_BYTES = r in omega arith)) (signals_declared p) own.roomy.declared))

pub named_body : (program : List ProcessModel) (flat : FlatBody) → IsTree program → IsWellFormed program → AllByRecursion IsNameable (all_processes program) → IsFlatBody program flat → length flat.signals ≤ SIGNALS → NamedBody flat
named_body [] flat tree well nameable is few = elim is [ ]
named_body (p ∷ ps) flat tree well nameable is few =
    let all = all_processes (p ∷ ps) in
    let found = first_found p ps in
    let sound = expandable (p ∷ ps) tree well in
    let each : AreNameable all = λ text q here. found_all IsNameable (λ r. bytes_eq (name_of r).text text) all q nameable here in
    let own = each (name_of p).text p found in
    let after : Progress = is.0 in
    let same : length flat.signals ≡ length after.signals = ap (λ (f : FlatBody). length f.signals) is.3 in
    let small : length after.signals ≤ 512 = (let within : length flat.signals ≤ 512 = few in omega arith) in
    let first : IsPrefix [] = record { graphic = tt; short = omega arith } in
    let none : 0 ≤ length (first_progress p).signals = omega arith in
    let named = naming sound each (sound (name_of p).text p found).equations own.placed.equations first small (first_signals p own) none is.2 in
    named_parts after is.1 flat (length (inputs_of p)) (length (outputs_of p)) named is.3

-- the processes of a text within the limit
all_nameable : (ps : List ProcessModel) → AllByRecursion Spelled ps → AllByRecursion (IsRoomyProcess PROGRAM_BYTES) ps → AllByRecursion (ArePlaced IsPlace) ps → AllByRecursion IsNameable ps
all_nameable [] spelled roomy placed = tt
all_nameable (p ∷ ps) spelled roomy placed = (record { spelled = spelled.0; roomy = roomy.0; placed = placed.0 }, all_nameable ps spelled.1 roomy.1 placed.1)

place_more : (size : ℕ) → size ≤ PROGRAM_BYTES → (at : Span) → IsWithin size at → IsPlace at
place_more size few at within =
    let line : at.line ≤ size + 1 = within.line in
    let col : at.col ≤ size + 1 = within.col in
    record { line = omega arith; col = omega arith }

pub nameable_text : (text : List ℕ) (tokens : List Token) (words : List Lexeme) (program : List ProcessModel) → lexemes text tokens ≡ words ++ the_end ∷ [] → AllByRecursion IsSpelled words
    → InOrder text 0 tokens → HasTree (leaves_of text tokens) program → length text ≤ PROGRAM_BYTES → AllByRecursion IsNameable (all_processes program)
nameable_text text tokens words program is spelled order tree few =
    let leaves = leaves_of text tokens in
    let light : leaf_bytes leaves ≤ length text = leaf_bytes_within text tokens order in
    let within : leaf_bytes leaves ≤ PROGRAM_BYTES = omega arith in
    let placed : AllByRecursion (StandsAt IsPlace) leaves =
    all_so (StandsAt (IsWithin (length text))) (StandsAt IsPlace) (λ l h. place_more (length text) few l.at h) leaves (leaves_placed text tokens 0 order) in
    all_nameable (all_processes program) (all_spelled text tokens words program is spelled tree) (each_roomy _ program leaves PROGRAM_BYTES tree.1 within) (all_placed IsPlace program leaves tree placed)

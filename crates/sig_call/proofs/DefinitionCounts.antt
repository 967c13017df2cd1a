-- How often the equations of an expansion define each signal: as often as the left sides of the copy stand
-- for it, and once where the signal was made on the way.
use Rattle.sig_call.proofs.Common.{◌≡◌, ◌+◌, ◌++◌, ◌==◌, ◌∙◌, ℕ, suc, inl, inr, List, [], ◌∷◌, Some, false, map, length, count_by, refl, ap, arith, cases_eq, eq-eqb, length-append, length-map, AllByRecursion, flat_map, Name, Expression, Equations, ProcessModel, Sig, FlatEquation, inputs_of, process_of, equations_of_model, left_sides, Copy, Progress, Expands, Ended, Defined, Equated, Expanded, flat_of, flat_right, inputs_defined, outputs_defined, called_copy, with_copy, signal_of, signals_declared, IsReady, AreExpandable, defines, ne_eqb}
use Rattle.sig_tree.specs.FlatSyntax.{Defines, Equal}
use Rattle.sig_call.proofs.Counts.{below, tally, count_append, count_cons}
use Rattle.sig_call.proofs.LeftSides.{DefinesOnce, left_count}
use Rattle.sig_call.proofs.Readiness.{call_numbers}

-- one more number below
one_below : (base n : ℕ) → tally (base == n) + below base n ≡ below (suc base) n
one_below base n = elim (cases_eq base n) [
  | inl same ↦ (let one : tally (base == n) ≡ 1 = ap tally (eq-eqb base n same) in omega arith)
  | inr other ↦ (let none : tally (base == n) ≡ 0 = ap tally (ne_eqb base n other) in omega arith)
]

-- the copied inputs
inputs_count : (copy : Copy) (base : ℕ) (arguments : List Expression) (n : ℕ) → count_by (defines n) (inputs_defined copy base arguments) + below base n ≡ below (base + length arguments) n
inputs_count copy base [] n = omega arith
inputs_count copy base (a ∷ as') n =
    let rest : count_by (defines n) (inputs_defined copy (suc base) as') + below (suc base) n ≡ below (suc base + length as') n = inputs_count copy (suc base) as' n in
    let first : count_by (defines n) (inputs_defined copy base (a ∷ as')) ≡ tally (base == n) + count_by (defines n) (inputs_defined copy (suc base) as') = count_cons (defines n) (Defines base (flat_of copy a) copy.prefix) (inputs_defined copy (suc base) as') in
    let here = one_below base n in
    omega arith

-- the left sides of a call
outputs_count : (copy : Copy) (names : List Name) (output n : ℕ) → count_by (defines n) (outputs_defined copy names output) ≡ count_by (λ name. signal_of copy name == n) names
outputs_count copy [] output n = refl
outputs_count copy (m ∷ ms) output n =
    let rest : count_by (defines n) (outputs_defined copy ms (suc output)) ≡ count_by (λ name. signal_of copy name == n) ms = outputs_count copy ms (suc output) n in
    let first : count_by (defines n) (outputs_defined copy (m ∷ ms) output) ≡ tally (signal_of copy m == n) + count_by (defines n) (outputs_defined copy ms (suc output)) = count_cons (defines n) (Defines (signal_of copy m) (Sig output m.at) copy.prefix) (outputs_defined copy ms (suc output)) in
    let second : count_by (λ name. signal_of copy name == n) (m ∷ ms) ≡ tally (signal_of copy m == n) + count_by (λ name. signal_of copy name == n) ms = count_cons (λ name. signal_of copy name == n) m ms in
    omega arith

-- what is asked of the processes that are called
abbrev pub AreDefinedOnce : List ProcessModel → Type 0
AreDefinedOnce all = (text : List ℕ) (p : ProcessModel) → process_of all text ≡ Some p → DefinesOnce p

-- the left sides of equations that stand for a number
abbrev pub lefts_for : Copy → ℕ → List Equations → ℕ
lefts_for copy n equations = count_by (λ name. signal_of copy name == n) (flat_map left_sides equations)

call_count : (n : ℕ) (inputs body outputs later : List FlatEquation) → count_by (defines n) (inputs ++ (body ++ (outputs ++ later)))
    ≡ count_by (defines n) inputs + (count_by (defines n) body + (count_by (defines n) outputs + count_by (defines n) later))
call_count n inputs body outputs later =
    let first = count_append (defines n) inputs (body ++ (outputs ++ later)) in
    let second = count_append (defines n) body (outputs ++ later) in
    let third = count_append (defines n) outputs later in
    omega arith

pub counted : {all : List ProcessModel} {copy : Copy} {equations : List Equations} {before after : Progress} {flat : List FlatEquation} → AreExpandable all → AreDefinedOnce all → AllByRecursion (IsReady all) equations
    → Expands all copy equations before after flat → (n : ℕ)
    → count_by (defines n) flat + below (length before.signals) n ≡ lefts_for copy n equations + below (length after.signals) n
counted sound once ready Ended n = refl
counted {copy = copy} {before = before} {after = after} sound once ready (Defined {rest = rest} {flat = flat} name e behind) n =
    let later : count_by (defines n) flat + below (length before.signals) n ≡ lefts_for copy n rest + below (length after.signals) n = counted sound once ready.1 behind n in
    let first : count_by (defines n) (Defines (signal_of copy name) (flat_right copy name e) copy.prefix ∷ flat) ≡ tally (signal_of copy name == n) + count_by (defines n) flat =
    count_cons (defines n) (Defines (signal_of copy name) (flat_right copy name e) copy.prefix) flat in
    let second : count_by (λ m. signal_of copy m == n) (name ∷ flat_map left_sides rest) ≡ tally (signal_of copy name == n) + lefts_for copy n rest = count_cons (λ m. signal_of copy m == n) name (flat_map left_sides rest) in
    omega arith
counted {copy = copy} {before = before} {after = after} sound once ready (Equated {rest = rest} {flat = flat} operands behind) n =
    let later : count_by (defines n) flat + below (length before.signals) n ≡ lefts_for copy n rest + below (length after.signals) n = counted sound once ready.1 behind n in
    let first : count_by (defines n) (Equal (map (flat_of copy) operands) copy.prefix ∷ flat) ≡ tally false + count_by (defines n) flat = count_cons (defines n) (Equal (map (flat_of copy) operands) copy.prefix) flat in
    omega arith
counted {all = all} {copy = copy} {before = before} {after = after} sound once ready (Expanded {inside = i} {rest = rest} {body = body} {flat = later} names name constants arguments called found inside behind) n =
    let base = length before.signals in
    let inputs = length (inputs_of called) in
    let h : count_by (defines n) body + below (length (with_copy copy before names name called).signals) n ≡ lefts_for (called_copy copy before name constants called) n (equations_of_model called) + below (length i.signals) n =
    counted sound once (sound name.text called found).equations inside n in
    let k : count_by (defines n) later + below (length i.signals) n ≡ lefts_for copy n rest + below (length after.signals) n = counted sound once ready.1 behind n in
    let own : lefts_for (called_copy copy before name constants called) n (equations_of_model called) + below (base + inputs) n ≡ below (base + length (signals_declared called)) n =
    left_count called (called_copy copy before name constants called) base _ (once name.text called found) refl n in
    let many : length arguments ≡ inputs = (call_numbers all names name constants arguments called ready.0 found).inputs in
    let entered : length (with_copy copy before names name called).signals ≡ base + length (signals_declared called) =
    length-append before.signals _ ∙ ap (λ m. base + m) (length-map (signals_declared called) _) in
    let first : count_by (defines n) (inputs_defined copy base arguments) + below base n ≡ below (base + length arguments) n = inputs_count copy base arguments n in
    let last : count_by (defines n) (outputs_defined copy names (base + inputs)) ≡ count_by (λ m. signal_of copy m == n) names = outputs_count copy names (base + inputs) n in
    let whole = call_count n (inputs_defined copy base arguments) body (outputs_defined copy names (base + inputs)) later in
    let lefts : count_by (λ m. signal_of copy m == n) (names ++ flat_map left_sides rest) ≡ count_by (λ m. signal_of copy m == n) names + lefts_for copy n rest = count_append (λ m. signal_of copy m == n) names (flat_map left_sides rest) in
    let entered_below : below (length (with_copy copy before names name called).signals) n ≡ below (base + length (signals_declared called)) n = ap (λ m. below m n) entered in
    let argued_below : below (base + length arguments) n ≡ below (base + inputs) n = ap (λ m. below (base + m) n) many in
    omega (arith, h, k, own, first, last, whole, lefts)

-- A flat body is no longer than its program's processes, once for the first and once for each signal.
use Rattle.sig_call.proofs.Common.{◌≡◌, ◌++◌, ◌+◌, ◌*◌, ◌<◌, ◌≤◌, ℕ, suc, List, [], ◌∷◌, Some, length, map, refl, ap, ◌∙◌, arith, mul-le-mul_left, length-map, AllByRecursion, bytes_eq, Name, Expression, Equations, Equal, ProcessModel, FlatEquation, EqualFlat, FlatBody, name_of, inputs_of, outputs_of, process_of, all_processes, equations_of_model, Copy, Progress, Expands, Ended, Defined, Equated, Expanded, IsFlatBody, flat_of, inputs_defined, outputs_defined, with_copy, IsWellFormed, IsTree, IsReady, IsSized, size_of, weight, weights, flat_weight, flat_weights, AreExpandable}
use Rattle.sig_tree.specs.FlatSyntax.{Defines}
use Rattle.sig_call.proofs.Expandable.{expandable, found_all}
use Rattle.sig_call.proofs.Readiness.{call_adds, call_numbers}
use Rattle.sig_call.proofs.Whole.{first_found}

inputs_weight : (copy : Copy) (base : ℕ) (arguments : List Expression) → flat_weights (inputs_defined copy base arguments) ≡ length arguments
inputs_weight copy base [] = refl
inputs_weight copy base (a ∷ as') = let rest = inputs_weight copy (suc base) as' in omega arith

outputs_weight : (copy : Copy) (names : List Name) (output : ℕ) → flat_weights (outputs_defined copy names output) ≡ length names
outputs_weight copy [] output = refl
outputs_weight copy (n ∷ ns) output = let rest = outputs_weight copy ns (suc output) in omega arith

one_more : (size n : ℕ) → size * (n + 1) ≡ size * n + size
one_more size n = grind arith

scaled : (size a b : ℕ) → a < b → size * a + size ≤ size * b
scaled size a b below =
    let step : size * (a + 1) ≤ size * b = mul-le-mul_left size (omega arith) in
    omega (arith, one_more size a)

flat_append : (xs ys : List FlatEquation) → flat_weights (xs ++ ys) ≡ flat_weights xs + flat_weights ys
flat_append [] ys = omega arith
flat_append (x ∷ xs) ys = let rest = flat_append xs ys in omega arith

-- a call's flat equations
call_weight : (inputs body outputs later : List FlatEquation)
    → flat_weights (inputs ++ (body ++ (outputs ++ later))) ≡ flat_weights inputs + (flat_weights body + (flat_weights outputs + flat_weights later))
call_weight inputs body outputs later =
    flat_append inputs (body ++ (outputs ++ later))
    ∙ ap (λ n. flat_weights inputs + n) (flat_append body (outputs ++ later) ∙ ap (λ n. flat_weights body + n) (flat_append outputs later))

-- a clock equation counts as before
equal_weight : (copy : Copy) (operands : List Expression) → flat_weight (EqualFlat (map (flat_of copy) operands) copy.prefix) ≡ weight (Equal operands)
equal_weight copy (e ∷ f ∷ operands) = ap suc (length-map operands (flat_of copy))
equal_weight copy _ = refl

flat_size : {all : List ProcessModel} {copy : Copy} {equations : List Equations} {before after : Progress} {flat : List FlatEquation} (size : ℕ) → AreExpandable all
    → ((text : List ℕ) (p : ProcessModel) → process_of all text ≡ Some p → size_of p ≤ size) → AllByRecursion (IsReady all) equations
    → Expands all copy equations before after flat → flat_weights flat + size * length before.signals ≤ weights equations + size * length after.signals
flat_size {before = before} size sound sized ready Ended = omega arith
flat_size size sound sized ready (Defined name e rest) = let h = flat_size size sound sized ready.1 rest in omega (arith, h)
flat_size {copy = copy} size sound sized ready (Equated operands rest) =
    let h = flat_size size sound sized ready.1 rest in
    let same = equal_weight copy operands in
    omega (arith, h)
flat_size {all = all} {copy = copy} {before = before} {after = after} size sound sized ready (Expanded {inside = i} {rest = rest} {body = body} {flat = later} names name constants arguments called found inside behind) =
    let h : flat_weights body + size * length (with_copy copy before names name called).signals ≤ weights (equations_of_model called) + size * length i.signals = flat_size size sound sized (sound name.text called found).equations inside in
    let k : flat_weights later + size * length i.signals ≤ weights rest + size * length after.signals = flat_size size sound sized ready.1 behind in
    let numbers = call_numbers all names name constants arguments called ready.0 found in
    let inputs : length arguments ≡ length (inputs_of called) = numbers.inputs in
    let outputs : length names ≡ length (outputs_of called) = numbers.outputs in
    let adds : length before.signals < length (with_copy copy before names name called).signals = call_adds all copy before names name constants arguments called ready.0 found in
    let more : size * length before.signals + size ≤ size * length (with_copy copy before names name called).signals = scaled size _ _ adds in
    let few : weights (equations_of_model called) + (length (inputs_of called) + length (outputs_of called)) ≤ size = sized name.text called found in
    let base = length before.signals in
    let output = length before.signals + length (inputs_of called) in
    let whole = call_weight (inputs_defined copy base arguments) body (outputs_defined copy names output) later in
    let first : flat_weights (inputs_defined copy base arguments) ≡ length arguments = inputs_weight copy base arguments in
    let last : flat_weights (outputs_defined copy names output) ≡ length names = outputs_weight copy names output in
    omega arith

pub body_size : (program : List ProcessModel) (flat : FlatBody) (size : ℕ) → IsTree program → IsWellFormed program → IsSized size program → IsFlatBody program flat → flat_weights flat.equations ≤ size * (length flat.signals + 1)
body_size [] flat size tree well sized is = elim is [ ]
body_size (p ∷ ps) flat size tree well sized is =
    let all = all_processes (p ∷ ps) in
    let text = (name_of p).text in
    let found : process_of all text ≡ Some p = first_found p ps in
    let sound = expandable (p ∷ ps) tree well in
    let each : (t : List ℕ) (q : ProcessModel) → process_of all t ≡ Some q → size_of q ≤ size = λ t q here. found_all (λ r. size_of r ≤ size) (λ r. bytes_eq (name_of r).text t) all q sized here in
    let h = flat_size size sound each (sound text p found).equations is.2 in
    let few : size_of p ≤ size = each text p found in
    let signals : length flat.signals ≡ length is.0.signals = ap (λ (f : FlatBody). length f.signals) is.3 in
    let equations : flat_weights flat.equations ≡ flat_weights is.1 = ap (λ (f : FlatBody). flat_weights f.equations) is.3 in
    let product : size * (length flat.signals + 1) ≡ size * length is.0.signals + size = ap (λ n. size * (n + 1)) signals ∙ one_more size (length is.0.signals) in
    omega (arith, h)

-- each equation counts
pub no_more : (qs : List FlatEquation) → length qs ≤ flat_weights qs
no_more [] = omega arith
no_more (Defines left e prefix ∷ qs) = let rest = no_more qs in omega arith
no_more (EqualFlat [] prefix ∷ qs) = let rest = no_more qs in omega arith
no_more (EqualFlat (e ∷ []) prefix ∷ qs) = let rest = no_more qs in omega arith
no_more (EqualFlat (e ∷ f ∷ operands) prefix ∷ qs) = let rest = no_more qs in omega arith

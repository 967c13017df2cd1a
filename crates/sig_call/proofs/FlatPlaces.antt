-- The places of a flat body are places of its program: what holds at those of the processes holds at those of the flat body.
use Rattle.sig_call.proofs.Common.{◌≡◌, ◌++◌, ◌+◌, ℕ, suc, List, [], ◌∷◌, None, Some, Option, length, map, sym, subst, AllByRecursion, bytes_eq, Signal, Span, Name, Neg, Expression, Named, Number, Unary as UnaryForm, Binary as BinaryForm, Delay as DelayForm, Cell as CellForm, Equations, ProcessModel, FlatEquation, FlatBody, inputs_of, name_of, process_of, all_processes, Binding as BoundTo, BoundSignal, BoundConstant, Copy, Progress, Expands, Ended, Defined, Equated, Expanded, IsFlatBody, binding_of, copied_signals, copy_prefix, cluster_of_call, flat_name, flat_of, flat_right, inputs_defined, outputs_defined, signals_declared, Token, InOrder, leaves_of, HasTree, AtOperators, AtPlaces, AtPlacesOfBody, AtPlacesOfEquation, IsWithin, FlatExpression, all_both}
use Rattle.sig_tree.specs.FlatSyntax.{Unary, Binary, Delay, Cell}
use Rattle.sig_call.proofs.Expandable.{found_all}
use Rattle.sig_call.proofs.ProcessRules.{all_map}
use Rattle.sig_call.proofs.Places.{AtNames, AtPlacesOf, ArePlaced, IsPlaced, all_placed, leaves_placed}
use Rattle.sig_call.proofs.Whole.{first_found}

-- expressions
name_at : (Holds : Span → Type 0) (bound : Option BoundTo) (at : Span) → Holds at → AtPlaces Holds (flat_name bound at)
name_at Holds None at h = h
name_at Holds (Some (BoundSignal number)) at h = h
name_at Holds (Some (BoundConstant value kind)) at h = h

pub flat_at : (Holds : Span → Type 0) (copy : Copy) (e : Expression) → AtPlacesOf Holds e → AtPlaces Holds (flat_of copy e)
flat_at Holds copy (Named name) h = name_at Holds (binding_of copy name.text) name.at h
flat_at Holds copy (UnaryForm Neg (Number value number_at) at) h = h.0
flat_at Holds copy (UnaryForm op operand at) h = (h.0, flat_at Holds copy operand h.1)
flat_at Holds copy (BinaryForm op left right at) h = (h.0, flat_at Holds copy left h.1, flat_at Holds copy right h.2)
flat_at Holds copy (DelayForm operand init at) h = (h.0, flat_at Holds copy operand h.1)
flat_at Holds copy (CellForm operand held init at) h = (h.0, flat_at Holds copy operand h.1, flat_at Holds copy held h.2)
flat_at Holds copy _ h = h

pub right_at : (Holds : Span → Type 0) (copy : Copy) (left : Name) (e : Expression) → AtPlacesOf Holds e → AtPlaces Holds (flat_right copy left e)
right_at Holds copy left (DelayForm operand None at) h = (h.0, flat_at Holds copy operand h.1)
right_at Holds copy left e h = flat_at Holds copy e h

operands_at : (Holds : Span → Type 0) (copy : Copy) (es : List Expression) → AllByRecursion (AtPlacesOf Holds) es → AllByRecursion (AtPlaces Holds) (map (flat_of copy) es)
operands_at Holds copy [] h = tt
operands_at Holds copy (e ∷ es) h = (flat_at Holds copy e h.0, operands_at Holds copy es h.1)

-- what holds at the places of a flat expression makes something hold at those of its operators
pub operators_of : (P Q : Span → Type 0) → ((at : Span) → P at → Q at) → (e : FlatExpression) → AtPlaces P e → AtOperators Q e
operators_of P Q so (Unary op operand at) h = (so at h.0, operators_of P Q so operand h.1)
operators_of P Q so (Binary op left right at) h = (so at h.0, operators_of P Q so left h.1, operators_of P Q so right h.2)
operators_of P Q so (Delay operand init at) h = (so at h.0, operators_of P Q so operand h.1)
operators_of P Q so (Cell operand held init at) h = (so at h.0, operators_of P Q so operand h.1, operators_of P Q so held h.2)
operators_of P Q so _ h = tt

-- the definitions of a call
inputs_at : (Holds : Span → Type 0) (copy : Copy) (base : ℕ) (es : List Expression) → AllByRecursion (AtPlacesOf Holds) es → AllByRecursion (AtPlacesOfEquation Holds) (inputs_defined copy base es)
inputs_at Holds copy base [] h = tt
inputs_at Holds copy base (e ∷ es) h = (flat_at Holds copy e h.0, inputs_at Holds copy (suc base) es h.1)

outputs_at : (Holds : Span → Type 0) (copy : Copy) (names : List Name) (output : ℕ) → AtNames Holds names → AllByRecursion (AtPlacesOfEquation Holds) (outputs_defined copy names output)
outputs_at Holds copy [] output h = tt
outputs_at Holds copy (n ∷ ns) output h = (h.0, outputs_at Holds copy ns (suc output) h.1)

-- the signals of a copy
abbrev AtSignals : (Span → Type 0) → List Signal → Type 0
AtSignals Holds signals = AllByRecursion (λ (signal : Signal). Holds signal.at) signals

copied_at : (Holds : Span → Type 0) (prefix : List ℕ) (cluster : ℕ) (p : ProcessModel) → ArePlaced Holds p → AtSignals Holds (copied_signals prefix cluster p)
copied_at Holds prefix cluster p placed = all_map (λ (signal : Signal). Holds signal.at) _ (signals_declared p) placed.declared

-- the signals after an expansion, and its equations
record Expansion (Holds : Span → Type 0) (after : Progress) (flat : List FlatEquation) : Type 0 where
  signals : AtSignals Holds after.signals
  equations : AllByRecursion (AtPlacesOfEquation Holds) flat

expansion : {all : List ProcessModel} {copy : Copy} {equations : List Equations} {before after : Progress} {flat : List FlatEquation} (Holds : Span → Type 0)
    → ((text : List ℕ) (p : ProcessModel) → process_of all text ≡ Some p → ArePlaced Holds p)
    → AllByRecursion (IsPlaced Holds) equations → AtSignals Holds before.signals → Expands all copy equations before after flat → Expansion Holds after flat
expansion Holds each placed signals Ended = record { signals = signals; equations = tt }
expansion {copy = copy} Holds each placed signals (Defined name e behind) =
    let rest = expansion Holds each placed.1 signals behind in
    record { signals = rest.signals; equations = (right_at Holds copy name e placed.0.1, rest.equations) }
expansion {copy = copy} Holds each placed signals (Equated operands behind) =
    let rest = expansion Holds each placed.1 signals behind in
    record { signals = rest.signals; equations = (operands_at Holds copy operands placed.0, rest.equations) }
expansion {copy = copy} {before = before} Holds each placed signals (Expanded {inside = i} {body = body} {flat = later} names name constants arguments called found inside behind) =
    let base = length before.signals in
    let prefix : List ℕ = copy_prefix name (suc before.calls) in
    let cluster : ℕ = cluster_of_call copy before.signals names in
    let own = each name.text called found in
    let within = expansion Holds each own.equations
    (all_both (λ (signal : Signal). Holds signal.at) before.signals (copied_signals prefix cluster called) signals (copied_at Holds prefix cluster called own)) inside in
    let rest = expansion Holds each placed.1 within.signals behind in
    let output = base + length (inputs_of called) in
    record {
      signals = rest.signals;
      equations = all_both (AtPlacesOfEquation Holds) (inputs_defined copy base arguments) (body ++ (outputs_defined copy names output ++ later)) (inputs_at Holds copy base arguments placed.0.1)
          (all_both (AtPlacesOfEquation Holds) body (outputs_defined copy names output ++ later) within.equations
          (all_both (AtPlacesOfEquation Holds) (outputs_defined copy names output) later (outputs_at Holds copy names output placed.0.0) rest.equations));
    }

-- the flat body of a program
body_at : (Holds : Span → Type 0) (program : List ProcessModel) (flat : FlatBody) → AllByRecursion (ArePlaced Holds) (all_processes program) → IsFlatBody program flat → AtPlacesOfBody Holds flat
body_at Holds [] flat placed is = elim is [ ]
body_at Holds (p ∷ ps) flat placed is =
    let all = all_processes (p ∷ ps) in
    let each : (text : List ℕ) (q : ProcessModel) → process_of all text ≡ Some q → ArePlaced Holds q = λ text q here. found_all (ArePlaced Holds) (λ r. bytes_eq (name_of r).text text) all q placed here in
    let own = each (name_of p).text p (first_found p ps) in
    let made = expansion Holds each own.equations (copied_at Holds [] 0 p own) is.2 in
    subst (AtPlacesOfBody Holds) (sym is.3) record { signals = made.signals; equations = made.equations }

-- the flat body of a text: its places lie in the text
pub body_within : (text : List ℕ) (tokens : List Token) (program : List ProcessModel) (flat : FlatBody) → InOrder text 0 tokens → HasTree (leaves_of text tokens) program
    → IsFlatBody program flat → AtPlacesOfBody (IsWithin (length text)) flat
body_within text tokens program flat order tree is =
    body_at (IsWithin (length text)) program flat (all_placed (IsWithin (length text)) program (leaves_of text tokens) tree (leaves_placed text tokens 0 order)) is

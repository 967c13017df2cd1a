-- What is asked for of parts of a process.
use Rattle.std.specs.Prelude.{◌≡◌, ◌≢◌, ◌⊎◌, ◌++◌, ◌∷◌}
use Rattle.sig_type.specs.Prelude.{ℕ, List, [], Option, None, Some, Contains, flat_map, Kind, Name, Equations, ProcessModel, Declaration, declaration_of, texts, with_earlier, left_sides, called_in, name_of, params_of, Offence, InputDefined, DefinedTwice, Undefined, BadCall, Recursive, BadPragma, Candidate, candidate, each, IsGiven, IsSignal, clash_of_left, clashes_of_inits, clashes_of_equation, bad_calls_of, Reaches}

-- names that are named before
abbrev pub repeated : (Name → Offence) → List Name → List Candidate
repeated offence names = each (λ name. candidate (offence name.1) (Contains (texts name.0) name.1.text) ∷ []) (with_earlier names)

-- left sides that are inputs or parameters
abbrev pub given_in : List Declaration → List Name → List Candidate
given_in scope names = each (λ name. candidate (InputDefined name) (IsGiven (declaration_of scope name.text)) ∷ []) names

-- declarations that are not among the texts of left sides
abbrev pub undefined_in : List (List ℕ) → List Declaration → List Candidate
undefined_in lefts declared = each (λ d. candidate (Undefined d.name) (Contains lefts d.name.text → ⊥) ∷ []) declared

-- left sides that are given one kind
abbrev pub lefts_given : List Declaration → Option Kind → List Name → List Candidate
lefts_given scope given names = each (λ name. clash_of_left scope given name ∷ []) names

-- the clashes of a process, by its scope, its outputs, its equations and its locals
abbrev pub clashes_in : List ProcessModel → (scope outputs : List Declaration) → List Equations → List Declaration → List Candidate
clashes_in all scope outputs equations locals = clashes_of_inits scope outputs ++ (each (clashes_of_equation all scope) equations ++ clashes_of_inits scope locals)

-- names in a pragma that are no signals or are named before; the earlier names stand for their texts
abbrev pub placed_twice : List Declaration → List (List ℕ) → List Name → List Candidate
placed_twice scope earlier [] = []
placed_twice scope earlier (name ∷ names) =
    candidate (BadPragma name.at) ((IsSignal (declaration_of scope name.text) → ⊥) ⊎ Contains earlier name.text) ∷ placed_twice scope (earlier ++ name.text ∷ []) names

-- the rules on the left sides of a process, by its scope, its outputs, its equations and its locals
abbrev pub definitions_in : (scope outputs : List Declaration) → List Equations → List Declaration → List Candidate
definitions_in scope outputs equations locals = given_in scope (flat_map left_sides equations) ++ (repeated DefinedTwice (flat_map left_sides equations)
    ++ undefined_in (texts (flat_map left_sides equations)) (outputs ++ locals))

-- calls that lead back to a name
abbrev pub recursive_in : List ProcessModel → List ℕ → List Name → List Candidate
recursive_in all back names = each (λ name. candidate (Recursive name) (Reaches all name.text back) ∷ []) names

-- the rules on the calls of a process, by its equations
abbrev pub calls_in : (all before : List ProcessModel) → ProcessModel → List Equations → List Candidate
calls_in all before p equations = (candidate (BadCall (name_of p)) ((before ≡ []) × (params_of p ≢ [])) ∷ each (bad_calls_of all) equations)
    ++ recursive_in all (name_of p).text (flat_map called_in equations)

-- a left side of a call, where the called process has an output for it
abbrev pub result_at : List Declaration → Name → Option Kind → List Candidate
result_at scope name None = []
result_at scope name (Some kind) = clash_of_left scope (Some kind) name ∷ []

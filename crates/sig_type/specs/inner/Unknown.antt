-- Names that are used for signals, and all uses.
use Rattle.std.specs.Prelude.{◌≡◌, ◌++◌, ◌∷◌}
use Rattle.sig_type.specs.Prelude.{List, [], None, flat_map, Name, ProcessModel, Equations, Declaration, declaration_of, Use, uses_of_inits, uses_of_equation, Unknown, Candidate, candidate, each, unknown_use}

abbrev pub unknown_signals : List Declaration → List Name → List Candidate
unknown_signals declared names = each (λ name. candidate (Unknown name) (declaration_of declared name.text ≡ None) ∷ []) names

abbrev pub unknown_uses : List ProcessModel → List Declaration → List Use → List Candidate
unknown_uses all declared used = each (λ u. unknown_use all declared u ∷ []) used

-- the unknown names of a process, by its scope, its outputs, its equations and its locals
abbrev pub unknown_in : List ProcessModel → (scope outputs : List Declaration) → List Equations → List Declaration → List Candidate
unknown_in all scope outputs equations locals =
    unknown_uses all scope (uses_of_inits outputs ++ (flat_map uses_of_equation equations ++ uses_of_inits locals))

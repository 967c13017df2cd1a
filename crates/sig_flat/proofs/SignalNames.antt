-- The signals of a kernel have names wherever those of the flat body and the intermediates of its operators have.
use Rattle.sig_flat.proofs.Common.{ℕ, List, [], ◌∷◌, AllByRecursion, Signal, Span, IsSignalName, placed_name, AtOperators, NamesOperators, FlatExpression, FlatEquation, Defines, Equal, FlatBody, place_of, kernel_of}
use Rattle.sig_flat.proofs.Kept.{Asks, all_kept}

-- an intermediate made here has a name
abbrev NamesAt : List ℕ → Span → Type 0
NamesAt prefix at = IsSignalName (placed_name prefix at)

-- nothing is asked at the places of whole expressions
abbrev Anywhere : Span → Type 0
Anywhere at = Unit {0}

operands_asked : (prefix : List ℕ) (es : List FlatExpression) → AllByRecursion (AtOperators (NamesAt prefix)) es → AllByRecursion (λ e. Anywhere (place_of e) × AtOperators (NamesAt prefix) e) es
operands_asked prefix [] names = tt
operands_asked prefix (e ∷ es) names = ((tt, names.0), operands_asked prefix es names.1)

equation_asked : (q : FlatEquation) → NamesOperators q → Asks NamesAt Anywhere q
equation_asked (Defines left e prefix) names = (tt, names)
equation_asked (Equal operands prefix) names = operands_asked prefix operands names

equations_asked : (qs : List FlatEquation) → AllByRecursion NamesOperators qs → AllByRecursion (Asks NamesAt Anywhere) qs
equations_asked [] names = tt
equations_asked (q ∷ qs) names = (equation_asked q names.0, equations_asked qs names.1)

pub signals_named : (flat : FlatBody) → AllByRecursion (λ (signal : Signal). IsSignalName signal.name) flat.signals → AllByRecursion NamesOperators flat.equations
    → AllByRecursion (λ (signal : Signal). IsSignalName signal.name) (kernel_of flat).signals
signals_named flat all names =
    (all_kept (λ (signal : Signal). IsSignalName signal.name) Anywhere NamesAt (λ site kind at name. name) (λ prefix at name. tt)
    flat.equations (record { signals = flat.signals; equations = [] }) (equations_asked flat.equations names) (record { signals = all; equations = tt })).signals

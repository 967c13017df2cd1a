-- The places of a kernel are places of its flat body.
use Rattle.sig_flat.proofs.Common.{ℕ, List, [], ◌∷◌, AllByRecursion, Signal, Span, FlatEquation, Defines, Equal, FlatBody, kernel_of, AtPlacesOfKernel, AtTakenOfBody, AtTakenOfEquation}
use Rattle.sig_flat.proofs.Kept.{Asks, all_kept}

-- the same at each operator, whatever its prefix
abbrev AtAny : (Span → Type 0) → List ℕ → Span → Type 0
AtAny Holds prefix at = Holds at

equation_asked : (Holds : Span → Type 0) (q : FlatEquation) → AtTakenOfEquation Holds q → Asks (AtAny Holds) Holds q
equation_asked Holds (Defines left e prefix) h = h
equation_asked Holds (Equal operands prefix) h = h

equations_asked : (Holds : Span → Type 0) (qs : List FlatEquation) → AllByRecursion (AtTakenOfEquation Holds) qs → AllByRecursion (Asks (AtAny Holds) Holds) qs
equations_asked Holds [] h = tt
equations_asked Holds (q ∷ qs) h = (equation_asked Holds q h.0, equations_asked Holds qs h.1)

pub places_kept : (Holds : Span → Type 0) (flat : FlatBody) → AtTakenOfBody Holds flat → AtPlacesOfKernel Holds (kernel_of flat)
places_kept Holds flat at =
    let kept = all_kept (λ (signal : Signal). Holds signal.at) Holds (AtAny Holds) (λ site kind place held. held) (λ prefix place held. held)
    flat.equations (record { signals = flat.signals; equations = [] }) (equations_asked Holds flat.equations at.equations) (record { signals = at.signals; equations = tt }) in
    record { signals = kept.signals; equations = kept.equations }

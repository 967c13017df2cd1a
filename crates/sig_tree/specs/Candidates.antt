-- What may be wrong, in the order in which it is asked for.
use Rattle.std.specs.Prelude.{◌≡◌, ◌⊎◌, ◌++◌, ◌∷◌}
use Rattle.sig_tree.specs.Prelude.{List, [], ⊤, Span}
use Rattle.sig_tree.specs.declared.expr.Name.{Name}

-- what is refused of a program, with the name or the place that is said of it
pub data Offence : Type 0 where
  Unknown : Name → Offence
  DeclaredTwice : Name → Offence
  InputDefined : Name → Offence
  DefinedTwice : Name → Offence
  Undefined : Name → Offence
  Clash : Span → Offence
  BareConstant : Span → Offence
  BadCall : Name → Offence
  Recursive : Name → Offence
  BadPragma : Span → Offence
  NoInit : Span → Offence

-- an offence, and the statement that makes it one
pub record Candidate : Type 1 where
  pub offence : Offence
  pub Holds : Type 0

abbrev pub candidate : Offence → Type 0 → Candidate
candidate offence Holds = record { offence = offence; Holds = Holds }

-- the candidates of each element of a list, in its order
abbrev pub each : {A : Type 0} → (A → List Candidate) → List A → List Candidate
each of [] = []
each of (x ∷ xs) = of x ++ each of xs

-- no candidate holds
abbrev pub NoneHolds : List Candidate → Type 0
NoneHolds [] = ⊤
NoneHolds (c ∷ cs) = (c.Holds → ⊥) × NoneHolds cs

-- the first candidate that holds has this offence
abbrev pub IsFirst : List Candidate → Offence → Type 0
IsFirst [] offence = ⊥
IsFirst (c ∷ cs) offence = (c.Holds × (offence ≡ c.offence)) ⊎ ((c.Holds → ⊥) × IsFirst cs offence)

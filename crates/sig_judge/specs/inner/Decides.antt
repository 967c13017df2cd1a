-- Answers that decide whether something is there: `Some` tells what it is, `None` that there is nothing.
use Rattle.std.specs.Prelude.{◌≡◌, ◌⊎◌, ◌++◌, ◌∷◌}
use Rattle.sig_judge.specs.Prelude.{ℕ, ℤ, Bool, true, false, Option, None, Some, List, length, AllZip, Seen as SeenAt, Instant, FlatExpression, FlatEquation, Operand, Signal, Constant, Steps, EquationSteps, BodySteps}
use Rattle.sig_judge.specs.Rows.{seen_of}
use Rattle.sig_judge.specs.declared.operator.Found.{Found}
use Rattle.sig_judge.specs.declared.operator.Found.TheVariants.{Signal as FoundSignal, Constant as FoundConstant}
use Rattle.sig_judge.specs.declared.trace.Seen.{Seen}

-- what the code finds an operand to be
abbrev pub operand_of : Found → Operand
operand_of (FoundSignal seen) = Signal (seen_of seen)
operand_of (FoundConstant c) = Constant c

-- what a signal is that is as told
abbrev pub DecidesSeen : (SeenAt → Type 0) → Option Seen → Type 0
DecidesSeen Is None = (v : SeenAt) → Is v → ⊥
DecidesSeen Is (Some seen) = Is (seen_of seen)

-- a value that a present signal has
abbrev pub DecidesValue : (SeenAt → Type 0) → Option ℤ → Type 0
DecidesValue Is None = (v : SeenAt) → Is v → ⊥
DecidesValue Is (Some value) = Is (Some value)

-- what an expression is at an instant, and what it becomes
abbrev pub DecidesStep : FlatExpression → Instant → Option Found → FlatExpression → Type 0
DecidesStep e now None next = (o : Operand) (other : FlatExpression) → Steps e now o other → ⊥
DecidesStep e now (Some found) next = Steps e now (operand_of found) next

-- whether something steps, and to what
abbrev pub DecidesWhether : {A : Type 0} → (A → Type 0) → Bool → A → Type 0
DecidesWhether {A} StepsTo false next = (other : A) → StepsTo other → ⊥
DecidesWhether {A} StepsTo true next = StepsTo next

-- an expression has a meaning at an instant, and is present there or not
abbrev pub HasPresence : Instant → Bool → FlatExpression → FlatExpression → Type 0
HasPresence now false e next = Steps e now (Signal None) next
HasPresence now true e next = (v : ℤ) × Steps e now (Signal (Some v)) next

abbrev pub DecidesPresence : FlatExpression → Instant → Option Bool → FlatExpression → Type 0
DecidesPresence e now None next = (presence : Bool) (other : FlatExpression) → HasPresence now presence e other → ⊥
DecidesPresence e now (Some present) next = HasPresence now present e next
    × ((presence : Bool) (other : FlatExpression) → HasPresence now presence e other → presence ≡ present)

-- all are absent, or all are present
abbrev pub Agree : Instant → List FlatExpression → List FlatExpression → Type 0
Agree now operands nexts = AllZip (HasPresence now false) operands nexts ⊎ AllZip (HasPresence now true) operands nexts

-- an instant does not satisfy the equation behind so many, and satisfies those
pub record BreaksAt (now : Instant) (equations : List FlatEquation) (index : ℕ) : Type 0 where
  pub earlier : List FlatEquation
  pub broken : FlatEquation
  pub later : List FlatEquation
  pub equations_are : equations ≡ earlier ++ broken ∷ later
  pub index_is : index ≡ length earlier
  pub nexts : List FlatEquation
  pub steps : BodySteps now earlier nexts
  pub breaks : (next : FlatEquation) → EquationSteps now broken next → ⊥

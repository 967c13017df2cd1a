-- The places that a kernel takes from its flat body: those of the signals, of the operators and of whole expressions.
use Rattle.sig_flat.specs.Prelude.{AllByRecursion, Span, FlatExpression, FlatEquation, Defines, Equal, FlatBody, Kernel}
use Rattle.sig_tree.specs.SignalNames.{AtOperators}
use Rattle.sig_flat.specs.KernelOf.{place_of}

-- what holds at the place of a whole expression and of each operator in it
abbrev pub AtTaken : (Span → Type 0) → FlatExpression → Type 0
AtTaken Holds e = Holds (place_of e) × AtOperators Holds e

abbrev pub AtTakenOfEquation : (Span → Type 0) → FlatEquation → Type 0
AtTakenOfEquation Holds (Defines left e prefix) = AtTaken Holds e
AtTakenOfEquation Holds (Equal operands prefix) = AllByRecursion (AtTaken Holds) operands

-- it holds at all of these places of a flat body
pub record AtTakenOfBody (Holds : Span → Type 0) (flat : FlatBody) : Type 0 where
  pub signals : AllByRecursion (λ signal. Holds signal.at) flat.signals
  pub equations : AllByRecursion (AtTakenOfEquation Holds) flat.equations

-- it holds at the places of a kernel's signals and equations
pub record AtPlacesOfKernel (Holds : Span → Type 0) (kernel : Kernel) : Type 0 where
  pub signals : AllByRecursion (λ signal. Holds signal.at) kernel.signals
  pub equations : AllByRecursion (λ equation. Holds equation.at) kernel.equations

-- Systems of programs that are joined by links, first in first out (Kahn 1974). An event of a system is one reaction of one of its
-- programs: it takes the values of the inputs that are present from the links that lead to them, and gives the values of the outputs
-- that are present to the links that lead from them.
use Rattle.std.specs.Prelude.{◌≡◌, ◌<◌, ◌+◌, ◌++◌, ◌∷◌, ◌==◌, if◌then◌else◌}
use Rattle.sig_system_laws.specs.Prelude.{ℕ, ℤ, false, List, [], length, slice_get, slice_index_or, Option, None, Some, Bounded, Instant, IsPrefixOf, Trace, flow_of, is_silent, IsReaction, remembered, IsValid, Kernel, IsAcceptedKernel}

-- from where an input of a program takes its values: from an input of the system, or from an output of a program
pub data Source : Type 0 where
  Outside : (input : ℕ) → Source
  Output : (program output : ℕ) → Source

-- The programs, each by its kernel: each instance of a program has a place of its own in the list. A link is named by its reader, a
-- program and an input of it: so it has one reader, and by `source` one writer. An output that is the source of several links gives
-- all its values to each of them.
pub record System : Type 0 where
  pub programs : List Kernel
  pub source : (program input : ℕ) → Source

-- each program is valid and accepted
abbrev pub AreAccepted : System → Type 0
AreAccepted system = (k : ℕ) (kernel : Kernel) → slice_get system.programs k ≡ Some kernel → IsValid kernel × IsAcceptedKernel kernel

-- what the run of a system is given
pub record Given : Type 0 where
  pub system : System
  -- the flow of each input of the system
  pub flows : List (List ℤ)
  -- how many instants each program is run
  pub limit : (program : ℕ) → ℕ

-- ---- states

-- the instants that each program has committed
abbrev pub State : Type 0
State = ℕ → Trace

abbrev pub start : State
start k = []

-- the program k has committed one more instant
abbrev pub committed : State → ℕ → Instant → State
committed s k instant j = if j == k then s j ++ instant ∷ [] else s j

-- what a program gave to an output
abbrev pub given_by : Option Kernel → ℕ → Trace → List ℤ
given_by None output trace = []
given_by (Some kernel) output trace = flow_of (kernel.inputs + output) trace

-- what a source gave, taken or not
abbrev pub from_source : Given → State → Source → List ℤ
from_source given s (Outside input) = slice_index_or given.flows input []
from_source given s (Output program output) = given_by (slice_get given.system.programs program) output (s program)

-- what the link to an input carried, taken or not
abbrev pub carried : Given → State → (program input : ℕ) → List ℤ
carried given s k input = from_source given s (given.system.source k input)

-- a program takes from flows: what it takes of each input begins the flow for it
abbrev pub TakesFrom : Kernel → (ℕ → List ℤ) → Trace → Type 0
TakesFrom kernel flows trace = (input : ℕ) → input < kernel.inputs → IsPrefixOf (flow_of input trace) (flows input)

-- ---- events

-- The program k can commit an instant: it reacts so to what it remembers, and the values that it takes are there, after those that it
-- took before. (Instants in which no signal is present make no difference, and are left out.)
pub record IsEnabled (given : Given) (s : State) (k : ℕ) (instant : Instant) : Type 0 where
  pub kernel : Kernel
  pub program : slice_get given.system.programs k ≡ Some kernel
  pub within : length (s k) < given.limit k
  pub reacts : IsReaction Bounded kernel (remembered (s k)) instant
  pub speaks : is_silent instant ≡ false
  pub there : TakesFrom kernel (carried given s k) (s k ++ instant ∷ [])

-- a state after some events, in whatever order, from another state
pub data IsReachedFrom (given : Given) (from : State) : State → Type 0 where
  stays : IsReachedFrom given from from
  goes_on : (s : State) (k : ℕ) (instant : Instant) → IsReachedFrom given from s → IsEnabled given s k instant
      → IsReachedFrom given from (committed s k instant)

-- a state after some events from the start: after an interleaving of the programs
abbrev pub IsReached : Given → State → Type 0
IsReached given s = IsReachedFrom given start s

-- no program can go on
abbrev pub IsFinal : Given → State → Type 0
IsFinal given s = (k : ℕ) (instant : Instant) → IsEnabled given s k instant → ⊥

-- all that the programs did in one state begins what they did in another one
abbrev pub Begins : State → State → Type 0
Begins s t = (k : ℕ) → IsPrefixOf (s k) (t k)

-- Links between outputs and inputs of the same kind.
use Rattle.std.specs.Prelude.{◌≡◌, ◌<◌, ◌+◌}
use Rattle.sig_system_laws.specs.Prelude.{ℕ, ℤ, List, [], map, range_with_len, slice_get, slice_index_or, Some, AllByRecursion, Bounded, IsValue, Kind, kind_of, Kernel}
use Rattle.sig_system_laws.specs.Systems.{Source, Outside, Output, System, Given, State, carried}

-- a program is there, and has this output, of this kind
pub record HasOutput (system : System) (program output : ℕ) (kind : Kind) : Type 0 where
  pub kernel : Kernel
  pub is : slice_get system.programs program ≡ Some kernel
  pub below : output < kernel.outputs
  pub of : kind_of (slice_get kernel.signals (kernel.inputs + output)) ≡ Some kind

-- a source gives values of this kind: the values of a flow from outside are of the kind, or an output is
abbrev pub HasKind : Given → Source → Kind → Type 0
HasKind given (Outside input) kind = AllByRecursion (IsValue Bounded kind) (slice_index_or given.flows input [])
HasKind given (Output program output) kind = HasOutput given.system program output kind

-- each input of a program has a source of its kind
abbrev pub AreJoined : Given → Type 0
AreJoined given = (k input : ℕ) (kernel : Kernel) (kind : Kind) → slice_get given.system.programs k ≡ Some kernel → input < kernel.inputs
    → kind_of (slice_get kernel.signals input) ≡ Some kind → HasKind given (given.system.source k input) kind

-- the flows that the links to the inputs of a program carried, in the order of its inputs, as a run of it is given flows
abbrev pub flows_of : Given → State → ℕ → Kernel → List (List ℤ)
flows_of given s k kernel = map (carried given s k) (range_with_len 0 kernel.inputs)

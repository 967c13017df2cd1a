-- Systems whose links hold no more than so many values.
use Rattle.std.specs.Prelude.{◌≡◌, ◌<◌, ◌≤◌, ◌+◌}
use Rattle.sig_system_laws.specs.Prelude.{ℕ, length, slice_get, Some, Instant, flow_of, Kernel}
use Rattle.sig_system_laws.specs.Systems.{Output, System, Given, State, start, committed, from_source, carried, IsEnabled}

-- a link leads from an output of a program to an input of a program
pub record IsLink (system : System) (writer output reader input : ℕ) : Type 0 where
  pub kernel : Kernel
  pub program : slice_get system.programs reader ≡ Some kernel
  pub below : input < kernel.inputs
  pub source : system.source reader input ≡ Output writer output

-- how many values a link holds, by its reader and the input
abbrev pub Capacity : Type 0
Capacity = (program input : ℕ) → ℕ

-- There is room for what the program k gives in an instant: no link from it comes to hold more than it may. The values that the
-- program takes in this instant from a link to itself make room only after it.
abbrev pub HasRoom : Given → Capacity → State → ℕ → Instant → Type 0
HasRoom given capacity s k instant = (output reader input : ℕ) → IsLink given.system k output reader input
    → length (from_source given (committed s k instant) (Output k output)) ≤ capacity reader input + length (flow_of input (s reader))

-- a state after some events, each with room, from another state
pub data IsReachedFromWithin (given : Given) (capacity : Capacity) (from : State) : State → Type 0 where
  stays : IsReachedFromWithin given capacity from from
  goes_on : (s : State) (k : ℕ) (instant : Instant) → IsReachedFromWithin given capacity from s → IsEnabled given s k instant
      → HasRoom given capacity s k instant → IsReachedFromWithin given capacity from (committed s k instant)

-- a state after some events from the start, each with room
abbrev pub IsReachedWithin : Given → Capacity → State → Type 0
IsReachedWithin given capacity s = IsReachedFromWithin given capacity start s

-- no program can go on that has room for what it gives
abbrev pub IsStill : Given → Capacity → State → Type 0
IsStill given capacity s = (k : ℕ) (instant : Instant) → IsEnabled given s k instant → HasRoom given capacity s k instant → ⊥

-- each link has room for all that it carried in a state
abbrev pub HoldsAll : Given → Capacity → State → Type 0
HoldsAll given capacity s = (writer output reader input : ℕ) → IsLink given.system writer output reader input
    → length (carried given s reader input) ≤ capacity reader input

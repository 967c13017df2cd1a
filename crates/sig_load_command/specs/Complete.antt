-- When nothing but want of memory or of nodes keeps a load from its end.
use Rattle.sig_load_command.specs.Prelude.{ℕ, ℤ, List, Kernel, flows, program, Settings, HoldTooMany}
use Rattle.sig_load_command.specs.Loads.{IsShortFlows, IsShortProgram}

-- A generated program can be run over its flows: it is accepted, its links do not hold too many items, and the flows have a
-- reading for its inputs.
pub record CanLoad (seed stages : ℕ) (settings : Settings) : Type 0 where
  pub kernel : Kernel
  pub accepted : IsShortProgram (program stages) kernel
  pub few : HoldTooMany kernel settings.capacity → ⊥
  pub values : List (List ℤ)
  pub read : IsShortFlows kernel (flows seed stages) values

-- When nothing but want of memory or of nodes keeps a run from its end.
use Rattle.sig_loaded.specs.Prelude.{ℕ, ℤ, List, FLOW_BYTES, PROGRAM_BYTES, Contents, inputs_of, Kernel, AreFlows, Settings, Holds, IsAcceptedAs}
use Rattle.sig_loaded.specs.Runs.{HoldTooMany}

-- A program can be run over flows: its file holds an accepted program, the links of that do not hold too many items, and the
-- flow file has a reading for its inputs.
pub record CanRun (held : Contents) (program flows : List ℕ) (settings : Settings) : Type 0 where
  pub kernel : Kernel
  pub accepted : Holds (held program) PROGRAM_BYTES (λ bytes. IsAcceptedAs settings.pace bytes kernel)
  pub few : HoldTooMany kernel settings.capacity → ⊥
  pub values : List (List ℤ)
  pub read : Holds (held flows) FLOW_BYTES (λ bytes. AreFlows (inputs_of kernel) bytes values)

-- Guards: functions of proposals that tell where a signal is present.
use Rattle.std.specs.Prelude.{◌≡◌, ◌<◌, ◌↔◌}
use Rattle.sig_solve.specs.Prelude.{ℕ, Bool, true, List, length, slice_get, Some, IsTrue, Contains, SigId, KeepsTo, Reaction, Speaks, is_present, Depends, Holds, test, Node, Ref}
use Rattle.sig_solve.specs.declared.frame.Frame.{Frame}

-- the guard of a signal: it is true at a proposal where some reaction that keeps to it has the signal
pub record IsGuard (nodes : List Node) (frame : Frame) (conditions : List SigId) (signal : ℕ) (r : Ref) : Type 0 where
  pub held : Holds nodes r
  pub function : (proposal : List Bool) → IsTrue (test nodes r proposal)
      ↔ ((reaction : Reaction) × Speaks frame.kernel.now reaction × KeepsTo conditions proposal reaction × (is_present reaction signal ≡ true))
  pub variables : (v : ℕ) → Depends (test nodes r) v → v < length conditions

-- the guards of the least signals, at their places
pub record AreGuards (nodes : List Node) (frame : Frame) (conditions : List SigId) (guards : List Ref) : Type 0 where
  pub count : length guards ≡ length frame.kernel.now.signals
  pub each : (s : ℕ) → Contains frame.leaders.items s → (r : Ref) × (slice_get guards s ≡ Some r) × IsGuard nodes frame conditions s r

-- The imports of each actor as marks.
use Rattle.std.specs.Prelude.{◌≡◌, ◌<◌, ◌↔◌}
use Rattle.sig_part.specs.Prelude.{ℕ, Bool, true, List, [], length, slice_index_or, SigId, Kernel, AreWritten, Operation, Imports}
use Rattle.sig_part.specs.inner.Marks.{mark_at}

-- the marked signals are those that the actor imports
pub record AreImported (kernel : Kernel) (conditions : List SigId) (operations : List Operation) (actor : ℕ) (marks : List Bool) : Type 0 where
  pub count : length marks ≡ length kernel.signals
  pub exact : (x : SigId) → (mark_at marks x.0 ≡ true) ↔ Imports kernel conditions operations actor x

-- the marks of the first n actors
pub record AreImportedBy (kernel : Kernel) (conditions : List SigId) (operations : List Operation) (n : ℕ) (marks : List (List Bool)) : Type 0 where
  pub count : length marks ≡ n
  pub each : AreWritten kernel.signals operations → (actor : ℕ) → actor < n → AreImported kernel conditions operations actor (slice_index_or marks actor [])

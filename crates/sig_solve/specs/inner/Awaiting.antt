-- Conditions for which presences wait: whatever else is known, a presence stays open until they are.
use Rattle.std.specs.Prelude.{◌≡◌, ◌≢◌, ◌↔◌}
use Rattle.sig_solve.specs.Prelude.{ℕ, Bool, true, false, List, length, slice_get, Option, Some, IsTrue, SigId, is_present, truth_of, Holds, test, Node, Ref, IsSolution, reading}
use Rattle.sig_solve.specs.inner.Asked.{IsProposalOf}
use Rattle.sig_solve.specs.declared.asked.Asked.{Asked}

-- a function is true at the solutions without the signal
pub record IsRest (nodes : List Node) (asked : Asked) (signal : ℕ) (r : Ref) : Type 0 where
  pub holds : Holds nodes r
  pub function : (truths : List Bool) → IsTrue (test nodes r truths) ↔ (IsSolution nodes asked.system truths × (is_present (reading nodes asked.system truths) signal ≡ false))

-- two solutions, one with the signal and one without it, agree on all proposals but this variable
pub record IsApart (nodes : List Node) (asked : Asked) (variable signal : ℕ) : Type 0 where
  pub with : List Bool
  pub without : List Bool
  pub solves : IsSolution nodes asked.system with
  pub other : IsSolution nodes asked.system without
  pub here : is_present (reading nodes asked.system with) signal ≡ true
  pub gone : is_present (reading nodes asked.system without) signal ≡ false
  pub agree : (v : ℕ) (condition : SigId) → IsProposalOf asked.system v condition → v ≢ variable → truth_of with v ≡ truth_of without v

-- to each signal the variable for which its presence waits, where one was found
pub record AreAwaited (nodes : List Node) (asked : Asked) (awaited : List (Option ℕ)) : Type 0 where
  pub count : length awaited ≡ length asked.frame.kernel.now.signals
  pub each : (signal variable : ℕ) → slice_get awaited signal ≡ Some (Some variable) → IsApart nodes asked variable signal

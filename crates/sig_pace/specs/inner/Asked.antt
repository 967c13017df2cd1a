-- A kernel's system in a store, with its solutions, and signals with the reactions in which they are present.
use Rattle.std.specs.Prelude.{◌≡◌, ◌↔◌, ◌&&◌}
use Rattle.sig_pace.specs.Prelude.{ℕ, Bool, List, length, slice_index_or, IsTrue, Contains, range_with_len, IsPossible, IsSignal, Holds, Implies, IsStore, Overlap, StoreView, test, Node, Ref, IsOver, IsSolution, IsSystem, SystemView}
use Rattle.sig_pace.specs.MaximalClocks.{IsBelow}
use Rattle.sig_pace.specs.declared.asked.Asked.{Asked}
use Rattle.sig_pace.specs.declared.candidates.Candidate.{Candidate}

-- the variables of a system
abbrev pub variables_of : SystemView → List ℕ
variables_of system = range_with_len system.first system.variables

-- where a signal is present
abbrev pub presence_in : SystemView → ℕ → Ref
presence_in system signal = slice_index_or system.present signal system.residue

-- the store has the system of a kernel, and one reference that is true exactly at its solutions
pub record IsAskedIn (store : StoreView) (asked : Asked) : Type 0 where
  pub has_store : IsStore store
  pub is_system : IsSystem asked.kernel.now store.nodes asked.system
  pub over : IsOver store.nodes asked.system asked.solutions
  pub solutions : (truths : List Bool) → IsTrue (test store.nodes asked.solutions truths) ↔ IsSolution store.nodes asked.system truths

-- the solutions at which a signal is present
abbrev pub reactions_in : List Node → Asked → ℕ → List Bool → Bool
reactions_in nodes asked signal truths = test nodes asked.solutions truths && test nodes (presence_in asked.system signal) truths

-- each signal's presence is a reference of the store
pub record HoldsPresences (nodes : List Node) (asked : Asked) : Type 0 where
  pub count : length asked.system.present ≡ length asked.kernel.now.signals
  pub held : (signal : ℕ) → IsSignal asked.kernel.now signal → Holds nodes (presence_in asked.system signal)

-- a signal with its reactions: they imply a presence exactly where the signal is below, and there are any where it is possible
pub record IsCandidate (nodes : List Node) (asked : Asked) (candidate : Candidate) : Type 0 where
  pub is : IsSignal asked.kernel.now candidate.signal
  pub held : Holds nodes candidate.reactions
  pub below : (y : ℕ) → IsSignal asked.kernel.now y
      → Implies nodes candidate.reactions (presence_in asked.system y) ↔ IsBelow asked.kernel.now candidate.signal y
  pub possible : Overlap nodes candidate.reactions candidate.reactions ↔ IsPossible asked.kernel.now candidate.signal

pub record AreCandidates (nodes : List Node) (asked : Asked) (candidates : List Candidate) : Type 0 where
  pub presences : HoldsPresences nodes asked
  pub each : (candidate : Candidate) → Contains candidates candidate → IsCandidate nodes asked candidate

-- The solutions of a kernel's system, and what is left of them where all variables but known proposals are forgotten.
use Rattle.std.specs.Prelude.{◌≡◌, ◌↔◌}
use Rattle.sig_solve.specs.Prelude.{ℕ, Bool, true, false, List, length, slice_get, slice_index_or, Some, IsTrue, Contains, range_with_len, SigId, IsSignal, Reaction, status_at, Depends, truth_of, IsStore, Overlap, StoreView, test, AgreeBut, Node, Ref, IsValid, AreConditions, IsOver, IsSolution, IsSystem, IsVariable, SystemView, reading}
use Rattle.sig_solve.specs.Frames.{IsFrame}
use Rattle.sig_solve.specs.declared.asked.Asked.{Asked}
use Rattle.sig_solve.specs.declared.known.Known.{Known}

-- the variables of a system
abbrev pub variables_of : SystemView → List ℕ
variables_of system = range_with_len system.first system.variables

-- each condition of a system has a variable that is its proposal, and no two have one
pub record AreProposed (system : SystemView) : Type 0 where
  pub counted : length system.proposals ≡ length system.conditions
  pub proposal : (i v : ℕ) → slice_get system.proposals i ≡ Some v → IsVariable system v
  pub apart : (i j v : ℕ) → slice_get system.proposals i ≡ Some v → slice_get system.proposals j ≡ Some v → i ≡ j

-- a variable is the proposal of a condition
abbrev pub IsProposalOf : SystemView → ℕ → SigId → Type 0
IsProposalOf system v condition = (i : ℕ) × (slice_get system.conditions i ≡ Some condition) × (slice_get system.proposals i ≡ Some v)

-- all variables are forgotten but the proposals of known conditions
pub record ForgetsAllBut (system : SystemView) (known : List SigId) (forgotten : List Bool) : Type 0 where
  pub kept : (v : ℕ) (condition : SigId) → Contains known condition → IsProposalOf system v condition → truth_of forgotten v ≡ false
  pub others : (v : ℕ) → IsVariable system v → truth_of forgotten v ≡ false → (condition : SigId) × Contains known condition × IsProposalOf system v condition

-- known conditions, with the variables that are forgotten beside their proposals
abbrev pub AreKnown : SystemView → Known → Type 0
AreKnown system known = ForgetsAllBut system known.conditions.items known.forgotten.items

-- the store has the system of a kernel, and one reference that is true exactly at its solutions
pub record IsAskedIn (store : StoreView) (asked : Asked) : Type 0 where
  pub has_store : IsStore store
  pub valid : IsValid asked.frame.kernel.now
  pub parts : IsFrame asked.frame
  pub conditions : AreConditions asked.frame.kernel.now asked.system.conditions
  pub is_system : IsSystem asked.frame.kernel.now store.nodes asked.system
  pub over : IsOver store.nodes asked.system asked.solutions
  pub solutions : (truths : List Bool) → IsTrue (test store.nodes asked.solutions truths) ↔ IsSolution store.nodes asked.system truths

-- where a signal is present
abbrev pub presence_in : SystemView → ℕ → Ref
presence_in system signal = slice_index_or system.present signal system.residue

-- the truth of a signal, where it is present
abbrev pub truth_at : SystemView → ℕ → Ref
truth_at system signal = slice_index_or system.truth signal system.residue

-- a signal is present somewhere in a part
abbrev pub IsMet : List Node → Asked → Ref → ℕ → Type 0
IsMet nodes asked part signal = IsSignal asked.frame.kernel.now signal × Overlap nodes part (presence_in asked.system signal)

-- The image of a statement on reactions: a function is true exactly where some solution, which agrees on all variables but
-- the forgotten ones, reads off a reaction of which it holds.
pub record IsImage (nodes : List Node) (asked : Asked) (forgotten : List Bool) (P : Reaction → Type 0) (r : Ref) : Type 0 where
  pub over : IsOver nodes asked.system r
  pub forgets : (v : ℕ) → Depends (test nodes r) v → truth_of forgotten v ≡ false
  pub function : (truths : List Bool) → IsTrue (test nodes r truths)
      ↔ ((others : List Bool) × AgreeBut forgotten truths others × IsSolution nodes asked.system others × P (reading nodes asked.system others))

-- images of the reactions in which a condition is present and true, and of those in which it is present and false
pub record AreHalves (nodes : List Node) (asked : Asked) (forgotten : List Bool) (condition : ℕ) (high low : Ref) : Type 0 where
  pub high_is : IsImage nodes asked forgotten (λ reaction. status_at reaction condition ≡ Some true) high
  pub low_is : IsImage nodes asked forgotten (λ reaction. status_at reaction condition ≡ Some false) low

-- to the variable of each condition the place of that condition
pub record ArePlaced (system : SystemView) (conditions : List SigId) (places : List ℕ) : Type 0 where
  pub each : (v : ℕ) (condition : SigId) → IsProposalOf system v condition → (place : ℕ) × (slice_get conditions place ≡ Some condition) × (slice_get places v ≡ Some place)

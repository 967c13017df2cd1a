-- The system of a kernel's clocks: the presence of each class and the truth of each boolean as functions of a few
-- variables, among them a proposal for each condition, and what is left to be met.
use Rattle.std.specs.Prelude.{◌+◌, ◌≡◌, ◌<◌, ◌≤◌, ◌↔◌, ◌∷◌, if◌then◌else◌}
use Rattle.sig_rel.specs.Prelude.{range_with_len, map, ℕ, Bool, true, false, List, [], length, Some, None, slice_get, Contains, IsTrue, SigId, Kernel, KeepsTo, conditions_of, is_condition, IsSignal, Reaction, Status, Speaks, status_at, SameClock, Agree, Depends, truth_of, with_truth, Holds, test, Node, Ref}
use Rattle.sig_rel.specs.Relations.{IsUnknownCount, is_boolean}

pub record SystemView : Type 0 where
  -- the presence of each signal
  pub present : List Ref
  -- the truth of each signal, where it is present
  pub truth : List Ref
  -- what the variables have to meet
  pub residue : Ref
  -- where some signal is present
  pub speaks : Ref
  -- the conditions, and to each the variable that is its proposal
  pub conditions : List SigId
  pub proposals : List ℕ
  -- the variables: so many numbers from the first one on
  pub first : ℕ
  pub variables : ℕ

abbrev pub status_read : List Node → List Bool → Ref → Ref → Status
status_read nodes truths present truth = if test nodes present truths then Some (test nodes truth truths) else None

abbrev pub statuses_read : List Node → List Bool → List Ref → List Ref → Reaction
statuses_read nodes truths [] truth = []
statuses_read nodes truths (p ∷ present) [] = []
statuses_read nodes truths (p ∷ present) (t ∷ truth) = status_read nodes truths p t ∷ statuses_read nodes truths present truth

-- the reaction that truths of the variables are
abbrev pub reading : List Node → SystemView → List Bool → Reaction
reading nodes system truths = statuses_read nodes truths system.present system.truth

-- truths meet what is left to be met, and some signal is present
abbrev pub IsSolution : List Node → SystemView → List Bool → Type 0
IsSolution nodes system truths = IsTrue (test nodes system.residue truths) × IsTrue (test nodes system.speaks truths)

-- the conditions of a kernel, each once, in some order
pub record AreConditions (kernel : Kernel) (conditions : List SigId) : Type 0 where
  pub all : (condition : SigId) → Contains conditions condition ↔ (is_condition kernel condition.0 ≡ true)
  pub once : (i j : ℕ) (condition : SigId) → slice_get conditions i ≡ Some condition → slice_get conditions j ≡ Some condition → i ≡ j
  pub count : length conditions ≡ length (conditions_of kernel)

-- the truths that are proposed for the conditions, in their order
abbrev pub proposed : SystemView → List Bool → List Bool
proposed system truths = map (truth_of truths) system.proposals

-- the number is that of a variable of the system
abbrev pub IsVariable : SystemView → ℕ → Type 0
IsVariable system v = (system.first ≤ v) × (v < system.first + system.variables)

-- a reference of the store to a function of the variables
pub record IsOver (nodes : List Node) (system : SystemView) (r : Ref) : Type 0 where
  pub held : Holds nodes r
  pub within : (v : ℕ) → Depends (test nodes r) v → IsVariable system v

-- The system of a kernel's clocks, among the nodes of a store.
pub record IsSystem (kernel : Kernel) (nodes : List Node) (system : SystemView) : Type 0 where
  pub presences : length system.present ≡ length kernel.signals
  pub truths : length system.truth ≡ length kernel.signals
  -- references of the store, over the variables
  pub present : (signal : ℕ) (r : Ref) → slice_get system.present signal ≡ Some r → IsOver nodes system r
  pub truth : (signal : ℕ) (r : Ref) → slice_get system.truth signal ≡ Some r → IsOver nodes system r
  pub residue : IsOver nodes system system.residue
  pub speaks : IsOver nodes system system.speaks
  -- the variables are no more than the unknowns, and each condition has one of its own
  pub few : (count : ℕ) → IsUnknownCount kernel count → system.variables ≤ count
  pub counted : length system.proposals ≡ length system.conditions
  pub proposal : (i v : ℕ) → slice_get system.proposals i ≡ Some v → IsVariable system v
  pub apart : (i j v : ℕ) → slice_get system.proposals i ≡ Some v → slice_get system.proposals j ≡ Some v → i ≡ j
  -- signals of one class have one presence; the truth of an event or an integer is its presence
  pub classes : (s t : ℕ) → IsSignal kernel s → IsSignal kernel t → SameClock kernel s t → slice_get system.present s ≡ slice_get system.present t
  pub plain : (signal : ℕ) → is_boolean kernel signal ≡ false → slice_get system.truth signal ≡ slice_get system.present signal
  -- the solutions read off the reactions that are not silent, all of them and no others
  pub sound : (truths : List Bool) → IsSolution nodes system truths → Speaks kernel (reading nodes system truths)
  pub complete : (reaction : Reaction) → Speaks kernel reaction
      → (truths : List Bool) × IsSolution nodes system truths × (reading nodes system truths ≡ reaction)
  -- a condition that is present has its proposal as its truth
  pub keeps : (truths : List Bool) → KeepsTo system.conditions (proposed system truths) (reading nodes system truths)
  -- the proposal of a condition that is absent makes no difference
  pub idle : (i v : ℕ) (condition : SigId) (truths : List Bool) (b : Bool) → slice_get system.conditions i ≡ Some condition → slice_get system.proposals i ≡ Some v
      → IsSolution nodes system truths → status_at (reading nodes system truths) condition.0 ≡ None
      → IsSolution nodes system (with_truth truths v b) × (reading nodes system (with_truth truths v b) ≡ reading nodes system truths)

-- nothing is left to be met, some signal is always present, and variable i is the proposal of condition i: so each proposal is a reaction
pub record IsFreeSystem (nodes : List Node) (system : SystemView) : Type 0 where
  pub residue : Agree (test nodes system.residue) (λ _. true)
  pub speaks : Agree (test nodes system.speaks) (λ _. true)
  pub first : system.first ≡ 0
  pub variables : system.variables ≡ length system.conditions
  pub proposals : system.proposals ≡ range_with_len 0 (length system.conditions)

-- the system is the free one of a kernel, over these conditions
abbrev pub IsFreeSystemOf : Kernel → List SigId → List Node → SystemView → Type 0
IsFreeSystemOf kernel conditions nodes system = (system.conditions ≡ conditions) × IsSystem kernel nodes system × IsFreeSystem nodes system

-- The clock relation of a kernel: its abstract reactions as a test over unknowns. Signals of one clock class
-- share the unknown of their presence, and each boolean has one of its truth.
use Rattle.std.specs.Prelude.{◌≡◌, ◌+◌, ◌<◌, ◌≤◌, ◌⊎◌, ◌↔◌, ◌∷◌, ◌==◌, if◌then◌else◌}
use Rattle.sig_rel.specs.Prelude.{ℕ, Bool, true, List, [], length, Option, None, Some, slice_index, slice_get, count_by, IsTrue, range_with_len, kind_at, Kernel, conditions_of, signal_id, IsSignal, Reaction, Status, IsReaction, is_boolean_kind, SameClock, AreLeast, Depends, truth_of, Holds, test, Node, Ref}

pub record RelationView : Type 0 where
  -- the function of the unknowns
  pub whole : Ref
  -- the unknown of each signal's presence
  pub present : List ℕ
  -- the unknown of each signal's truth, where it is a boolean
  pub truth : List (Option ℕ)

-- the truth of a signal; one without an unknown is true wherever it is present
abbrev pub truth_in : List Bool → Option ℕ → Bool
truth_in truths None = true
truth_in truths (Some v) = truth_of truths v

abbrev pub status_in : List Bool → ℕ → Option ℕ → Status
status_in truths present truth = if truth_of truths present then Some (truth_in truths truth) else None

-- the reaction that truths of the unknowns are
abbrev pub reaction_in : List Bool → List ℕ → List (Option ℕ) → Reaction
reaction_in truths [] truth = []
reaction_in truths (p ∷ present) [] = []
reaction_in truths (p ∷ present) (t ∷ truth) = status_in truths p t ∷ reaction_in truths present truth

abbrev pub is_boolean : Kernel → ℕ → Bool
is_boolean kernel signal = is_boolean_kind (kind_at kernel.signals (signal_id signal))

-- how many unknowns a kernel has: one for each clock class, and one for each boolean that is no event
abbrev pub IsUnknownCount : Kernel → ℕ → Type 0
IsUnknownCount kernel count = (least : List ℕ) × AreLeast kernel least
    × (count ≡ count_by (λ signal. slice_index least signal == signal) (range_with_len 0 (length kernel.signals))
    + count_by (is_boolean kernel) (range_with_len 0 (length kernel.signals)))

-- the unknown is that of a presence or of a truth
abbrev pub IsUsed : List ℕ → List (Option ℕ) → ℕ → Type 0
IsUsed present truth v = ((signal : ℕ) × (slice_get present signal ≡ Some v)) ⊎ ((signal : ℕ) × (slice_get truth signal ≡ Some (Some v)))

-- The unknowns of a kernel. They are numbered from the count of its conditions on, so that the numbers below
-- are free for these.
pub record AreUnknowns (kernel : Kernel) (count : ℕ) (present : List ℕ) (truth : List (Option ℕ)) : Type 0 where
  pub presences : length present ≡ length kernel.signals
  pub truths : length truth ≡ length kernel.signals
  pub counted : IsUnknownCount kernel count
  -- signals of one clock share a presence
  pub classes : (s t : ℕ) → IsSignal kernel s → IsSignal kernel t
      → (slice_index present s ≡ slice_index present t) ↔ SameClock kernel s t
  -- each boolean has a truth, and no other signal
  pub some : (s : ℕ) → is_boolean kernel s ≡ true → (v : ℕ) × (slice_get truth s ≡ Some (Some v))
  pub booleans : (s v : ℕ) → slice_get truth s ≡ Some (Some v) → is_boolean kernel s ≡ true
  -- no two unknowns are one
  pub apart : (s t v : ℕ) → slice_get truth s ≡ Some (Some v) → slice_get truth t ≡ Some (Some v) → s ≡ t
  pub differ : (s t v : ℕ) → slice_get present s ≡ Some v → slice_get truth t ≡ Some (Some v) → ⊥
  pub within : (v : ℕ) → IsUsed present truth v → (length (conditions_of kernel) ≤ v) × (v < length (conditions_of kernel) + count)

-- the relation of a kernel, among the nodes of a store
pub record IsRelation (kernel : Kernel) (count : ℕ) (nodes : List Node) (relation : RelationView) : Type 0 where
  pub unknowns : AreUnknowns kernel count relation.present relation.truth
  pub held : Holds nodes relation.whole
  pub spans : (v : ℕ) → Depends (test nodes relation.whole) v → IsUsed relation.present relation.truth v
  -- the test is true exactly where the truths are an abstract reaction
  pub reactions : (truths : List Bool) → IsTrue (test nodes relation.whole truths)
      ↔ IsReaction kernel (reaction_in truths relation.present relation.truth)

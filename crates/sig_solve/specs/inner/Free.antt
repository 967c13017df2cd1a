-- Free systems, and what the presence of a signal needs.
use Rattle.std.specs.Prelude.{◌≡◌, ◌==◌, ◌<◌, ◌↔◌}
use Rattle.sig_solve.specs.Prelude.{ℕ, Bool, true, not, List, [], length, slice_get, slice_index_or, Option, None, Some, Contains, list_any, SigId, Depends, IsStore, StoreView, test, Node, Kernel, AreConditions, IsFreeSystem, IsSystem, SystemView}

-- the store has the system of a kernel, and it is free: each list of truths for its conditions is a reaction
pub record IsFreeIn (kernel : Kernel) (store : StoreView) (system : SystemView) : Type 0 where
  pub has_store : IsStore store
  pub conditions : AreConditions kernel system.conditions
  pub is_system : IsSystem kernel store.nodes system
  pub is_free : IsFreeSystem store.nodes system

-- to each signal the variables on which its presence depends
pub record AreNeeds (nodes : List Node) (system : SystemView) (needs : List (List ℕ)) : Type 0 where
  pub count : length needs ≡ length system.present
  pub exact : (s : ℕ) → s < length system.present
      → (v : ℕ) → Contains (slice_index_or needs s []) v ↔ Depends (test nodes (slice_index_or system.present s system.residue)) v

-- a condition that is not known, or none
abbrev pub is_unknown_to : List SigId → Option SigId → Bool
is_unknown_to known None = true
is_unknown_to known (Some condition) = not (list_any (λ other. other.0 == condition.0) known)

-- a variable is no proposal of a known condition
abbrev pub is_unknown : List SigId → List SigId → ℕ → Bool
is_unknown conditions known v = is_unknown_to known (slice_get conditions v)

-- What the making of a relation may do to a store.
use Rattle.std.specs.Prelude.{◌+◌, ◌*◌, ◌^◌, ◌<◌, ◌≤◌}
use Rattle.sig_rel.specs.Prelude.{ℕ, List, length, Result, Ok, Err, IfOk, IfErr, StoreView, IsFull, IsStore, Keeps, HoldAll, Share, Trail, DdAnswer, Ref, Kernel, conditions_of, Some}
use Rattle.sig_rel.specs.Relations.{IsUnknownCount}
use Rattle.sig_rel.specs.Triangles.{IsTriangular}
use Rattle.sig_rel.specs.declared.answer.RelAnswer.{RelAnswer}
use Rattle.sig_rel.specs.declared.answer.RelAnswer.TheVariants.{Budget, OutOfMemory}

-- how many nodes the making of a kernel's relation may add, of so many unknowns
abbrev pub share_of : Kernel → ℕ → ℕ
share_of kernel unknowns = 2 ^ unknowns * 30 * (length kernel.equations + unknowns * unknowns * unknowns)

-- a refusal for the number of nodes comes where the store is full and, before the call, would have had no room for its share
abbrev pub IsRefusedFor : StoreView → StoreView → ℕ → RelAnswer → Type 0
IsRefusedFor old new room (Budget n) = IsFull new n × (n < length old.nodes + room)
IsRefusedFor old new room OutOfMemory = Unit {0}

-- the making of a relation keeps to its share
pub record KeepsToShare {T : Type 0} (kernel : Kernel) (old new : StoreView) (result : Result T RelAnswer) : Type 0 where
  pub added : (u : ℕ) → IsUnknownCount kernel u → length new.nodes ≤ length old.nodes + share_of kernel u
  pub refused : (u : ℕ) → IsUnknownCount kernel u → IfErr result (IsRefusedFor old new (share_of kernel u))

-- how many nodes the making of a triangular kernel's system may add
abbrev pub triangular_share_of : Kernel → ℕ
triangular_share_of kernel = 2 ^ length (conditions_of kernel) * 16 * (length kernel.equations + 1)

-- the making of a triangular kernel's system keeps to a share over its conditions alone
pub record KeepsToTriangularShare {T : Type 0} (kernel : Kernel) (old new : StoreView) (result : Result T RelAnswer) : Type 0 where
  pub added : IsTriangular kernel → length new.nodes ≤ length old.nodes + triangular_share_of kernel
  pub refused : IsTriangular kernel → IfErr result (IsRefusedFor old new (triangular_share_of kernel))

-- what so many calls over the variables vs have led to: references that depend on these alone, or a refusal
abbrev pub Leads : {T : Type 0} → ℕ → List ℕ → StoreView → StoreView → (T → List Ref) → Result T DdAnswer → Type 0
Leads calls vs old new refs (Ok made) = Trail calls vs old new (refs made)
Leads calls vs old new refs (Err why) = Share calls vs old new (Some why)

-- so many calls made references, over each list of variables that is wide enough
pub record Makes {T : Type 0} (calls : ℕ) (IsWide : List ℕ → Type 0) (old new : StoreView) (refs : T → List Ref) (result : Result T DdAnswer) : Type 0 where
  pub store : IsStore new
  pub kept : Keeps old new
  pub held : IfOk result (λ made. HoldAll new.nodes (refs made))
  pub leads : (vs : List ℕ) → IsWide vs → Leads calls vs old new refs result

-- Why a kernel has no clocks, and how many nodes solving may add.
use Rattle.std.specs.Prelude.{◌≡◌, ◌+◌, ◌*◌, ◌^◌, ◌<◌, ◌≤◌, ◌⊎◌}
use Rattle.sig_solve.specs.Prelude.{ℕ, length, Option, None, Some, Result, Err, IfErr, IsFirstPinned, IsMissingRoot, IsUnsolved, IsDead, StoreView, IsFull, DdAnswer, Budget as StoreBudget, OutOfMemory as NoMemory, Kernel, conditions_of, IsUnknownCount, triangular_share_of as system_share_of, IsTriangular, RelAnswer, RelationBudget, NoRelation}
use Rattle.sig_solve.specs.declared.answer.ClockAnswer.{ClockAnswer}
use Rattle.sig_solve.specs.declared.answer.ClockAnswer.TheVariants.{Dead, MissingRoot, Unsolved, Pinned, Budget, OutOfMemory}

abbrev pub IsFromStore : DdAnswer → ClockAnswer → Type 0
IsFromStore (StoreBudget nodes) answer = answer ≡ Budget nodes
IsFromStore NoMemory answer = answer ≡ OutOfMemory

abbrev pub IsFromRelation : RelAnswer → ClockAnswer → Type 0
IsFromRelation (RelationBudget nodes) answer = answer ≡ Budget nodes
IsFromRelation NoRelation answer = answer ≡ OutOfMemory

-- the first reason why a kernel has no clocks; a full store and want of memory say nothing of the kernel
abbrev pub IsRefusalOf : Kernel → ClockAnswer → Type 0
IsRefusalOf kernel Dead = IsDead kernel
IsRefusalOf kernel (MissingRoot x y) = IsMissingRoot kernel x.0 y.0
IsRefusalOf kernel (Unsolved x) = IsUnsolved kernel x.0
IsRefusalOf kernel (Pinned b) = IsFirstPinned kernel b.0
IsRefusalOf kernel (Budget nodes) = Unit {0}
IsRefusalOf kernel OutOfMemory = Unit {0}

-- what the store refused, if it did
abbrev pub store_refusal : {T : Type 0} → Result T ClockAnswer → Option DdAnswer
store_refusal (Err (Budget nodes)) = Some (StoreBudget nodes)
store_refusal (Err OutOfMemory) = Some NoMemory
store_refusal _ = None

-- how many nodes solving a kernel of so many unknowns may add
abbrev pub share_of : Kernel → ℕ → ℕ
share_of kernel unknowns = 2 ^ unknowns * 60 * (length kernel.equations + unknowns * unknowns * unknowns)

-- a refusal for the number of nodes comes where the store is full and, before the call, would have had no room for the share
abbrev pub HasNoRoom : StoreView → StoreView → ℕ → ClockAnswer → Type 0
HasNoRoom old new room (Budget n) = IsFull new n × (n < length old.nodes + room)
HasNoRoom old new room _ = Unit {0}

-- nodes were added within this room, or there was none
pub record IsWithin {T : Type 0} (room : ℕ) (old new : StoreView) (result : Result T ClockAnswer) : Type 0 where
  pub added : length new.nodes ≤ length old.nodes + room
  pub refused : IfErr result (HasNoRoom old new room)

-- solving a kernel keeps to its share
abbrev pub KeepsToShare : {T : Type 0} → Kernel → StoreView → StoreView → Result T ClockAnswer → Type 0
KeepsToShare kernel old new result = (unknowns : ℕ) → IsUnknownCount kernel unknowns → IsWithin (share_of kernel unknowns) old new result

-- how many nodes solving a triangular kernel may add
abbrev pub triangular_share_of : Kernel → ℕ
triangular_share_of kernel = 2 ^ length (conditions_of kernel) * 36 * (length kernel.equations + 1)

-- solving a triangular kernel keeps to a share over its conditions alone
abbrev pub KeepsToTriangularShare : {T : Type 0} → Kernel → StoreView → StoreView → Result T ClockAnswer → Type 0
KeepsToTriangularShare kernel old new result = IsTriangular kernel → IsWithin (triangular_share_of kernel) old new result

-- the share that is left once the system is made
abbrev pub rest_of_share : Kernel → ℕ → ℕ
rest_of_share kernel unknowns = 2 ^ unknowns * 30 * (length kernel.equations + unknowns * unknowns * unknowns)

-- how many calls solve a kernel of so many classes, conditions and variables, once its solutions are made
abbrev pub calls_of : ℕ → ℕ → ℕ → ℕ
calls_of classes conditions unknowns = 2 + (3 + 2 * unknowns) * classes * classes + (5 + 2 * unknowns) * conditions + (2 + 2 * unknowns) * classes

-- how many nodes the making of a triangular kernel's system may add: in either form, half of the share or less
abbrev pub IsSystemRoom : Kernel → ℕ → Type 0
IsSystemRoom kernel room = ((unknowns : ℕ) × IsUnknownCount kernel unknowns × (room ≡ rest_of_share kernel unknowns)) ⊎ (room ≡ system_share_of kernel)

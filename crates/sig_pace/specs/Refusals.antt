-- Why a kernel gets no paces, and how many nodes pacing may add.
use Rattle.std.specs.Prelude.{◌≡◌, ◌≤◌, ◌<◌, ◌+◌}
use Rattle.sig_pace.specs.Prelude.{ℕ, List, length, Result, IfErr, SIGNALS, IsLeast, StoreView, IsFull, Kernel, IsUnknownCount, IsRefusedFor, RelAnswer, share_of}
use Rattle.sig_pace.specs.Paced.{IsTaken, NeedsPaces}
use Rattle.sig_pace.specs.declared.answer.PaceAnswer.{PaceAnswer}
use Rattle.sig_pace.specs.declared.answer.PaceAnswer.TheVariants.{NameTaken, TooManySignals, Budget, OutOfMemory}

-- the least declared signal that has the name of a pace
pub record IsNameTaken (kernel : Kernel) (signal : ℕ) : Type 0 where
  pub least : List ℕ
  pub needs : NeedsPaces kernel least
  pub first : IsLeast (IsTaken kernel least) signal

-- no name is taken, but there would be more signals than there may be
pub record HasTooManySignals (kernel : Kernel) : Type 0 where
  pub least : List ℕ
  pub needs : NeedsPaces kernel least
  pub free : (signal : ℕ) → IsTaken kernel least signal → ⊥
  pub many : SIGNALS < length kernel.signals + (length least + length least)

-- why a kernel gets no paces; a full store and want of memory say nothing of the kernel
abbrev pub IsPaceRefusal : Kernel → PaceAnswer → Type 0
IsPaceRefusal kernel (NameTaken signal) = IsNameTaken kernel signal.0
IsPaceRefusal kernel (TooManySignals limit) = (limit ≡ SIGNALS) × HasTooManySignals kernel
IsPaceRefusal kernel (Budget nodes) = Unit {0}
IsPaceRefusal kernel OutOfMemory = Unit {0}

-- the finding of the maximal clocks keeps to the same share
pub record KeepsToSystemShare {T : Type 0} (kernel : Kernel) (old new : StoreView) (result : Result T RelAnswer) : Type 0 where
  pub added : (unknowns : ℕ) → IsUnknownCount kernel unknowns → length new.nodes ≤ length old.nodes + share_of kernel unknowns
  pub refused : (unknowns : ℕ) → IsUnknownCount kernel unknowns → IfErr result (IsRefusedFor old new (share_of kernel unknowns))

-- a refusal for the number of nodes comes where the store is full and, before the call, would have had no room for the share
abbrev pub HasNoPaceRoom : StoreView → StoreView → ℕ → PaceAnswer → Type 0
HasNoPaceRoom old new room (Budget n) = IsFull new n × (n < length old.nodes + room)
HasNoPaceRoom old new room _ = Unit {0}

-- pacing keeps to the share of the kernel handed in: it adds no more nodes, and lacks none where there was room for it
pub record KeepsToPaceShare {T : Type 0} (kernel : Kernel) (old new : StoreView) (result : Result T PaceAnswer) : Type 0 where
  pub added : (unknowns : ℕ) → IsUnknownCount kernel unknowns → length new.nodes ≤ length old.nodes + share_of kernel unknowns
  pub refused : (unknowns : ℕ) → IsUnknownCount kernel unknowns → IfErr result (HasNoPaceRoom old new (share_of kernel unknowns))

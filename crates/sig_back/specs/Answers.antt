-- Why a kernel has no plan, or it is not told.
use Rattle.std.specs.Prelude.{◌≡◌}
use Rattle.sig_back.specs.Prelude.{List, SigId, NODES, Kernel, ClockAnswer, Budget as NoNodes, OutOfMemory as NoMemory}
use Rattle.sig_back.specs.Budgets.{MeetsBound}
use Rattle.sig_back.specs.Faults.{FaultView, IsFaultOf, said_of}
use Rattle.sig_back.specs.declared.answer.BackAnswer.{BackAnswer}
use Rattle.sig_back.specs.declared.answer.BackAnswer.TheVariants.{Refused, Budget, OutOfMemory}
use Rattle.sig_back.specs.declared.fault.BackKind.{BackKind}
use Rattle.sig_solve.specs.declared.answer.ClockAnswer.TheVariants.{Dead, MissingRoot, Unsolved, Pinned}

-- the kernel is not within the bound
abbrev pub IsBeyondBound : Kernel → Type 0
IsBeyondBound kernel = MeetsBound kernel → ⊥

-- A kernel is refused for the first rule that it does not meet. That the nodes do not suffice is said only of a kernel that is not
-- within the bound, and want of memory says nothing of it.
abbrev pub IsRefusal : Kernel → BackAnswer → Type 0
IsRefusal kernel (Refused fault) = IsFaultOf kernel fault
IsRefusal kernel (Budget nodes) = (nodes ≡ NODES) × IsBeyondBound kernel
IsRefusal kernel OutOfMemory = Unit {0}

-- nothing is said against the kernel: the nodes do not suffice, or memory is wanting
abbrev pub IsWanting : BackAnswer → Type 0
IsWanting (Refused fault) = ⊥
IsWanting (Budget nodes) = Unit {0}
IsWanting OutOfMemory = Unit {0}

-- a refusal is told so
abbrev pub IsToldUnlessWanting : FaultView → BackAnswer → Type 0
IsToldUnlessWanting told (Refused fault) = fault ≡ told
IsToldUnlessWanting told (Budget nodes) = Unit {0}
IsToldUnlessWanting told OutOfMemory = Unit {0}

-- the answer tells of this rule and these signals, or memory is wanting
abbrev pub Tells : Kernel → BackKind → List SigId → BackAnswer → Type 0
Tells kernel kind signals (Refused fault) = fault ≡ said_of kernel kind signals
Tells kernel kind signals (Budget nodes) = ⊥
Tells kernel kind signals OutOfMemory = Unit {0}

-- that the clocks of a kernel find no room for their nodes means that it is not within the bound
abbrev pub HasNoRoomFor : Kernel → ClockAnswer → Type 0
HasNoRoomFor kernel Dead = Unit {0}
HasNoRoomFor kernel (MissingRoot x y) = Unit {0}
HasNoRoomFor kernel (Unsolved x) = Unit {0}
HasNoRoomFor kernel (Pinned b) = Unit {0}
HasNoRoomFor kernel (NoNodes nodes) = IsBeyondBound kernel
HasNoRoomFor kernel NoMemory = Unit {0}

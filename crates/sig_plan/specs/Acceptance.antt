-- Which kernels are accepted, and why one is refused: the rules of acceptance that speak of the kernel, in the order in
-- which they are tried.
use Rattle.std.specs.Prelude.{◌≡◌, ◌≤◌}
use Rattle.sig_plan.specs.Prelude.{ℕ, List, length, SigId, LINKS, IsClockFunction, HasClocks, IsFirstPinned, IsMissingRoot, IsUnsolved, AreInOrder, signal_id, IsDead, IsSignal, Kernel}
use Rattle.sig_plan.specs.Operations.{Operation, Presence, operations_of}
use Rattle.sig_plan.specs.Order.{HasNoCycle, IsCycle}
use Rattle.sig_plan.specs.Parts.{AreParts, NeedsTooManyLinks, PartsView}

-- The conditions of a kernel that has clocks, in their order, and its operations, whose guards are the clock functions of
-- its signals over these conditions.
pub record HasOperations (kernel : Kernel) (conditions : List SigId) (operations : List Operation) : Type 0 where
  pub clocks : HasClocks kernel
  pub order : AreInOrder kernel conditions
  pub presence : Presence
  pub functions : (signal : ℕ) → IsSignal kernel signal → IsClockFunction kernel conditions signal (presence (signal_id signal))
  pub are : operations ≡ operations_of kernel presence

-- Why a kernel is refused, with the signals that are named.
pub data KernelFault : Type 0 where
  Dead : KernelFault
  MissingRoot : SigId → SigId → KernelFault
  Unsolved : SigId → KernelFault
  Pinned : SigId → KernelFault
  Cycle : SigId → KernelFault
  TooManyLinks : KernelFault

-- a kernel with clocks has a cycle through this signal
pub record HasCycle (kernel : Kernel) (x : SigId) : Type 0 where
  pub conditions : List SigId
  pub operations : List Operation
  pub has : HasOperations kernel conditions operations
  pub cycle : IsCycle conditions operations x.0

-- a kernel with clocks and without cycles needs too many links
pub record HasTooManyLinks (kernel : Kernel) : Type 0 where
  pub conditions : List SigId
  pub operations : List Operation
  pub has : HasOperations kernel conditions operations
  pub acyclic : HasNoCycle conditions operations
  pub many : NeedsTooManyLinks kernel conditions operations

-- The first rule that a kernel does not meet.
abbrev pub IsRefusedFor : Kernel → KernelFault → Type 0
IsRefusedFor kernel Dead = IsDead kernel
IsRefusedFor kernel (MissingRoot x y) = IsMissingRoot kernel x.0 y.0
IsRefusedFor kernel (Unsolved x) = IsUnsolved kernel x.0
IsRefusedFor kernel (Pinned b) = IsFirstPinned kernel b.0
IsRefusedFor kernel (Cycle x) = HasCycle kernel x
IsRefusedFor kernel TooManyLinks = HasTooManyLinks kernel

-- A kernel is accepted where it meets them all: it has clocks, no operation precedes itself, and the links are few enough.
pub record IsAcceptedKernel (kernel : Kernel) : Type 0 where
  pub conditions : List SigId
  pub operations : List Operation
  pub has : HasOperations kernel conditions operations
  pub acyclic : HasNoCycle conditions operations
  pub parts : PartsView
  pub split : AreParts kernel conditions operations parts
  pub few : length parts.links ≤ LINKS

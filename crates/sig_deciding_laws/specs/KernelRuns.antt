-- What a kernel is run as, and how its runs end. Its conditions, its operations, their order and its links are determined by the
-- kernel: a guard is a function of truths here, and stands in no store. A plan is one way to hold them.
use Rattle.std.specs.Prelude.{◌≡◌}
use Rattle.sig_deciding_laws.specs.Prelude.{IsAccepted, PlanView, ℕ, ℤ, List, length, Option, SigId, Kernel, HasOperations, Operation, IsCompiledOrder, AreParts, PartsView, LinkInfo, Trace, IsLongest, IsKernelTrace, Place, Ended, IsNamedCause}

-- A plan of a kernel. Each accepted kernel has one, and its plans differ in the references of their guards alone.
pub record IsPlanOf (kernel : Kernel) (plan : PlanView) : Type 0 where
  pub accepted : IsAccepted plan
  pub same : plan.kernel ≡ kernel

-- the operations of a kernel, and their compiled order
pub record AreOrdered (kernel : Kernel) (operations : List Operation) (order : List ℕ) : Type 0 where
  pub conditions : List SigId
  pub has : HasOperations kernel conditions operations
  pub compiled : IsCompiledOrder conditions operations order

-- the links of a kernel
pub record AreKernelLinks (kernel : Kernel) (links : List LinkInfo) : Type 0 where
  pub conditions : List SigId
  pub operations : List Operation
  pub has : HasOperations kernel conditions operations
  pub parts : PartsView
  pub split : AreParts kernel conditions operations parts
  pub are : links ≡ parts.links

-- The end of a run of a kernel: the longest trace, the number of its instants, and its named cause with the place of that.
pub record IsKernelEnd (kernel : Kernel) (flows : List (List ℤ)) (limit : ℕ) (trace : Trace) (place : Option Place) (ended : Ended) : Type 0 where
  pub operations : List Operation
  pub order : List ℕ
  pub ordered : AreOrdered kernel operations order
  pub longest : IsLongest (IsKernelTrace kernel) flows limit trace
  pub instants : ended.instants ≡ length trace
  pub cause : IsNamedCause kernel operations order flows limit trace ended.cause place

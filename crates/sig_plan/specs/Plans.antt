-- Accepted plans: all that is derived from a kernel.
use Rattle.std.specs.Prelude.{◌≡◌}
use Rattle.sig_plan.specs.Prelude.{ℕ, List, map, OpId, HasClocks, AreClocks, ClocksView, IsStore, StoreView, IsValid, Kernel}
use Rattle.sig_plan.specs.Codes.{AreCodes, CodeView}
use Rattle.sig_plan.specs.Operations.{AreOperations, operations_in}
use Rattle.sig_plan.specs.Order.{HasNoCycle, IsCompiledOrder}
use Rattle.sig_plan.specs.Parts.{AreParts, PartsView}
use Rattle.sig_plan.specs.declared.op.Op.{Op}
use Rattle.sig_plan.specs.declared.parts.LinkInfo.{LinkInfo}

abbrev pub numbers_of : List OpId → List ℕ
numbers_of order = map (λ op. op.0) order

pub record PlanView : Type 0 where
  pub kernel : Kernel
  pub clocks : ClocksView
  pub store : StoreView
  pub ops : List Op
  pub order : List OpId
  pub links : List LinkInfo
  pub codes : List CodeView

-- The plan is the one that is derived from its kernel, which is valid and has clocks, and whose operations have no cycle.
pub record IsAccepted (plan : PlanView) : Type 0 where
  pub valid : IsValid plan.kernel
  pub store : IsStore plan.store
  pub has_clocks : HasClocks plan.kernel
  pub clocks : AreClocks plan.kernel plan.store.nodes plan.clocks
  pub operations : AreOperations plan.kernel plan.store.nodes plan.clocks plan.ops
  pub no_cycle : HasNoCycle plan.clocks.conditions (operations_in plan.store.nodes plan.ops)
  pub order : IsCompiledOrder plan.clocks.conditions (operations_in plan.store.nodes plan.ops) (numbers_of plan.order)
  pub parts : PartsView
  pub split : AreParts plan.kernel plan.clocks.conditions (operations_in plan.store.nodes plan.ops) parts
  pub links : parts.links ≡ plan.links
  pub codes : AreCodes plan.store.nodes (operations_in plan.store.nodes plan.ops) (numbers_of plan.order) parts plan.codes

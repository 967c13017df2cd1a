-- The operations of a plan and their order, as lists.
use Rattle.std.proofs.Common.{ℕ, List}
use Rattle.sig_meaning_laws.proofs.Common.{Operation, PlanView, numbers_of, operations_in}

abbrev pub compiled_operations : PlanView → List Operation
compiled_operations plan = operations_in plan.store.nodes plan.ops

abbrev pub compiled_order : PlanView → List ℕ
compiled_order plan = numbers_of plan.order

-- An accepted plan has its kernel's operations.
use Rattle.sig_plan.proofs.Common.{◌≡◌, get_or, subst, Some, IsClockFunction, HasClocks, AreClocks, ClocksView, guard_of, signal_id, Node, Kernel, HasOperations, AreOperations, operations_in, presence_in, IsAccepted, PlanView, Op, List, slice_get-get_or}
use Rattle.sig_plan.proofs.AddedOperations.{guard_is}

pub operations_made_are : (kernel : Kernel) (nodes : List Node) (clocks : ClocksView) (ops : List Op) → HasClocks kernel → AreClocks kernel nodes clocks
    → AreOperations kernel nodes clocks ops → HasOperations kernel clocks.conditions (operations_in nodes ops)
operations_made_are kernel nodes clocks ops has are made = record {
  clocks = has;
  order = are.conditions;
  presence = presence_in nodes clocks;
  functions = λ signal within.
      let class = get_or clocks.class_of signal 0 in
      let guard = get_or clocks.guard class (record { number = 0 }) in
      let there : guard_of clocks signal ≡ Some guard = slice_get-get_or clocks.guard class (record { number = 0 }) (are.classes signal within) in
      subst (IsClockFunction kernel clocks.conditions signal) (guard_is clocks (signal_id signal) guard there nodes) (are.functions signal guard within there);
  are = made.are;
}

pub plan_operations : (plan : PlanView) → IsAccepted plan → HasOperations plan.kernel plan.clocks.conditions (operations_in plan.store.nodes plan.ops)
plan_operations plan is = operations_made_are plan.kernel plan.store.nodes plan.clocks plan.ops is.has_clocks is.clocks is.operations

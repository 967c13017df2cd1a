-- What the definitions and the clauses of this crate cite of std and of the crates below, passed on from one place.
pub use Rattle.std.specs.BTreeSet.{BTreeSet, contains}
pub use Rattle.std.specs.Ordering.{nat_cmp}
pub use Rattle.std.specs.Prelude.{All, Bool, Contains, IfErr, IfOk, IsTrue, List, None, OnOk, Option, Some, [], count_by, false, filter_map, if◌then◌else◌, length, map, nat_lt, not, slice_get, slice_index, slice_index_or, take, true, ℕ, ◌++◌, ◌+◌, ◌<◌, ◌==◌, ◌^◌, ◌↔◌, ◌∷◌, ◌≡◌, ◌≢◌, ◌⊎◌}
pub use Rattle.sig_plan.specs.Operations.{AreOperations, Operation, operation_in, operations_in}
pub use Rattle.sig_plan.specs.Order.{ComesBefore, HasNoCycle, IsCompiledOrder, IsCycle, IsReady, Needs, Reaches}
pub use Rattle.sig_plan.specs.Plans.{numbers_of}
pub use Rattle.sig_plan.specs.Prelude.{AreClocks, EqId, Holds, IsLeast, IsValid, Node, SigId}
pub use Rattle.sig_plan.specs.declared.op.Op.{Op}
pub use Rattle.sig_plan.specs.declared.op.OpKind.{OpKind}
pub use Rattle.sig_plan.specs.declared.op.OpKind.TheVariants.{Compute, DelayRead, Left, Read, Right, Store}

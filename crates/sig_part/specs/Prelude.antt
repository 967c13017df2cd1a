-- What the definitions and the clauses of this crate cite of std and of the crates below, passed on from one place.
pub use Rattle.std.specs.Prelude.{All, Bool, Contains, IfErr, IfOk, IsTrue, List, None, OnOk, Option, Some, [], count_by, false, filter_map, length, map, not, slice_get, slice_index_or, true, ℕ, ◌++◌, ◌+◌, ◌<◌, ◌==◌, ◌^◌, ◌↔◌, ◌≡◌, ◌≤◌, ◌⊎◌}
pub use Rattle.sig_plan.specs.Operations.{AreOperations, Operation, cluster_at, operation_in, operations_in}
pub use Rattle.sig_plan.specs.Order.{IsCompiledOrder, Needs}
pub use Rattle.sig_plan.specs.Parts.{AreIncreasing, AreParts, Imports, IsEarlierLink, IsOutput, NeedsTooManyLinks, cluster_count, report_link}
pub use Rattle.sig_plan.specs.Plans.{numbers_of}
pub use Rattle.sig_plan.specs.Prelude.{AreClocks, Holds, IsValid, Kernel, LINKS, Node, SigId, Signal, range_with_len}
pub use Rattle.sig_plan.specs.Written.{AreWritten}
pub use Rattle.sig_plan.specs.declared.op.Op.{Op}
pub use Rattle.sig_plan.specs.declared.parts.LinkInfo.{LinkInfo}

-- What the definitions and the clauses of this crate cite of std and of the crates below, passed on from one place.
pub use Rattle.std.specs.Prelude.{All, Bool, List, None, Option, Some, [], false, filter_map, flat_map, fold, if◌then◌else◌, int_le, int_lt, length, map, nat_lt, neg_ℤ, negsuc, not, option_and_then, pos, replicate, slice_get, slice_index_or, slice_set, take, true, unwrap_or, zip, ℕ, ℤ, ◌&&◌, ◌*ℤ◌, ◌*◌, ◌++◌, ◌+ℤ◌, ◌+◌, ◌-ℤ◌, ◌-◌, ◌/◌, ◌<◌, ◌==◌, ◌^◌, ◌||◌, ◌∷◌, ◌≡◌, ◌≢◌, ◌≤◌, ◌⊎◌}
pub use Rattle.sig_base.specs.Functions.{And, Difference, Equal, Function, Greater, GreaterEqual, Identity, Less, LessEqual, Negative, Not, NotEqual, Or, Product, Quotient, Remainder, Sum, Xor, quotient, remainder}
pub use Rattle.sig_base.specs.Traces.{Fits, IsLongest, IsPrefixOf, NoneSilent, Trace, Unbounded, flow_of}
pub use Rattle.sig_base.specs.declared.place.Place.{Place}
pub use Rattle.sig_kernel.specs.KernelTraces.{HaveValues, IsKernelTrace, IsTraceIn, function_of, last_of}
pub use Rattle.sig_kernel.specs.OutputText.{outputs_of, seen_lines}
pub use Rattle.sig_kernel.specs.Table.{target_of}
pub use Rattle.sig_kernel.specs.Validity.{inputs_of}
pub use Rattle.sig_clock.specs.Prelude.{Boolean, Const, Default, Delay, Depends, Equation, Event, Form, Fun, FunOp, Holds, Instant, Integer, Kernel, Kind, Node, Operand, Seen, Sig, SigId, Signal, Sync, When, WhenConst, int_eq, is_silent, list_any, range_with_len, seen_at, test}
pub use Rattle.sig_plan.specs.Codes.{CodeView}
pub use Rattle.sig_plan.specs.Operations.{Operation, operations_in}
pub use Rattle.sig_plan.specs.Plans.{PlanView, numbers_of}
pub use Rattle.sig_plan.specs.Prelude.{EqId, Implies}
pub use Rattle.sig_plan.specs.declared.code.Slot.{Slot}
pub use Rattle.sig_plan.specs.declared.code.Step.{Step}
pub use Rattle.sig_plan.specs.declared.code.StepKind.{StepKind}
pub use Rattle.sig_plan.specs.declared.code.StepKind.TheVariants.{Collect, Commit, Do, Receive, Report, Send}
pub use Rattle.sig_plan.specs.declared.ended.Cause.{Cause}
pub use Rattle.sig_plan.specs.declared.ended.Cause.TheVariants.{Exhausted, Limit, Overflow, ZeroDivisor}
pub use Rattle.sig_plan.specs.declared.ended.Ended.{Ended}
pub use Rattle.sig_plan.specs.declared.op.Op.{Op}
pub use Rattle.sig_plan.specs.declared.op.OpKind.{OpKind}
pub use Rattle.sig_plan.specs.declared.op.OpKind.TheVariants.{Compute, DelayRead, Left, Read, Right, Store}
pub use Rattle.sig_plan.specs.declared.parts.LinkInfo.{LinkInfo}

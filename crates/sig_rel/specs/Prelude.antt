-- What the definitions and the clauses of this crate cite of std and of the crates below, passed on from one place.
pub use Rattle.std.specs.Prelude.{Bool, Contains, Err, IfErr, IfOk, IsTrue, List, MatchBool, MatchOption, None, Ok, OnOk, Option, Result, Some, [], cond, count_by, false, if◌then◌else◌, is_some, length, map, not, option_map, pos, position, replicate, slice_get, slice_index, slice_index_or, slice_set, sum_by, take, true, vec_len, ℕ, ◌&&◌, ◌*◌, ◌++◌, ◌+◌, ◌-◌, ◌<◌, ◌==◌, ◌^◌, ◌||◌, ◌↔◌, ◌∷◌, ◌≡◌, ◌≢◌, ◌≤◌, ◌⊎◌}
pub use Rattle.sig_kernel.specs.Table.{operands_of}
pub use Rattle.sig_kernel.specs.Validity.{defines}
pub use Rattle.sig_dd.specs.Nodes.{IsFull, IsRefOf, IsStore, Keeps, Spans, StoreView}
pub use Rattle.sig_dd.specs.Shares.{HoldAll, IsRefused, Share, SpanAll, Trail}
pub use Rattle.sig_dd.specs.declared.answer.DdAnswer.{DdAnswer}
pub use Rattle.sig_dd.specs.declared.answer.DdAnswer.TheVariants.{Budget, OutOfMemory}
pub use Rattle.sig_clock.specs.ClockFunctions.{KeepsTo}
pub use Rattle.sig_clock.specs.Conditions.{conditions_of, is_condition, signal_id}
pub use Rattle.sig_clock.specs.Layers.{IsSignal}
pub use Rattle.sig_clock.specs.Prelude.{Agree, Const, Default, Delay, Depends, Equation, Event, Form, Fun, FunOp, Holds, IsValid, Kernel, Node, Operand, Ref, Sig, SigId, Signal, Sync, When, WhenConst, form_within, int_eq, kind_at, list_all, list_any, operand_within, range_with_len, test, truth_of, with_truth}
pub use Rattle.sig_clock.specs.Reactions.{IsReaction, Reaction, Speaks, Status, compares, constant_truth, has_truth, is_boolean_kind, is_integer, is_present, or_else, same_status, same_truth, status_at, truth_function, where_present, where_true}
pub use Rattle.sig_clock.specs.SameClocks.{AreLeast, SameClock, signals_among}
pub use Rattle.sig_clock.specs.declared.answer.ClockBase.{ClockBase}

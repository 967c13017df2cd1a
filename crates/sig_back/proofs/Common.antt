-- What the proofs of this crate cite of std, of the crates below and of its own specs, passed on from one place.
pub use Rattle.std.proofs.Common.{Bool, Err, IfErr, IfOk, IsErrAnd, List, Ok, Option, Result, Some, [], ap, append-nil, arith, encode_utf8, eqb, false, filter, get_or, inl, inr, length, map, mul-le-mul_right, ne_eqb, pow_mono, refl, slice_get, slice_index, subst, sym, take, take_all, true, ℕ, ◌*◌, ◌++◌, ◌+◌, ◌<◌, ◌^◌, ◌∙◌, ◌∷◌, ◌≡◌, ◌≤◌, ◌⊎◌}
pub use Rattle.std.proofs.Output.{has_written_append, has_written_of_eq, writes_in_calls_nil}
pub use Rattle.std.proofs.lemmas.Cmp.{nat_eq_equiv}
pub use Rattle.std.proofs.lemmas.List.Concat.{flat_map-append}
pub use Rattle.std.proofs.lemmas.Map.Keys.{IsDistinct-from_apart}
pub use Rattle.std.proofs.lemmas.Map.Made.{length-le_from_is_member}
pub use Rattle.std.specs.Fmt.{HasWritten, IsPlainFormatter}
pub use Rattle.sig_base.specs.declared.limits.TheConstants.{NODES}
pub use Rattle.sig_plan.specs.Acceptance.{IsRefusedFor}
pub use Rattle.sig_plan.specs.declared.answer.PlanAnswer.{PlanAnswer}
pub use Rattle.sig_plan.specs.declared.answer.PlanAnswer.TheVariants.{Budget as NoNodes}
pub use Rattle.sig_plan.proofs.Common.{AreOperations, AreParts, HasNoCycle, HasOperations, IsAcceptedKernel, KernelFault, function_in, in_range, operations_in, presence_in, some_at}
pub use Rattle.sig_plan.proofs.FaultOnce.{accepted_or_refused, fault_once}
pub use Rattle.sig_graph.proofs.Common.{Op, get_or-map}
pub use Rattle.sig_solve.proofs.Common.{AreClocks, ClocksView, HasClocks, HasLayer, IsClockFunction, IsEarlier, IsRefusalOf, IsSignal, IsUnknownCount, IsValid, Keeps, Kernel, Node, Ref, SigId, StoreView, conditions_of, guard_of, in_filter, is_boolean, is_condition, length-filter, length-map, list_any, mapped_from, one_layer, one_passes, passes_one, range_with_len, share_of, signal_id, slice_get-get_or, take_more}
pub use Rattle.sig_solve.proofs.ReactionLemmas.{condition_is_boolean, condition_is_signal}
pub use Rattle.sig_back.specs.Answers.{IsBeyondBound, IsRefusal, IsToldUnlessWanting, IsWanting, Tells}
pub use Rattle.sig_back.specs.Budgets.{Spends}
pub use Rattle.sig_back.specs.Faults.{name_at, said_of, told_as}
pub use Rattle.sig_back.specs.Shown.{shown}
pub use Rattle.sig_back.specs.declared.answer.BackAnswer.{BackAnswer}
pub use Rattle.sig_back.specs.declared.answer.BackAnswer.TheVariants.{Budget, OutOfMemory, Refused}
pub use Rattle.sig_back.specs.declared.fault.BackKind.{BackKind}
pub use Rattle.sig_back.specs.declared.fault.BackKind.TheVariants.{Cycle, MissingRoot, Pinned, TooManyLinks, Unsolved}

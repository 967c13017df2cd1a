-- What the proofs of this crate cite of std, of the crates below and of its own specs, passed on from one place.
pub use Rattle.std.proofs.Common.{All, Bool, Contains, Err, IfErr, IfSome, IsErrAnd, List, None, Ok, OnOk, Option, Result, Some, [], ap, append-nil, append_assoc, arith, cond, count_by, eq-eqb, eqb-true, ext_get_or, false, filter_map, flat_map, fold, get_or, get_or-take, if◌then◌else◌, inl, inr, is_some, length, length-take-le, ltb-true, map, max, mul-le-mul_left, mul-le-mul_right, nat_lt, ne_eqb, not, refl, slice_get, slice_index, subst, suc, sym, take, take_all, true, zero, ℕ, ℤ, ◌&&◌, ◌*◌, ◌++◌, ◌+◌, ◌-◌, ◌<◌, ◌==◌, ◌^◌, ◌||◌, ◌∙◌, ◌∷◌, ◌≡◌, ◌≢◌, ◌≤◌, ◌⊎◌}
pub use Rattle.std.proofs.Math.Nat.{le-max_left, le-max_right}
pub use Rattle.std.proofs.lemmas.List.{map-append, take_more}
pub use Rattle.std.proofs.lemmas.List.Elements.{All-append, All-cons, All-contains, All-from_get_or, All-head, All-map, All-nil, All-push, All-tail, All-weaker, Contains-append_cases, Contains-append_right}
pub use Rattle.std.proofs.lemmas.List.FromFn.{get_or-range_with_len, length-range_with_len, map-range_with_len_more}
pub use Rattle.std.proofs.lemmas.Result.{on_ok_weaker}
pub use Rattle.std.specs.List.{cons_option, enumerate_from}
pub use Rattle.sig_lists.proofs.Contained.{contains_mapped, mapped_from}
pub use Rattle.sig_lists.proofs.Places.{get_map, map_get, some_at}
pub use Rattle.sig_lists.proofs.Ranges.{in_range}
pub use Rattle.sig_base.specs.declared.ids.EqId.{EqId}
pub use Rattle.sig_base.specs.declared.ids.OpId.{OpId}
pub use Rattle.sig_kernel.specs.Table.{target_of}
pub use Rattle.sig_kernel.specs.Validity.{defines, is_target, target_within}
pub use Rattle.sig_dd.specs.declared.answer.DdAnswer.{DdAnswer}
pub use Rattle.sig_dd.specs.declared.answer.DdAnswer.TheVariants.{Budget, OutOfMemory as NoMemory}
pub use Rattle.sig_dd.specs.declared.node.Node.{Node}
pub use Rattle.sig_dd.specs.declared.node.Ref.{Ref}
pub use Rattle.sig_dd.proofs.CallerLemmas.{Agree-kept, Depends-of_one, Depends-of_two, Holds-kept, Keeps-trans, Spans-kept, Spans-of, one_reference}
pub use Rattle.sig_dd.proofs.CallsInARow.{Share-then}
pub use Rattle.sig_dd.proofs.Common.{Agree, Asks, Contains-append_left, Depends, Holds, IfOk-weaker, IsIdle, IsRefOf, IsRefused, IsStore, Keeps, Share, Spans, StoreView, allowance, cases_eq, cases_lt, diagram, eqb-false, get_or_append_left, get_or_push, length-map, test}
pub use Rattle.sig_dd.proofs.Dependence.{allowance_rises, ref_depends}
pub use Rattle.sig_dd.proofs.Trees.{truth_of-with_other}
pub use Rattle.sig_dd.proofs.Walks.{asked_agree, asks_depends, asks_no_idle}
pub use Rattle.sig_clock.specs.Clocks.{AreClocks, ClocksView, guard_of}
pub use Rattle.sig_clock.proofs.Common.{AllPass, Allows, Const, Default, Delay, Equation, Event, Form, Fun, HasClocks, IsClockFunction, IsDead, IsFirstPinned, IsMissingRoot, IsOpen, IsReaction, IsUnsolved, IsValid, KeepsTo, Kernel, Operand, Reaction, Sig, SigId, Signal, Speaks, Status, Sync, When, WhenConst, and_parts, are_statuses, at_contained, cases_order, contains_at, contains_cons, contains_head, contains_later, contains_none, false≢true, form_within, function_truth, get_or_default, has_truth, is_below, is_present, is_status_of, is_with, list_all, meets, operand_within, operands_of, or_else, range_with_len, same_truth, signal_id, slice_get-get_or, slice_get_within, status_at, truth_of, where_true, with_truth}
pub use Rattle.sig_clock.proofs.LayerLemmas.{dead_has_none, one_least, same_pinned, same_roots}
pub use Rattle.sig_clock.proofs.OnceLemmas.{conditions_once, function_once}
pub use Rattle.sig_clock.proofs.Ordered.{same_list}
pub use Rattle.sig_clock.proofs.ProposalLemmas.{absent_makes_none, some_reaction}
pub use Rattle.sig_clock.proofs.ReactionLemmas.{absent_in_silence, statuses_are_same, truths_are_same}
pub use Rattle.sig_plan.specs.Acceptance.{Cycle, Dead, HasCycle, HasOperations, HasTooManyLinks, IsAcceptedKernel, KernelFault, MissingRoot, Pinned, TooManyLinks, Unsolved}
pub use Rattle.sig_plan.specs.Alike.{AreAlike}
pub use Rattle.sig_plan.specs.Answers.{IsFromStore}
pub use Rattle.sig_plan.specs.Codes.{AreSlots, CodeView, ImpliesSlot, Instruction, IsLastBelow, IsStepOf, always, at_end, at_number, at_place, instructions_of, is_signal, links_of, links_to, op_id, over_order, report_links, reports_of, under, unguarded}
pub use Rattle.sig_plan.specs.Guards.{IsGuardOf, of_operation, of_slot}
pub use Rattle.sig_plan.specs.Holding.{Gives, HasBefore, HasGuard}
pub use Rattle.sig_plan.specs.Instructions.{CarriesFrom, IsFor, IsProvidedBefore, NamesWithin, Provides, StandsAt, collects, commits, does, receives, reports, sends}
pub use Rattle.sig_plan.specs.Operations.{AreOperations, Guard, Operation, Presence, cluster_at, cluster_of, default_of, equation_id, function_in, of_each, operation_in, operations_in, operations_of, presence_in, read_of, signals_of, store_of, stores_of, without, writes_of, writing}
pub use Rattle.sig_plan.specs.Order.{ComesBefore, HasNoCycle, IsCompiledOrder, IsCycle, IsOnCycle, IsOrdered, IsReady, Needs, Precedes, Reaches, Writes, directly, onward}
pub use Rattle.sig_plan.specs.Parts.{AreImports, AreParts, AreSignalLinks, Carries, Imports, IsEarlierLink, IsOperation, IsOutput, IsWrittenElsewhere, PartsView, cluster_count, guarded, output, report_link, used}
pub use Rattle.sig_plan.specs.Plans.{IsAccepted, PlanView, numbers_of}
pub use Rattle.sig_plan.specs.Shares.{IsRefusedFor, KeepsToShare, share_of}
pub use Rattle.sig_plan.specs.Written.{AreWritten}
pub use Rattle.sig_plan.specs.declared.answer.PlanAnswer.{PlanAnswer}
pub use Rattle.sig_plan.specs.declared.answer.PlanAnswer.TheVariants.{OutOfMemory}
pub use Rattle.sig_plan.specs.declared.code.Slot.{Slot}
pub use Rattle.sig_plan.specs.declared.code.Step.{Step}
pub use Rattle.sig_plan.specs.declared.code.StepKind.{StepKind}
pub use Rattle.sig_plan.specs.declared.code.StepKind.TheVariants.{Collect, Commit, Do, Receive, Report, Send}
pub use Rattle.sig_plan.specs.declared.op.Op.{Op}
pub use Rattle.sig_plan.specs.declared.op.OpKind.{OpKind}
pub use Rattle.sig_plan.specs.declared.op.OpKind.TheVariants.{Compute, DelayRead, Left, Read, Right, Store}
pub use Rattle.sig_plan.specs.declared.parts.LinkInfo.{LinkInfo}
pub use Rattle.sig_plan.specs.inner.Making.{Adds, AreHeld, AreOver, Extends, HoldGuards, IsMade, Spends}

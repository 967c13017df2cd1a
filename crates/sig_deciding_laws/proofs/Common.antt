-- What the proofs of this crate cite of std, of the crates below and of its own specs, passed on from one place.
pub use Rattle.std.proofs.Common.{All, Bool, Contains, List, None, Option, Some, [], ap, append-nil, append_assoc, arith, cond, false, get_or, if◌then◌else◌, inl, inr, length, map, not, refl, slice_get, slice_index, slice_index_or, subst, suc, sym, take, take_at, true, zero, ℕ, ℤ, ◌&&◌, ◌++◌, ◌+◌, ◌<◌, ◌↔◌, ◌∙◌, ◌∷◌, ◌≡◌, ◌≢◌, ◌≤◌, ◌⊎◌}
pub use Rattle.std.proofs.Math.Decide.{dec_le, dec_lt, map_dec}
pub use Rattle.std.proofs.lemmas.Bool.{true_from_ne_false}
pub use Rattle.std.proofs.lemmas.List.{length_push, take-append-le}
pub use Rattle.std.proofs.lemmas.List.Sums.{AllPass-from_list_all, list_all-from_AllPass}
pub use Rattle.sig_lists.proofs.Decided.{dec_both, dec_contains, dec_either, dec_found, dec_implies, dec_not, dec_number, dec_option, dec_some, dec_then, dec_truth}
pub use Rattle.sig_lists.proofs.Joined.{get_last, get_pushed, still_at}
pub use Rattle.sig_lists.proofs.Places.{value_there}
pub use Rattle.sig_lists.proofs.Searched.{Searched, all_options, all_truths, dec_each, first_below, searched_as, searched_below, searched_lists, searched_members, searched_where}
pub use Rattle.sig_base.specs.declared.limits.TheConstants.{LINKS}
pub use Rattle.sig_dd.specs.Diagram.{Choice, Constant, Diagram, StartsFrom}
unfoldable pub use Rattle.sig_dd.specs.Diagram.{value_at, with_truth}
pub use Rattle.sig_dd.specs.Nodes.{Implies, IsChoice, IsReduced}
pub use Rattle.sig_dd.proofs.Canonical.{one_ref, same_node}
pub use Rattle.sig_dd.proofs.Functions.{IsRefOf-constant, IsRefOf-same, starts_false, starts_true}
pub use Rattle.sig_dd.proofs.Growth.{Holds-append, IsChoice-node, IsChoice-same, IsNodeAt-next, IsReduced-push}
pub use Rattle.sig_dd.proofs.Kept.{starts_on, test-append}
pub use Rattle.sig_dd.proofs.Listed.{diagram-true}
pub use Rattle.sig_dd.proofs.Trees.{truth_of-with_same}
pub use Rattle.sig_clock.specs.ClockRefusals.{AreSolved, HasNoRoot, HasRoot, IsAlive}
pub use Rattle.sig_clock.specs.Clocks.{IsLeastOf}
pub use Rattle.sig_clock.specs.Layers.{IsRoot, IsSignal, NeverEnters}
pub use Rattle.sig_clock.proofs.Common.{AgreeOn, EntersBy, HasLayer, IsDetermined, IsEarlier, IsFree, IsLeast, IsPinned, IsPossible, IsPossibleWithout, IsSolved, is_silent}
pub use Rattle.sig_clock.proofs.LayerLemmas.{enters_stays, one_layer}
pub use Rattle.sig_clock.proofs.Ordered.{IsOrdered}
pub use Rattle.sig_clock.proofs.ProposalLemmas.{one_presence}
pub use Rattle.sig_plan.specs.Acceptance.{IsRefusedFor}
pub use Rattle.sig_plan.specs.Codes.{AreCodes, IsCode}
pub use Rattle.sig_plan.specs.Order.{Decides, DoneTogether, Feeds, Keeps}
pub use Rattle.sig_plan.specs.Parts.{IsNeededFor, IsUsed}
pub use Rattle.sig_plan.specs.declared.code.Slot.{Slot}
pub use Rattle.sig_plan.specs.declared.code.Step.{Step}
pub use Rattle.sig_plan.specs.declared.code.StepKind.TheVariants.{Commit}
pub use Rattle.sig_plan.specs.declared.parts.LinkInfo.{LinkInfo}
pub use Rattle.sig_plan.proofs.Accepted.{operations_made_are}
pub use Rattle.sig_plan.proofs.AddedOperations.{guard_is}
pub use Rattle.sig_plan.proofs.Common.{Agree, AreClocks, AreImports, AreOperations, AreParts, AreSignalLinks, AreSlots, Carries, ClocksView, CodeView, ComesBefore, Contains-append_cases, Cycle, Dead, Guard, HasClocks, HasNoCycle, ImpliesSlot, Imports, Instruction, IsAcceptedKernel, IsClockFunction, IsCycle, IsDead, IsEarlierLink, IsFirstPinned, IsFor, IsLastBelow, IsMissingRoot, IsOnCycle, IsOpen, IsOperation, IsOutput, IsReaction, IsReady, IsRefOf, IsStepOf, IsStore, IsUnsolved, IsWrittenElsewhere, KernelFault, MissingRoot, PartsView, Pinned, Reaches, Ref, StoreView, TooManyLinks, Unsolved, always, cases_lt, cases_order, cluster_at, cluster_count, cluster_of, collects, commits, contains_cons, contains_mapped, contains_none, diagram, directly, does, get_map, get_or_append_left, get_or_push, guard_of, guarded, instructions_of, map_get, mapped_from, onward, op_id, output, presence_in, receives, report_link, reports, sends, truth_of-with_other, unguarded, used}
pub use Rattle.sig_plan.proofs.InstructionsOfActors.{instruction_for}
pub use Rattle.sig_plan.proofs.Lists.{signal_same}
pub use Rattle.sig_plan.proofs.OperationsOnce.{operations_once}
pub use Rattle.sig_plan.proofs.Orders.{same_order}
pub use Rattle.sig_plan.proofs.PartsOnce.{WritesWithin, operations_fine, parts_once}
pub use Rattle.sig_plan.proofs.Pigeons.{AreTwo, two_are_same}
pub use Rattle.sig_meaning_laws.proofs.Accepted.{compiled}
pub use Rattle.sig_meaning_laws.proofs.Agreement.{same_instant}
pub use Rattle.sig_meaning_laws.proofs.Common.{All-cons, All-contains, All-nil, Allows, AreFlowsFor, AreInOrder, Compute, Contains-append_left, Contains-append_right, Default, Delay, DelayRead, Depends, Ended, EqId, Equation, Event, Form, Fun, HasOneReaction, HasOperations, Holds, Instant, IsAccepted, IsCompiledOrder, IsEnd, IsFirstFault, IsKernelTrace, IsNamedCause, IsNext, IsValid, KeepsTo, Kernel, Left, Memory, Needs, Node, Op, OpKind, Operation, Place, PlanView, Precedes, Presence, Reaction, Read, Right, SigId, Signal, Speaks, Status, StopsBefore, Store, Sync, Trace, When, WhenConst, Writes, and_parts, are_statuses, at_contained, cases_eq, contains_at, contains_head, contains_later, each_operation, false≢true, get_or_default, is_boolean_kind, is_condition, is_free, is_present, is_status_of, kind_at, kind_of, length-map, list_all, meets, numbers_of, one_longest, only, operation_in, operations_in, operations_of, place_at, plan_operations, range_with_len, read_of, signal_id, signals_of, slice_get-get_or, slice_get_within, some_at, some_reaction, status_at, store_of, stores_of, test, truth_of, truth_of_status, without, writes_of, writing}
pub use Rattle.sig_meaning_laws.proofs.EndOfRun.{some_end}
pub use Rattle.sig_meaning_laws.proofs.Longest.{longest_cut, some_longest}
pub use Rattle.sig_meaning_laws.proofs.References.{one_reference, reference_begins, some_reference}
pub use Rattle.sig_meaning_laws.proofs.Uniqueness.{end_at_first, one_end}
pub use Rattle.sig_meaning_laws.proofs.WrittenInstant.{one_reaction}
pub use Rattle.sig_deciding_laws.specs.KernelRuns.{AreKernelLinks, AreOrdered, IsKernelEnd, IsPlanOf}

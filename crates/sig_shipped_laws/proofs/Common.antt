-- What the proofs of this crate cite of std, of the crates below and of its own specs, passed on from one place.
pub use Rattle.std.proofs.Common.{All, Bool, Contains, List, None, Option, Some, [], ap, append-nil, append_assoc, arith, cond, count_by, drop, eq-eqb, eqb-true, false, filter_map, flat_map, get_or, if◌then◌else◌, inl, inr, is_some, length, length-append, length-drop, length-set, length-take, map, negsuc, option_and_then, option_map, pos, refl, replicate, set, slice_get, slice_index, slice_index_or, slice_set, subst, suc, sym, take, true, unwrap_or, zero, ℕ, ℤ, ◌++◌, ◌+◌, ◌<◌, ◌==◌, ◌∙◌, ◌∷◌, ◌≡◌, ◌≤◌, ◌⊎◌}
pub use Rattle.std.proofs.lemmas.List.{length-replicate}
pub use Rattle.sig_lists.proofs.SetItems.{get_set_other, get_set_same}
pub use Rattle.sig_dd.proofs.Listed.{diagram-false, diagram-node, diagram-true}
pub use Rattle.sig_plan.proofs.Common.{Asks, asks_depends, asks_no_idle, contains_cons, contains_none}
pub use Rattle.sig_plan.proofs.Earlier.{guards_idle}
pub use Rattle.sig_plan.proofs.Indices.{read_below}
pub use Rattle.sig_plan.proofs.NamedInSteps.{order_names}
pub use Rattle.sig_model.specs.Operating.{Outcome}
pub use Rattle.sig_meaning_laws.proofs.Common.{Actor, All-cons, All-contains, All-nil, AllByRecursion, And, AreFlowsFor, Cause, Compute, Const, Default, Delay, DelayRead, Difference, Ended, EqId, Equal, Equation, Event, Exhausted, Faults, Form, Fun, FunOp, Function, Greater, GreaterEqual, HaveValues, Holds, Identity, Instant, IsAccepted, IsEnd, IsReference, IsValid, KeepsTo, Kernel, Kind, Left, Less, LessEqual, Limit, Needs, Negative, Not, NotEqual, Op, OpKind, Operand, Operation, Or, Overflow, Place, PlanView, Precedes, Presence, Product, Quotient, Reaction, Read, Remainder, Right, Seen, Sig, SigId, Signal, Span, Speaks, Status, Store, Sum, Sync, Trace, When, WhenConst, Xor, ZeroDivisor, abstraction_of, computed_at, computed_by, computed_for, contains_at, contains_head, contains_later, divides_by_zero, each_operation, equation_id, first_in, form_fits, function_of, got, has_64_bits, is_present, kind_at, length-map, memory_of, needed_earlier, next_of, numbers_of, only, operand_count, operand_in, operation_in, operations_in, operations_of, outcome, outcome_by, place_at, present_written, range_with_len, read_earlier, read_present, result_of, seen_at, signal_id, signals_of, slice_get-get_or, slice_get_within, some_at, some_reaction, stands_once, status_at, stores_of, target_fits, test, truths_of, value_in, with_at, with_signal, without, writes_of, writing, written_below, written_by_one}
pub use Rattle.sig_meaning_laws.proofs.Results.{bounded_gives, equal, given}
pub use Rattle.sig_meaning_laws.proofs.Truths.{operands_counted}
pub use Rattle.sig_meaning_laws.proofs.Uniqueness.{one_end}
pub use Rattle.sig_doing_laws.proofs.Amid.{guard_known, here, reads_known}
pub use Rattle.sig_doing_laws.proofs.Committed.{limit_end, next_instant}
pub use Rattle.sig_doing_laws.proofs.CommittedInstant.{committed_more, next_amid, none_committed, opening_amid, text_is}
pub use Rattle.sig_doing_laws.proofs.Common.{Compiled, Gives, IsAmid, IsCommitted, StandsAt, compiled, condition_signal, defined_by, instant_behind, opening_actor, operated, output_text, outputs_of, own_present, reaction_in, remembers, seen_line, seen_lines, stepped, taken_by}
pub use Rattle.sig_doing_laws.proofs.DefinedOnce.{defined_once, initial_is}
pub use Rattle.sig_doing_laws.proofs.FaultEndsRun.{fault_end}
pub use Rattle.sig_doing_laws.proofs.Lines.{dropped_at, same_lines}
pub use Rattle.sig_doing_laws.proofs.Operated.{done_behind}
pub use Rattle.sig_doing_laws.proofs.PassedOver.{passed_over}
pub use Rattle.sig_doing_laws.proofs.Places.{at_place, to_place}
pub use Rattle.sig_doing_laws.proofs.ReferenceInstant.{is_next, keeps, speaks}
pub use Rattle.sig_file.specs.Guarded.{Guarded, Guards, IsSoundImage, IsSoundOperation, IsWrittenBefore, Reads, Writes, guarded_in, guards_of}
pub use Rattle.sig_file.specs.ImageRuns.{Computes, Does, Ends, EndsIn, Handles, HandlesAll, HasZeroDivisor, IsImageRun, Runs, State, cleared, holds, instant_lines, opening, proposal_of, written}
pub use Rattle.sig_file.specs.declared.images.ImageMemory.{ImageMemory}
pub use Rattle.sig_file.specs.declared.images.ImageNode.{ImageNode}
pub use Rattle.sig_file.specs.declared.images.ImageOp.{ImageOp}
pub use Rattle.sig_file.specs.declared.images.ImageOpKind.{ImageOpKind}
pub use Rattle.sig_file.specs.declared.images.ImageSignal.{ImageSignal}
pub use Rattle.sig_file.proofs.Common.{Choice, Constant, Depends-tests, Diagram, Each, ImageView, IsNodeBehind, IsProper, OpId, Ref, Tests, at_each, before, cases_order, cons_option, diagram, does_of, flat_map-cons, guard_alone, guard_held, image_of, image_op, image_signal, is_delay, made_of, memory_number, node_in, nodes_in, of_operation, op_with, ordered, presence_in, proper, same_Some, slice_get-map, still_at, sum_by-cons, target_of, value_at, visited}
pub use Rattle.sig_file.proofs.PlanMemories.{memory_there}
pub use Rattle.sig_file.proofs.PlanNodes.{Shows, visited_right}
pub use Rattle.sig_file.proofs.PlanOperations.{nodes_right}
pub use Rattle.sig_file.proofs.Reduced.{reduced}
pub use Rattle.sig_shipped_laws.specs.Ends.{cause_in, end_in, span_at, span_of}
pub use Rattle.sig_doing_laws.proofs.CompiledLists.{compiled_operations, compiled_order}

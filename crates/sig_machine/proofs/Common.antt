-- What the proofs of this crate cite of std, of the crates below and of its own specs, passed on from one place.
pub use Rattle.std.proofs.Common.{All, Bool, Contains, Err, FitsSigned, IfOk, IfSome, List, None, Ok, Option, Result, Some, [], ap, append_assoc, arith, cond, drop, eq-eqb, eqb-true, false, get_or, if◌then◌else◌, inl, inr, is_some, length, length-append, length-set, ltb-false, ltb-true, map, nat_lt, not, pos, refl, replicate, rules, set, slice_get, slice_index_or, subst, suc, sym, take, take_at, true, unwrap_or, w64, zero, ℕ, ℤ, ◌++◌, ◌+◌, ◌-◌, ◌<◌, ◌==◌, ◌∙◌, ◌∷◌, ◌≡◌, ◌≢◌, ◌≤◌, ◌⊎◌, ◌&&◌, ◌||◌}
pub use Rattle.std.proofs.lemmas.Bool.Decides.{eqb_tells}
pub use Rattle.std.proofs.lemmas.List.{length-replicate, with_items_is}
pub use Rattle.std.proofs.lemmas.Option.{slice_get-get_or as get_at, slice_get_past, slice_get_within as get_within}
pub use Rattle.std.proofs.lemmas.Result.{err_from_is_err_and}
pub use Rattle.std.specs.Vec.{with_items}
pub use Rattle.sig_dd.proofs.Common.{IsReduced, StoreView}
pub use Rattle.sig_clock.proofs.Common.{AreInOrder, IsEarlier, Signal, cases_order, is_boolean_kind, is_condition, is_free, kind_at, kind_of}
pub use Rattle.sig_clock.proofs.LayerLemmas.{one_layer}
pub use Rattle.sig_plan.proofs.Common.{Ref, of_operation}
pub use Rattle.sig_plan.proofs.Indices.{read_below}
pub use Rattle.sig_plan.proofs.NamedInSteps.{order_names}
pub use Rattle.sig_plan.proofs.Slotted.{guard_alone, guard_held}
pub use Rattle.sig_model.specs.Actors.{code_of, opening_actor, value_in}
pub use Rattle.sig_model.specs.Operating.{memory_of}
pub use Rattle.sig_model.specs.Prelude.{Do, Step, StepKind}
pub use Rattle.sig_model.specs.Results.{is_one}
pub use Rattle.sig_values.proofs.Common.{Outcome, answered, input_of, slice_get_read, to_z-of_z}
pub use Rattle.sig_values.proofs.Functions.{of_many, two_of}
pub use Rattle.sig_values.specs.Values.{at_next}
pub use Rattle.sig_meaning_laws.proofs.Common.{Actor, All-cons, All-contains, All-nil, AreFlowsFor, Cause, Compute, Const, Default, Delay, DelayRead, Depends, EqId, Equation, Event, Faults, Form, Fun, FunOp, Function, HasOperations, Holds, Instant, IsAccepted, IsValid, Kernel, Left, Node, Op, OpKind, Operand, Operation, PlanView, Presence, Read, Registers, Right, Sig, SigId, Store, Sync, Trace, When, WhenConst, abstraction_of, and_parts, computed, computed_at, computed_by, computed_for, divides_by_zero, each_operation, first_in, form_within, function_of, is_below, is_true, list_all, no_registers, numbers_of, only, operand_in, operand_within, operands_of, operation_in, operations_in, operations_of, outcome, outcome_by, Place, IsEnd, place_at, plan_operations, read_present, result_of, seen_at, signal_id, signals_of, store_of, stores_of, test, truth_of, truths_of, with_at, with_signal, without, writes_of, writing, written_below}
pub use Rattle.sig_lists.proofs.Places.{some_at}
pub use Rattle.sig_lists.proofs.Contained.{contains_at, contains_head, contains_later}
pub use Rattle.sig_doing_laws.proofs.Amid.{guard_known, here, reads_known}
pub use Rattle.sig_doing_laws.proofs.Common.{Gives, IsAmid, OpId, StandsAt, compiled, condition_signal, defined_by, fitting, flow_count, has_64_bits, initial_in, operated, own_present, remembers, stepped, taken_by, target_of, target_within}
pub use Rattle.sig_doing_laws.proofs.FaultEndsRun.{fault_end}
pub use Rattle.sig_doing_laws.proofs.ReferenceInstant.{is_next, keeps, speaks}
pub use Rattle.sig_doing_laws.proofs.Operated.{done_behind}
pub use Rattle.sig_doing_laws.proofs.PassedOver.{passed_over}
pub use Rattle.sig_doing_laws.proofs.Places.{one_at}
pub use Rattle.sig_machine.specs.ActorMachines.{AreForSteps, DoesOp, HasActor, IsForKind, IsOpOfStep, IsStepDone, actor_in, instant_of, is_kept, last_in, seen_in, truths_in}
unfoldable pub use Rattle.sig_machine.specs.ActorMachines.{IsMachineOfActor}
pub use Rattle.sig_machine.specs.Following.{AreFollowed, DoOperations, HasFault, IsFollowed}
pub use Rattle.sig_machine.specs.Instants.{EndsBy, GoesOn, ended_behind}
pub use Rattle.sig_machine.specs.Lowerings.{AreFor, AreGuardsOf, HasReads, HasShape, IsFor, IsTarget, IsWorkOf, Lowers, taken_by_form}
pub use Rattle.sig_machine.specs.Machines.{AbsentAreZero, HaveConstants, IsMachineFor, IsMachineOf, actor_at, cell, memories_at, memories_of, registers_of, stamped, taken_of}
pub use Rattle.sig_machine.specs.inner.OnCells.{AreZero, Begins, IsOnCells, KeepsOwn, cells_in}
pub use Rattle.sig_machine.specs.inner.Own.{AreKept, AreOwnBelow, WritesOwn, is_own}
pub use Rattle.sig_machine.specs.inner.Sources.{AreBelow, Grows, IsCellOf, IsConstant, IsSource}
pub use Rattle.sig_machine.specs.inner.Truths.{AreDifferent, AreEntered, AreNextFrom, AreNextTold, AreToldBetween, AreVariables, AreWithin, IsNextTold, TellNoneBetween, TellsBetween, TellsNone, told_at}
pub use Rattle.sig_machine.specs.inner.Works.{IsKept, IsPut, as_named, came_to, named}
pub use Rattle.sig_cells.specs.Codes.{AreGuards, IsCode, guards_in, instructions_in, scope_in}
pub use Rattle.sig_cells.specs.Codes.{AreWithin as AreInstructionsWithin}
pub use Rattle.sig_cells.specs.Guards.{AreBelow as AreConditionsBelow, Scope, scope_of}
pub use Rattle.sig_cells.specs.Rows.{AreInstructions, Does, GoesTo, IsWithin, Stops, listed}
pub use Rattle.sig_cells.specs.Instants.{DoesAt, EndsAt, Handles, HandlesAt, Keeps, Stands, holds_at}
pub use Rattle.sig_cells.specs.Instructions.{Cells, answer_of, cells_of, left_by, registers_in, ReadsWithin, input_id, input_taken, no_equation, taken_after}
pub use Rattle.sig_machine.specs.declared.actor.ActorMachine.{ActorMachine}
pub use Rattle.sig_cells.specs.declared.instruction.Instruction.{Instruction}
pub use Rattle.sig_cells.specs.declared.instructions.Instructions.{Instructions}
pub use Rattle.sig_cells.specs.declared.instruction.Work.{Work}
pub use Rattle.sig_cells.specs.declared.instruction.Work.TheVariants.{Copy, Next, One, Two}
pub use Rattle.sig_cells.specs.declared.react.Fault.{Fault}
pub use Rattle.sig_machine.specs.declared.lowered.Lowered.{Lowered}
pub use Rattle.sig_machine.specs.declared.machine.Machine.{Machine}
pub use Rattle.sig_machine.specs.declared.own.Own.{Own}

-- What the proofs of this crate cite of std, of the crates below and of its own specs, passed on from one place.
pub use Rattle.std.proofs.Common.{Bool, Contains, Err, IsTrue, List, None, Ok, OnErr, OnOk, Option, Result, Some, [], ap, append-nil, append_assoc, arith, drop, drop-set-lt, eq-eqb, eqb, eqb-true, false, flat_map, get_or-drop, get_or-set_other, get_or-set_same, get_or-take, if◌then◌else◌, inl, inr, int_eq, int_le, int_lt, length, length-append, length-drop, length-set, length-take-le, map, not, option_map, pos, refl, replicate, set, slice_get, slice_index_or, slice_set, subst, suc, sym, take, true, unwrap_or, zero, ℕ, ℤ, ◌&&◌, ◌++◌, ◌+◌, ◌-◌, ◌<ℤ◌, ◌<◌, ◌==◌, ◌||◌, ◌∙◌, ◌∷◌, ◌≡◌, ◌≢◌, ◌≤ℤ◌, ◌≤◌, ◌⊎◌}
pub use Rattle.std.proofs.Math.Seq.{take-set-lt}
pub use Rattle.std.proofs.lemmas.Int.{ints}
pub use Rattle.std.proofs.lemmas.List.{drop-set-add, length-replicate, take-set-le}
pub use Rattle.std.proofs.lemmas.Option.{slice_get_read}
pub use Rattle.std.specs.Prelude.{⊤}
pub use Rattle.sig_lists.proofs.Contained.{contains_head, contains_later}
pub use Rattle.sig_lists.proofs.Joined.{get_pushed}
pub use Rattle.sig_lists.proofs.Places.{some_at}
pub use Rattle.sig_base.specs.Functions.{Difference, Equal, Greater, GreaterEqual, Identity, Less, LessEqual, Negative, NotEqual, Product, Quotient, Remainder, Sum, Tells, operand_count}
pub use Rattle.sig_kernel.specs.KernelTraces.{HaveValues}
pub use Rattle.sig_kernel.specs.OutputText.{line_of}
pub use Rattle.sig_kernel.proofs.Common.{AreOfKinds, Bounded, Function, Gives, Instant, IsOfKind, IsValue, Seen, Trace, fits_by_test, function_of, list_all-from_AllPass, seen_at}
pub use Rattle.sig_kernel.proofs.ValueLemmas.{value_of}
unfoldable pub use Rattle.sig_dd.specs.Diagram.{value_at}
pub use Rattle.sig_dd.specs.Nodes.{IsRefOf, Keeps, StoreView}
pub use Rattle.sig_dd.specs.declared.answer.DdAnswer.{DdAnswer}
pub use Rattle.std.specs.Prelude.{IfOk, nat_lt}
pub use Rattle.std.proofs.lemmas.List.{take_all}
pub use Rattle.std.proofs.lemmas.Bool.{lt-ltb}
pub use Rattle.std.proofs.Math.Seq.{take-append_seam}
pub use Rattle.sig_dd.specs.declared.node.Ref.{Ref}
pub use Rattle.sig_dd.specs.Diagram.{Depends, with_truth}
pub use Rattle.sig_dd.proofs.CallerLemmas.{IsRefOf-kept}
pub use Rattle.sig_dd.proofs.Dependence.{choice_depends, ref_depends, variable_depends}
pub use Rattle.sig_file.specs.Images.{begins_row, operands_begin}
pub use Rattle.sig_kernel.specs.Table.{Row, function_rows}
pub use Rattle.sig_kernel.specs.declared.table.Sort.{Sort}
pub use Rattle.sig_dd.proofs.Sides.{IsSide-child}
pub use Rattle.sig_dd.proofs.Variables.{constant_value}
pub use Rattle.sig_file.specs.Guarded.{IsSound}
pub use Rattle.sig_file.specs.ImageRuns.{Does, Ends, EndsIn, Handles, HandlesAll, HasZeroDivisor, IsImageRun, Runs, State, cleared, holds, instant_lines, is_true, opening, proposal_of, seen_line, seen_lines, written}
pub use Rattle.sig_file.specs.declared.images.ImageMemory.{ImageMemory}
pub use Rattle.sig_file.specs.declared.images.ImageSignal.{ImageSignal}
pub use Rattle.sig_file.specs.declared.run.ImageCause.{ImageCause}
pub use Rattle.sig_file.specs.declared.run.ImageCause.TheVariants.{Limit}
pub use Rattle.sig_file.specs.declared.run.ImageEnd.{ImageEnd}
pub use Rattle.sig_file.proofs.Common.{Add, AllByRecursion, AllPass, And, Boolean, Choice, Const, Constant, Decides-int_eq, Diagram, Div, Eq, Event, FunOp, Ge, Gt, Holds, Id, ImageView, Integer, IsImage, IsMemory, IsNodeBehind, IsOperation, IsReduced, Kind, Le, Lt, MayDo, Mod, Mul, Ne, Neg, Node, Not, Operand, Or, Sig, SigId, Span, Sub, Xor, accepts, accepts_value, are_operands, cases_lt, constant_is, err_from_is_err_and, get_or_past, has_64_bits, is_boolean, is_condition_behind, is_kind, is_same, kind_at, kind_fits, kind_in, length-map, list_all, list_any, memory_at, memory_in, node_in, node_of, nodes_in, operand_is, same_Some, scope_of, slice_get-get_or, slice_get-map, slice_get_within, sort_of, value_is}
pub use Rattle.sig_verify.proofs.Common.{Asks, Guarded, Guards, HasVariable-node, ImageNode, ImageOp, ImageOpKind, IsSide, IsSoundImage, IsWrittenBefore, Reads, Writes, each_at, guarded_in, guards_of, reduced, test, truth_of}
pub use Rattle.sig_flow.proofs.Common.{Joins, TookPrefix, TookPrefix-longer, TookPrefix-then, and_first}
pub use Rattle.sig_exec.specs.Running.{AreFlowsOf, HaveKinds, TookRun, TookSome}
pub use Rattle.sig_plan.specs.declared.ended.Cause.{Cause}
pub use Rattle.sig_plan.specs.declared.ended.Cause.TheVariants.{Exhausted, Overflow, ZeroDivisor}
pub use Rattle.sig_model.specs.Actors.{truths_of}
pub use Rattle.sig_model.specs.Operating.{computed, next_of}
pub use Rattle.sig_model.specs.Results.{divides_by_zero, result_of, truth_value}
pub use Rattle.sig_values.specs.Answers.{answered}
pub use Rattle.sig_flow.specs.OutputLines.{longest_line, longest_lines}
pub use Rattle.sig_base.specs.declared.signal.Signal.{Signal}
pub use Rattle.std.proofs.Common.{get_or}
pub use Rattle.sig_cells.specs.Codes.{AreGuards, AreWithin, IsCode, guards_in, instructions_in, scope_in}
pub use Rattle.sig_cells.specs.Guards.{AreBelow, Scope}
pub use Rattle.sig_cells.specs.Instants.{EndsAt as CellsEndAt, Handles as HandlesCells, HandlesAt, Keeps as KeepsCells, Stands, holds_at}
pub use Rattle.sig_cells.specs.Instructions.{Cells, ReadsWithin, answer_of, cell, cells_of, left_by, no_equation, registers_in, stamped, taken_after}
pub use Rattle.sig_cells.specs.declared.instruction.Instruction.{Instruction}
pub use Rattle.sig_cells.specs.declared.instruction.Work.{Work}
pub use Rattle.sig_cells.specs.declared.instruction.Work.TheVariants.{Copy, Next, One, Two}
pub use Rattle.sig_cells.specs.declared.react.Fault.{Fault}
pub use Rattle.sig_exec.specs.declared.functions.Functions.{Functions}
pub use Rattle.sig_exec.specs.declared.lowered.ImageInstructions.{ImageInstructions}
pub use Rattle.sig_exec.specs.declared.machine.ImageMachine.{ImageMachine}
pub use Rattle.sig_exec.specs.inner.Functions.{AreFunctions, AreFunctionsOfFirst, IsChosen}
pub use Rattle.sig_exec.specs.inner.Instants.{AreOutputs, EndsAt, HandlesEach, HandlesFirst, IsAmid, IsOutput, reference}
pub use Rattle.sig_exec.specs.inner.Lowerings.{AreFor, AreGuardsOf, BeginWith, Grows, IsCellOf, IsConstant, IsFor, IsFunctionWork, IsWorkOf, Lowers, bound_of, inits_of, target_of}
pub use Rattle.sig_exec.specs.inner.Machines.{AreCellsOf, HaveSignals, IsMachineOf, cells_in, left_of, registers_of, registers_on, seen_in, seen_on, shown, shown_all, state_of, state_on}
pub use Rattle.sig_exec.specs.inner.Outcomes.{cause_of}

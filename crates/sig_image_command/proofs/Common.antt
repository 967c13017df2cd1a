-- What the proofs of this crate cite of std, of the crates below and of its own specs, passed on from one place.
pub use Rattle.std.proofs.Common.{All, Bool, Contains, Err, IfOk, IfSome, IsTrue, List, None, Ok, Option, Result, Some, [], ap, arith, bytes_eq, codes, decimal, false, filter_map, flat_map, get_or, if◌then◌else◌, inl, inr, is_none, le-leb, length, length-append, length-take-le, lt-ltb, map, nat_lt, refl, slice_get, slice_index_or, subst, suc, sym, take, true, zero, ℕ, ℤ, ⊎_elim, ◌&&◌, ◌++◌, ◌+◌, ◌-◌, ◌<◌, ◌^◌, ◌||◌, ◌↔◌, ◌∙◌, ◌∷◌, ◌≡◌, ◌≤◌, ◌⊎◌}
pub use Rattle.std.proofs.lemmas.List.{map-append, take-map}
pub use Rattle.std.proofs.lemmas.List.Elements.{All-head, All-tail}
unfoldable pub use Rattle.std.specs.List.{IsDistinct}
pub use Rattle.std.specs.Prelude.{⊤}
pub use Rattle.sig_dd.proofs.Trees.{one_diagram}
pub use Rattle.sig_plan.proofs.PlanOnce.{same_conditions, same_ids, same_operations}
pub use Rattle.sig_deciding_laws.specs.KernelRuns.{IsKernelEnd}
pub use Rattle.sig_deciding_laws.proofs.KernelRuns.{plan_end}
pub use Rattle.sig_file.specs.Fields.{IsBrokenAt}
pub use Rattle.sig_file.specs.Spelled.{HasNames}
pub use Rattle.sig_file.specs.declared.limits.TheConstants.{IMAGE_BYTES}
pub use Rattle.sig_file.specs.declared.run.ImageCause.TheVariants.{Exhausted, Overflow, ZeroDivisor}
pub use Rattle.sig_file.proofs.Common.{All-from_recursion, AllByRecursion, AllPass, Compute, DelayRead, Diagram, Each, EqId, Equation, HasName, HasPlace, HavePlaces, Holds, ImageView, IsImage, IsOperation, IsReduced, IsSignalBehind, Left, MayDo, Node, Op, OpId, OpKind, Read, Right, SigId, Span, Store, and_from, before, bytes_eq-Decides, cases_order, cons_option, diagram, does_of, equation_at, equation_numbered, file_at, image_bytes, image_of, image_op, image_signal, is_name, length-map, list_any, list_any-append, made_of, memories_of, memory_number, names_of, op_with, operation_in, ordered, proper, read_at, scope_of, value_is, visited}
pub use Rattle.sig_file.proofs.Fields.{IsBytes}
pub use Rattle.sig_file.proofs.Files.{file_again, file_short, file_takes}
pub use Rattle.sig_verify.specs.Verifying.{IsBeyondBound, IsFirstUnsound}
pub use Rattle.sig_verify.proofs.Verdict.{verdict}
pub use Rattle.sig_shipped_laws.specs.Ends.{cause_in, end_in, span_at, span_of}
pub use Rattle.sig_shipped_laws.proofs.ImageRunsAsPlan.{runs_as}
pub use Rattle.sig_shipped_laws.proofs.Sound.{sound}
pub use Rattle.sig_flow.specs.Flows.{body_at, is_header, named_count, words_count}
pub use Rattle.sig_flow.specs.declared.version.Version.TheVariants.{One, Two}
pub use Rattle.sig_flow.proofs.Common.{AllGood, AreFlowsIn, Body, IsFirst, IsFirstIn, Judge, Line, body_of, flow_in, get_or-map, line_judge, lines_of, values_for}
pub use Rattle.sig_front.proofs.Common.{AtPlacesOfKernel, IfOk-weaker, IsKernelText, IsSignalName, IsWithin, all_so}
pub use Rattle.sig_exec.proofs.Common.{AreFlowsOf, Ends, EndsIn, Guards, ImageCause, ImageEnd, ImageNode, ImageOp, ImageOpKind, ImageSignal, IsImageRun, IsSoundImage, Limit, Runs, State, TookRun, TookSome, cleared, guarded_in, guards_of, opening}
pub use Rattle.sig_exec.proofs.RunOfSoundImage.{some_run}
pub use Rattle.sig_exec.proofs.Single.{one_run}
pub use Rattle.sig_outcome.specs.Outcomes.{long_image}
pub use Rattle.sig_outcome.proofs.Common.{Bad, IsOfLength, Owes, done}
pub use Rattle.sig_outcome.proofs.FoundFiles.{some_at_data}
pub use Rattle.sig_outcome.proofs.Refused.{about_image, budget_of_image, count_of_length, no_budget_of_length, of_more_image, refused_image}
pub use Rattle.sig_program.proofs.Common.{HasSignalNames, OutOfMemory, some_plan}
pub use Rattle.sig_program.proofs.PlanStatuses.{compile_number}
pub use Rattle.sig_loaded.specs.Ends.{col_at, end_pieces, line_at, name_at, pieces_at}
pub use Rattle.sig_text.specs.Counts.{Rose}
pub use Rattle.sig_loaded.proofs.Common.{Absent, AreFlows, AreFlowsFor, AreRefused, AtFile, AtFlows, AtPlan, BadLine, Budget, Cause, Contents, Data, Ended, FindsAccepted, FindsFlows, FlowAnswer, Found, Good, HasCount, HoldsBeyondBound, IfErr-weaker, IfSome_then, IsAboutFlows, IsAboutPlan, IsAccepted, IsAcceptedAs, IsAcceptedKernel, IsDue, IsEnded, IsFirstBadPlace, IsFlowLine, IsOwn, IsValid, Kernel, LacksMemory, Long, LongFile, LongImage, LongProgram, Missing, OneAtMost, Operation, Outcome, PROGRAM_BYTES, Performs, Place, PlanView, Program, Reaches, ReadFault, Refusal, RefusesFlows, SaysLine, Settings, Signal, Stops, TooManyItems, TookPrefix-whole, Trace, Version, Word, about_data, accepted_once, accepted_or_refused, at_file_ends, behind_data, behind_program, cases_lt, end_line, end_status, ended, err_from_is_err_and, file_body, flushed, inputs_of, is_line_byte, kind_named, later_count, later_own, list_all, long_file, long_program, name_where_there, named_fault, one_at_data, one_at_program, operations_in, outcome_of, output_text, performs_outcome, performs_refusal, read_fit, refused, refused_data, refused_once, status_of, text_fault, told, told_both, words_fault, words_of, write_line}
pub use Rattle.sig_loaded.proofs.Complete.{flows_either}
pub use Rattle.sig_loaded.proofs.FlowLines.{flow_line}
pub use Rattle.sig_loaded.proofs.OneRun.{flows_apart, no_flows_line, one_flows}
pub use Rattle.sig_image_command.specs.Builds.{AreFewBytes, AreImageBytes, AreManyBytes, BuildComesTo, BuildsTo, HasBuilt, HasImage, HasLongImage, IsAboutBuild, IsBuildStatus, IsKernelImage, building}
pub use Rattle.sig_image_command.specs.Complete.{CanBuild, CanExec}
pub use Rattle.sig_image_command.specs.ExecEnds.{IsOfImage, exec_line, exec_pieces, exec_status, name_in}
pub use Rattle.sig_image_command.specs.Execs.{ExecComesTo, ExecutesTo, HasExecuted, IsAboutExec, IsExecStatus, WritesExec, executed, executing, input_of, inputs_of_image}
pub use Rattle.sig_image_command.specs.ImageFiles.{AreBytes, AtImage, FindsImage, HoldsBeyondVerifying, IsAboutFile, IsBrokenFile, IsBudget, IsFileOf, IsImageLine, IsSoundFile, IsUnsoundFile, LacksNodes, RefusesImage, TookSoundImage, bad_image, unsound_image}

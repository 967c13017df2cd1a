-- What the proofs of this crate cite of std, of the crates below and of its own specs, passed on from one place.
pub use Rattle.std.proofs.Common.{Bool, Contains, Err, IfSome, IsTrue, List, None, Ok, Option, Result, Some, [], ap, arith, false, if◌then◌else◌, inl, inr, length, ltb-false, ltb-true, min, nat_le, refl, rules, slice_get, subst, sum_by, sym, true, vec_len, ℕ, ℤ, ⊎_elim, ◌*◌, ◌+◌, ◌<◌, ◌∙◌, ◌∷◌, ◌≡◌, ◌≢◌, ◌≤◌, ◌⊎◌}
pub use Rattle.std.proofs.Math.Nat.{le-min, min-le_left}
pub use Rattle.std.specs.Prelude.{⊤}
pub use Rattle.sig_base.specs.declared.limits.TheConstants.{ITEMS, VALUES}
pub use Rattle.sig_plan.proofs.Indices.{equation_below}
pub use Rattle.sig_model.specs.Causes.{Meets}
pub use Rattle.sig_meaning_laws.proofs.Common.{AreFlowsFor, Cause, Ended, Exhausted, HasOperations, IsAccepted, IsEnd, IsKernelTrace, IsLongest, IsNamedCause, IsValid, Kernel, Kind, Limit, Operation, Overflow, Place, PlanView, Signal, Trace, ZeroDivisor, contains_at, inputs_of, list_all, numbers_of, one_longest, operations_in, operations_of, plan_operations, written_below}
pub use Rattle.sig_meaning_laws.proofs.EndOfRun.{some_end}
pub use Rattle.sig_meaning_laws.proofs.FirstFaults.{one_either}
pub use Rattle.sig_deciding_laws.proofs.KernelRuns.{kernel_end, links_once, one_kernel_end, plan_links, some_kernel_end, some_links}
pub use Rattle.sig_words.specs.declared.command.Settings.{Settings}
pub use Rattle.sig_flow.specs.declared.answer.FlowAnswer.{FlowAnswer}
pub use Rattle.sig_flow.specs.declared.answer.FlowAnswer.TheVariants.{BadLine, BadValue, NotAnInput, OutOfMemory, OutOfRange, TooMany}
pub use Rattle.sig_flow.specs.declared.value.Run.{Run}
pub use Rattle.sig_flow.specs.declared.value.WordFault.{WordFault}
pub use Rattle.sig_flow.specs.declared.value.WordFault.TheVariants.{Bad, Outside}
pub use Rattle.sig_flow.specs.declared.version.Version.{Version}
pub use Rattle.sig_flow.proofs.Common.{AreFlows, IsFirstBadPlace, Word, file_body, is_line_byte, is_name, kind_named, named_fault, run_said, text_fault, value_judge, word_fault, words_fault, words_of}
pub use Rattle.sig_flow.proofs.FirstLemmas.{first_from_some}
pub use Rattle.sig_flow.proofs.FittingFlows.{read_fit}
pub use Rattle.sig_flow.proofs.FlowLemmas.{flows_and_fault, flows_or_fault, one_place}
pub use Rattle.sig_model.specs.Prelude.{LinkInfo}
pub use Rattle.sig_kernel.specs.OutputText.{output_text}
pub use Rattle.sig_outcome.specs.Outcomes.{not_found, refused, too_many_items}
pub use Rattle.sig_outcome.specs.Tasks.{IsEnded}
pub use Rattle.sig_outcome.proofs.Common.{Absent, AtData, AtFile, FindsData, Found, HasCount, Holds, IsDue, IsOwn, Long, Performs, Reaches, Stops, TookPrefix-whole, long_file, long_program, name_where_there, outcome_of, write_line}
pub use Rattle.sig_outcome.proofs.Refused.{about_data, later_count, later_own, of_more_data, refused_data, told_both}
pub use Rattle.sig_outcome.proofs.Stages.{at_file_ends, behind_data, one_at_data}
pub use Rattle.sig_outcome.proofs.TakenPieces.{flushed}
pub use Rattle.sig_program.specs.Programs.{AtPlan, FindsAccepted}
pub use Rattle.sig_program.proofs.Common.{AreRefused, Budget, Contents, Data, Good, HoldsBeyondBound, IfErr-weaker, IfSome_then, IsAboutPlan, IsAcceptedAs, IsAcceptedKernel, LongFile, LongImage, LongProgram, Missing, OneAtMost, Outcome, PROGRAM_BYTES, Program, ReadFault, Refusal, SaysLine, TooManyItems, behind_program, cases_lt, err_from_is_err_and, one_at_program, performs_outcome, performs_refusal, status_of, told}
pub use Rattle.sig_program.proofs.SomeVerdict.{HasVerdict, some_at_plan}
pub use Rattle.sig_program.proofs.Verdicts.{accepted_once, accepted_or_refused, refused_once}
pub use Rattle.sig_loaded.specs.Complete.{CanRun}
pub use Rattle.sig_loaded.specs.Ends.{IsOfKernel, end_line, end_status}
pub use Rattle.sig_loaded.specs.Runs.{AtFlows, AtLinks, FindsFlows, HasRun, HoldFew, HoldTooMany, IsAboutFlows, IsAboutRun, IsFlowLine, IsRunStatus, LacksMemory, RefusesFlows, RunComesTo, RunsTo, WritesRun, bad_flows, ended, running}
pub use Rattle.sig_loaded.specs.declared.load.Loaded.{Loaded}

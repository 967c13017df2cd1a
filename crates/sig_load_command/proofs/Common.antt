-- What the proofs of this crate cite of std, of the crates below and of its own specs, passed on from one place.
pub use Rattle.std.proofs.Common.{Bool, IsTrue, List, None, Option, [], ap, arith, false, flat_map, inl, inr, length, refl, rules, string_bytes, subst, sum, sym, ℕ, ℤ, ⊎_elim, ◌%◌, ◌<◌, ◌^◌, ◌∙◌, ◌≡◌, ◌≤◌, ◌⊎◌}
pub use Rattle.sig_base.specs.declared.limits.TheConstants.{FLOW_BYTES, INSTANTS_DEFAULT}
pub use Rattle.sig_load.specs.Flows.{flows}
pub use Rattle.sig_load.specs.Program.{program}
pub use Rattle.sig_load.specs.Tally.{Tallied, Tally}
pub use Rattle.sig_program.specs.Programs.{IsBeyondBound}
pub use Rattle.sig_program.proofs.Common.{IfOk-weaker, IsOfProgram, LacksNodes, OutOfMemory}
pub use Rattle.sig_program.proofs.Rooms.{plan_line}
pub use Rattle.sig_program.proofs.SomeVerdict.{HasVerdict}
pub use Rattle.sig_program.proofs.Verdicts.{program_apart, program_once}
pub use Rattle.sig_loaded.specs.declared.load.Loaded.{Loaded}
pub use Rattle.sig_text.specs.Counts.{Rose}
pub use Rattle.sig_text.specs.Sink.{TookPrefix}
pub use Rattle.sig_loaded.proofs.Common.{AreFlows, AreFlowsFor, AreRefused, AtLinks, Budget, Contents, Data, Ended, HasCount, HoldFew, HoldTooMany, IfErr-weaker, IsAccepted, IsAcceptedAs, IsAcceptedKernel, IsEnded, IsOfKernel, IsOwn, IsValid, Kernel, LacksMemory, LongFile, LongImage, LongProgram, Missing, OneAtMost, Outcome, PROGRAM_BYTES, Performs, PlanView, Program, ReadFault, Refusal, RefusesFlows, SaysLine, Settings, TooManyItems, TookPrefix-whole, Trace, accepted_once, cases_lt, end_line, end_status, err_from_is_err_and, flushed, inputs_of, kernel_end, long_file, long_program, one_kernel_end, outcome_of, output_text, performs_outcome, performs_refusal, read_fit, refused, some_kernel_end, status_of, told, too_many_items, write_line}
pub use Rattle.sig_run_command.proofs.Common.{IsWholeRun}
pub use Rattle.sig_loaded.proofs.Complete.{flows_either}
pub use Rattle.sig_loaded.proofs.FlowLines.{flow_line}
pub use Rattle.sig_loaded.proofs.OneRun.{flows_apart, no_flows_line, one_at_links, one_flows}
pub use Rattle.sig_loaded.proofs.Plans.{end_there, items_are}
pub use Rattle.sig_loaded.proofs.Statuses.{is_ended, no_six}
pub use Rattle.sig_load_command.specs.Complete.{CanLoad}
pub use Rattle.sig_load_command.specs.Loads.{AtFlowsText, AtProgramText, IsLoadStatus, IsShortFlows, IsShortProgram, LoadComesTo, LoadsTo, WritesLoad, counted, loading}
pub use Rattle.sig_load_command.specs.Refusals.{IsAboutLoad, IsOfFlowsText, IsOfProgramText, flows_name}
pub use Rattle.sig_load_command.specs.inner.Stopping.{StopsLoad}
pub use Rattle.sig_load_command.specs.inner.Summaries.{summary, summary_pieces}

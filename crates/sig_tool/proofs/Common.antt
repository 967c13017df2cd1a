-- What the proofs of this crate cite of std, of the crates below and of its own specs, passed on from one place.
pub use Rattle.std.proofs.Common.{Bool, Err, IfErr, IfOk, IfSome, List, MatchResult, None, Ok, Option, Result, Some, [], ap, arith, drop, false, inl, inr, length, length-take, length-take-le, map, not, refl, slice_index_or, subst, suc, sym, take, true, zero, ℕ, ℤ, ◌+◌, ◌++◌, ◌<◌, ◌↔◌, ◌∙◌, ◌∷◌, ◌≡◌, ◌≤◌, ◌⊎◌}
pub use Rattle.std.proofs.lemmas.List.{length-map, map-append, take-append-drop}
pub use Rattle.std.specs.List.{range_with_len}
pub use Rattle.std.proofs.lemmas.List.Elements.{filter-append}
pub use Rattle.sig_base.specs.Traces.{Bounded, Fits, Instant, is_silent, reduce}
pub use Rattle.sig_base.proofs.TraceLemmas.{fits_reduced, silent_at, prefix_fits, prefix_length, prefix_speaks, reduced}
pub use Rattle.sig_text.specs.Counts.{DidNotRise, raised}
pub use Rattle.sig_kernel.specs.KernelTraces.{IsTraceIn}
pub use Rattle.sig_kernel.specs.Validity.{inputs_of}
pub use Rattle.sig_flat.specs.Restricted.{restricted}
pub use Rattle.sig_front.specs.Kernels.{HasTracesOf, IsProgramTrace}
pub use Rattle.sig_pace.specs.Paced.{GetsPaces, IsPaced, paced_kernel}
pub use Rattle.sig_pace.specs.Restriction.{FitPaces, HasPaces, HasTracesOf as HasTracesWithoutPaces, without_paces}
pub use Rattle.sig_schedule_laws.proofs.Common.{HasEnd, IsEnabled, IsFinished, IsKernelTrace, IsLongest}
pub use Rattle.sig_words.specs.declared.answer.WordsAnswer.{WordsAnswer}
pub use Rattle.sig_words.specs.declared.answer.WordsAnswer.TheVariants.{OutOfMemory as NoMemory, Refused}
pub use Rattle.sig_words.specs.declared.command.Command.{Command}
pub use Rattle.sig_words.specs.declared.command.Command.TheVariants.{Build, Check, Code, Exec, Judge, Load, Play, Print, Run, Tree}
pub use Rattle.sig_words.proofs.Common.{IsCommand, Word, files_of, texts}
pub use Rattle.sig_outcome.specs.Tasks.{IsCut, IsDone, IsRefused, IsRefusedBy, MayAnswer, Task, memory_line}
pub use Rattle.sig_outcome.proofs.PerformedCalls.{not_refused}
pub use Rattle.sig_program.specs.Acceptance.{HasOwnKernel}
pub use Rattle.sig_compile_command.specs.Compiling.{CompileComesTo, IsDueOf}
pub use Rattle.sig_program.specs.Prelude.{IsAcceptedKernel}
pub use Rattle.sig_compile_command.specs.Printing.{PrintComesTo}
pub use Rattle.sig_compile_command.specs.declared.product.Product.{Product}
pub use Rattle.sig_program.proofs.Common.{IsCompileStatus, done}
pub use Rattle.sig_compile_command.proofs.Common.{IsCodeText, IsTreeText, IsVerdictText, canonical_text}
pub use Rattle.sig_compile_command.proofs.OneCompilation.{one_compile_outcome, one_print_outcome}
pub use Rattle.sig_judge_command.specs.Judging.{JudgeComesTo}
pub use Rattle.sig_judge_command.proofs.OneVerdict.{one_judge_outcome}
pub use Rattle.sig_loaded.specs.Runs.{RunComesTo}
pub use Rattle.sig_loaded.proofs.EndOfRun.{has_run}
pub use Rattle.sig_loaded.proofs.OneRun.{one_run_outcome}
pub use Rattle.sig_load_command.specs.Loads.{LoadComesTo}
pub use Rattle.sig_load_command.proofs.Common.{CanLoad, IsAboutLoad, IsLoadStatus, loading}
pub use Rattle.sig_load_command.proofs.OneLoad.{one_load_outcome}
pub use Rattle.sig_play_command.specs.Plays.{PlayComesTo}
pub use Rattle.sig_play_command.proofs.Common.{AreFlowsFor, Budget, Contents, Core, Data, Ended, Event, Given, HasCount, IsDue, IsOwn, IsPrefixOf, IsRunStatus, IsValid, Kernel, LongFile, LongImage, LongProgram, Missing, OutOfMemory, Outcome, Performs, Place, Program, ReadFault, Refusal, Rose, SaysLine, Settings, Stops, TooManyItems, TookPrefix, Trace, after, outcome_of, output_text, performs_refusal, reactions_text, run_of, status_of, text_is, told, told_both}
pub use Rattle.sig_play_command.proofs.EndOfPlay.{has_play}
pub use Rattle.sig_play_command.proofs.OnePlay.{one_play_outcome}
pub use Rattle.sig_image_command.specs.Builds.{BuildComesTo}
pub use Rattle.sig_image_command.specs.Execs.{ExecComesTo}
pub use Rattle.sig_image_command.specs.ImageFiles.{AreBytes}
pub use Rattle.sig_image_command.proofs.CommandEnds.{has_built, has_executed, has_long_image}
pub use Rattle.sig_image_command.proofs.Common.{IsBuildStatus, IsExecStatus, IsKernelEnd, Owes}
pub use Rattle.sig_image_command.proofs.OneBuild.{one_build_outcome}
pub use Rattle.sig_image_command.proofs.OneExec.{one_exec_outcome}
pub use Rattle.sig_tool.specs.Commands.{IsLimited}
pub use Rattle.sig_tool.specs.Complete.{CanBeDone, HasByteImage, HasGoodProgram}
pub use Rattle.sig_tool.specs.Headline.{AreItsPrefixes, ArePrefixesAtPaces, IsFitting, IsFittingAtPaces, KeepInterleavings, KeepsHeadline, KeepsHeadlineAtPaces, KeepsHeadlineWithFlag, KeepsToTheText, at_paces}
pub use Rattle.sig_tool.specs.TopCall.{AreNoCommand, ComesTo, HasBegun, IfLoad, IsAbout, IsStatus, IsStatusOf, NeedsBeyondBound, OfCommand, OfOutcome, task_of}

-- What the definitions and the clauses of this crate cite of std and of the crates below, passed on from one place.
pub use Rattle.std.specs.List.{AllByRecursion}
pub use Rattle.std.specs.Prelude.{Bool, IfErr, IfOk, IfSome, IsTrue, IsUtf8, List, None, Option, [], false, length, map, take, ℕ, ℤ, ⊤, ◌++◌, ◌↔◌, ◌≡◌, ◌≤◌, ◌⊎◌}
pub use Rattle.sig_base.specs.Traces.{Fits, IsPrefixOf, reduce}
pub use Rattle.sig_text.specs.Counts.{DidNotRise}
pub use Rattle.sig_model.specs.Cores.{IsEnabled, IsFinished, cause_of}
pub use Rattle.sig_model.specs.Prelude.{IsKernelTrace, Place}
pub use Rattle.sig_flat.specs.Restricted.{restricted}
pub use Rattle.sig_front.specs.Kernels.{HasTracesOf, IsProgramTrace}
pub use Rattle.sig_pace.specs.Paced.{GetsPaces}
pub use Rattle.sig_pace.specs.Restriction.{without_paces}
pub use Rattle.sig_words.specs.Commands.{IsCommand, files_of, settings_of}
pub use Rattle.sig_words.specs.Readings.{Word, texts}
pub use Rattle.sig_words.specs.declared.command.Command.{Command}
pub use Rattle.sig_words.specs.declared.command.Command.TheVariants.{Build, Check, Code, Exec, Judge, Load, Play, Print, Run, Tree}
pub use Rattle.sig_load.specs.Program.{program}
pub use Rattle.sig_outcome.specs.Tasks.{IsCut, IsDone, IsDue, IsRefused, IsRefusedBy, MayAnswer, image_line, items_line, words_line, write_line}
pub use Rattle.sig_program.specs.Acceptance.{HasOwnKernel, IsAcceptedProgram}
pub use Rattle.sig_program.specs.Programs.{IsBeyondBound, IsCompileStatus}
pub use Rattle.sig_compile_command.specs.Compiling.{CompileComesTo, IsVerdictText}
pub use Rattle.sig_compile_command.specs.Complete.{CanCompile, CanPrint}
pub use Rattle.sig_compile_command.specs.Prelude.{IsCodeText, IsTreeText}
pub use Rattle.sig_compile_command.specs.Printing.{IsAboutText, IsPrintStatus, PrintComesTo}
pub use Rattle.sig_judge_command.specs.Judging.{HasBegunJudge, IsAboutJudge, IsJudgeStatus, JudgeComesTo}
pub use Rattle.sig_loaded.specs.Complete.{CanRun}
pub use Rattle.sig_loaded.specs.Prelude.{AreFlowsFor, Contents, Ended, HoldsBeyondBound, IsAboutPlan, IsEnded, IsKernelEnd, Kernel, Outcome, Performs, Refusal, Rose, SaysLine, Settings, Task, TookPrefix, Trace, WORKERS_MAX, memory_line, name_where_there, output_text}
pub use Rattle.sig_loaded.specs.Runs.{AreWithinBounds, HasBegunRun, HasRun, IsAboutRun, IsRunStatus, RunComesTo, running}
pub use Rattle.sig_load_command.specs.Complete.{CanLoad}
pub use Rattle.sig_load_command.specs.Loads.{IsLoadStatus, IsShortProgram, LoadComesTo, loading}
pub use Rattle.sig_load_command.specs.Refusals.{IsAboutLoad}
pub use Rattle.sig_play_command.specs.Complete.{CanPlay}
pub use Rattle.sig_play_command.specs.Prelude.{Core, Event, Given, IsPlanOf, PlanView, after, reactions_text, run_of}
pub use Rattle.sig_play_command.specs.Plays.{HasBegunPlay, HasPlay, IsAboutPlay, PlayComesTo}
pub use Rattle.sig_image_command.specs.Builds.{BuildComesTo, HasBuilt, HasLongImage, IsAboutBuild, IsBuildStatus, building}
pub use Rattle.sig_image_command.specs.Complete.{CanBuild, CanExec}
pub use Rattle.sig_image_command.specs.Execs.{ExecComesTo, HasBegunExec, HasExecuted, IsAboutExec, IsExecStatus, executing}
pub use Rattle.sig_image_command.specs.ImageFiles.{AreBytes, HoldsBeyondVerifying, HoldsSoundImage}

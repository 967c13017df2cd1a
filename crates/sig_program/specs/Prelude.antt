-- What the definitions and the clauses of this crate cite of std and of the crates below, passed on from one place.
pub use Rattle.std.specs.Prelude.{Bool, IfErr, IfOk, IfSome, List, Option, Some, [], codes, false, length, slice_get, true, ℕ, ◌++◌, ◌<◌, ◌≡◌, ◌≤◌, ◌⊎◌}
pub use Rattle.sig_text.specs.Files.{Contents, name_where_there}
pub use Rattle.sig_pace.specs.Paced.{IsPaced}
pub use Rattle.sig_pace.specs.Refusals.{HasTooManySignals, IsNameTaken}
pub use Rattle.sig_back.specs.Budgets.{MeetsBound, MeetsUnknownBound}
pub use Rattle.sig_back.specs.Faults.{FaultView, IsFaultOf}
pub use Rattle.sig_back.specs.Prelude.{IsAcceptedKernel, IsValid, Kernel, NODES, Signal, refusal_at}
pub use Rattle.sig_back.specs.Shown.{fault_line, shown}
pub use Rattle.sig_front.specs.Kernels.{IsKernelText, IsNoKernelText}
pub use Rattle.sig_front.specs.Prelude.{AllByRecursion, IsSignalName, IsText, PROGRAM_BYTES, ProcessModel, SIGNALS, program_of}
pub use Rattle.sig_front.specs.Shown.{front_line}
pub use Rattle.sig_front.specs.Texts.{IsNoText}
pub use Rattle.sig_front.specs.declared.answer.FrontAnswer.{FrontAnswer}
pub use Rattle.sig_front.specs.declared.answer.FrontAnswer.TheVariants.{TooManySignals}
pub use Rattle.sig_outcome.specs.Outcomes.{AtProgram, FindsProgram, Found, Good, Holds, Outcome, WritesDue, done, long_program}
pub use Rattle.sig_outcome.specs.Reading.{Reads}
pub use Rattle.sig_outcome.specs.Refusals.{HasCount, IsAboutProgram, IsOfProgram, IsOwn, outcome_of, status_of}
pub use Rattle.sig_outcome.specs.Tasks.{Performs, Reaches, SaysLine, Stops, Task}
pub use Rattle.sig_outcome.specs.declared.refusal.Refusal.{Refusal}

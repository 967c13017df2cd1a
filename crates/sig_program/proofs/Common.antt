-- What the proofs of this crate cite of std, of the crates below and of its own specs, passed on from one place.
pub use Rattle.std.proofs.Common.{Bool, List, None, Option, Some, [], ap, append-nil, arith, codes, encode_utf8, false, get_or, inl, inr, length, refl, slice_get, subst, sym, take, take_all, true, ℕ, ◌++◌, ◌+◌, ◌<◌, ◌^◌, ◌∙◌, ◌∷◌, ◌≡◌, ◌≤◌, ◌⊎◌}
pub use Rattle.std.proofs.lemmas.Option.{IfSome_then}
pub use Rattle.std.proofs.lemmas.Result.{IfErr-weaker}
pub use Rattle.sig_base.specs.declared.limits.TheConstants.{PROGRAM_BYTES}
pub use Rattle.sig_dd.specs.Nodes.{IsFull}
pub use Rattle.sig_deciding_laws.proofs.ActorCodes.{dec_implied}
pub use Rattle.sig_deciding_laws.proofs.Common.{AreClocks, HasClocks, Implies, IsAcceptedKernel, IsLastBelow, IsPlanOf, IsRefusedFor, IsValid, Kernel, KernelFault, Node, PlanView, Ref, Signal, StoreView, cases_lt, value_there}
pub use Rattle.sig_deciding_laws.proofs.KernelRuns.{some_plan}
pub use Rattle.sig_deciding_laws.proofs.Searchable.{last_as, last_below}
pub use Rattle.sig_deciding_laws.proofs.Tables.{table, table_at, table_length}
pub use Rattle.sig_pace.specs.Paced.{GetsPaces, IsPaced}
pub use Rattle.sig_pace.specs.Refusals.{HasNoPaceRoom, HasTooManySignals, IsNameTaken, IsPaceRefusal}
pub use Rattle.sig_pace.specs.declared.answer.PaceAnswer.{PaceAnswer}
pub use Rattle.sig_pace.specs.declared.answer.PaceAnswer.TheVariants.{Budget as NoNodes, TooManySignals as TooManyPaced}
pub use Rattle.sig_pace.proofs.OneWayOrRefused.{many_or_paced, one_pacing, one_taken, taken_or_many, taken_or_paced}
pub use Rattle.sig_back.specs.Budgets.{MeetsUnknownBound}
pub use Rattle.sig_back.specs.Faults.{IsFaultOf}
pub use Rattle.sig_back.specs.Shown.{fault_line}
pub use Rattle.sig_back.proofs.Common.{HasWritten, IsPlainFormatter, IsUnknownCount, Keeps, NODES, flat_map-append, has_written_append, has_written_of_eq, share_of, shown, take_more, told_as, writes_in_calls_nil}
pub use Rattle.sig_front.specs.Kernels.{IsNoKernelText}
pub use Rattle.sig_front.specs.Shown.{front_line}
pub use Rattle.sig_front.specs.Texts.{IsNoText}
pub use Rattle.sig_front.specs.declared.answer.FrontAnswer.{FrontAnswer}
pub use Rattle.sig_front.specs.declared.answer.FrontAnswer.TheVariants.{TooManySignals}
pub use Rattle.sig_front.proofs.Common.{IfOk-weaker, IsKernelText, IsText, ProcessModel, SIGNALS, err_from_is_err_and}
pub use Rattle.sig_front.proofs.OneKernel.{kernel_once, kernel_or_refusal, no_kernel_once}
pub use Rattle.sig_front.proofs.OneText.{refusal_once, tree_once, tree_or_refusal}
pub use Rattle.sig_outcome.specs.Outcomes.{Holds, WritesDue, long_program}
pub use Rattle.sig_outcome.specs.Tasks.{SaysLine}
pub use Rattle.sig_outcome.specs.declared.refusal.Refusal.{Refusal}
pub use Rattle.sig_outcome.specs.declared.refusal.Refusal.TheVariants.{Budget, Data, LongFile, LongImage, LongProgram, Missing, OutOfMemory, Program, ReadFault, TooManyItems}
pub use Rattle.sig_outcome.proofs.Common.{Contents, Good, IsOfProgram, OneAtMost, Outcome, done, status_of}
pub use Rattle.sig_outcome.proofs.OneFile.{reaches_text, stops_bytes, stops_unread}
pub use Rattle.sig_outcome.proofs.PerformedCalls.{performs_outcome, performs_refusal}
pub use Rattle.sig_outcome.proofs.Refused.{about_bytes, budget_of, no_eight, of_more, refused_program, told}
pub use Rattle.sig_outcome.proofs.Stages.{behind_program, one_at_program}
pub use Rattle.sig_program.specs.Acceptance.{AreRefused, Becomes, HasKernel, HasOwnKernel, HasSignalNames, IsAcceptedAs, IsAcceptedProgram, IsRefusedKernel, IsRefusedPace, IsRefusedProgram, IsRefusedText, IsUnpaced, SaysNameTaken, SaysTooManySignals, taken_line}
pub use Rattle.sig_program.specs.Programs.{AtPlan, HoldsBeyondBound, IsAboutPlan, IsBudget, IsCompileStatus, IsPlanLine, LacksNodes}

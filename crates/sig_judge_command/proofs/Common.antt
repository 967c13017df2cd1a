-- What the proofs of this crate cite of std, of the crates below and of its own specs, passed on from one place.
pub use Rattle.std.proofs.Common.{IfSome, List, Option, Some, ap, append_assoc, arith, bytes_eq, inl, inr, length, map, refl, string_bytes, subst, sym, ℕ, ⊎_elim, ◌↔◌, ◌∙◌, ◌≡◌, ◌≢◌, ◌≤◌, ◌⊎◌}
pub use Rattle.std.proofs.lemmas.Option.{IfSome_then}
pub use Rattle.std.proofs.lemmas.Result.{IfErr-weaker}
pub use Rattle.sig_judge.specs.declared.trace_answer.TraceAnswer.{TraceAnswer}
pub use Rattle.sig_judge.specs.declared.trace_answer.TraceAnswer.TheVariants.{OutOfMemory}
pub use Rattle.sig_judge.specs.declared.verdict.Verdict.{Verdict}
pub use Rattle.sig_judge.specs.declared.verdict.Verdict.TheVariants.{Accepted, Broken}
pub use Rattle.sig_judge.proofs.Common.{FlatBody, IsBroken, IsDistinct, IsFirstBadPlace, IsProcessTrace, IsTraceFile, IsTraceOf, IsVerdict, Signal, Trace, err_from_is_err_and, flat_body_of}
pub use Rattle.sig_judge.proofs.ReadLemmas.{kinds_of_file, not_both, one_fault, one_trace}
pub use Rattle.sig_judge.proofs.VerdictLemmas.{one_verdict_of}
pub use Rattle.sig_front.specs.Flats.{IsFlatText, IsNoFlatText}
pub use Rattle.sig_front.specs.Shown.{front_line}
pub use Rattle.sig_front.specs.declared.answer.FrontAnswer.{FrontAnswer}
pub use Rattle.sig_front.proofs.OneFlat.{flat_once, flat_or_refusal, no_flat_once}
pub use Rattle.sig_outcome.specs.Tasks.{SaysLine}
pub use Rattle.sig_outcome.specs.declared.refusal.Refusal.{Refusal}
pub use Rattle.sig_outcome.specs.declared.refusal.Refusal.TheVariants.{Budget, Data, LongFile, LongImage, LongProgram, Missing, Program, ReadFault, TooManyItems}
pub use Rattle.sig_outcome.proofs.Common.{Contents, Good, HasCount, IsDone, IsOfData, IsOwn, OneAtMost, Outcome, Reaches, Stops, long_file, long_program, name_where_there, outcome_of, status_of}
pub use Rattle.sig_outcome.proofs.FoundFiles.{some_at_data, some_at_program}
pub use Rattle.sig_outcome.proofs.PerformedCalls.{performs_outcome, performs_refusal}
pub use Rattle.sig_outcome.proofs.Refused.{later_count, later_own, of_more_data, refused_data, refused_program, told_both}
pub use Rattle.sig_outcome.proofs.Stages.{at_file_ends, one_at_data, one_at_program}
pub use Rattle.sig_judge_command.specs.Judging.{AtFlat, AtTrace, FindsFlat, FindsTrace, IsAboutFlat, IsAboutJudge, IsAboutTrace, IsJudgeStatus, JudgeComesTo, JudgesTo, RefusesFlat, RefusesTrace, bad_trace, judged, judging, verdict_status}

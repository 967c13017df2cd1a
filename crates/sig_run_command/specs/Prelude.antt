-- What the definitions and the clauses of this crate cite of std and of the crates below, passed on from one place.
pub use Rattle.std.specs.Prelude.{Bool, Err, IfErr, IfOk, IfSome, IsErrOf, IsTrue, List, OnOk, Option, Some, [], bytes_eq, codes, decimal, false, flat_map, length, map, slice_index_or, true, ℕ, ℤ, ⊤, ◌*◌, ◌++◌, ◌<◌, ◌∷◌, ◌≡◌, ◌≢◌, ◌≤◌, ◌⊎◌}
pub use Rattle.sig_base.specs.declared.limits.TheConstants.{CAPACITY_MAX, FLOW_BYTES, INSTANTS_MAX, ITEMS, WORKERS_MAX}
pub use Rattle.sig_model.specs.Prelude.{Cause, Ended, EqId, Exhausted, IsKernelTrace, IsLongest, Kernel, Limit, LinkInfo, Overflow, Place, SigId, Signal, Trace, ZeroDivisor, inputs_of}
pub use Rattle.sig_deciding_laws.specs.KernelRuns.{AreKernelLinks, IsKernelEnd}
pub use Rattle.sig_words.specs.declared.command.Settings.{Settings}
pub use Rattle.sig_flow.specs.Flows.{AreFlows, IsFirstBadPlace}
pub use Rattle.sig_flow.specs.Shown.{flow_text}
pub use Rattle.sig_flow.specs.declared.answer.FlowAnswer.{FlowAnswer}
pub use Rattle.sig_flow.specs.declared.answer.FlowAnswer.TheVariants.{OutOfMemory}
pub use Rattle.sig_front.specs.Prelude.{IsDistinct, refusal}
pub use Rattle.sig_alone.specs.declared.answer.RunAnswer.{RunAnswer}
pub use Rattle.sig_work.specs.Prelude.{AreFlowsFor, IsWholeRun, Rose, TookPrefix, TookSome, output_text}
pub use Rattle.sig_outcome.specs.Outcomes.{AtData, FindsData, refused, too_many_items}
pub use Rattle.sig_outcome.specs.Refusals.{IsAboutData, IsAboutLinks, IsOfData}
pub use Rattle.sig_outcome.specs.Tasks.{IsEnded, Writes, memory_line}
pub use Rattle.sig_program.specs.Acceptance.{IsAcceptedAs}
pub use Rattle.sig_program.specs.Programs.{AtPlan, FindsAccepted, HoldsBeyondBound, IsAboutPlan}
pub use Rattle.sig_program.specs.Prelude.{Contents, Found, Good, HasCount, Holds, IsOwn, Outcome, PROGRAM_BYTES, Performs, Reads, Refusal, SaysLine, Stops, Task, name_where_there, outcome_of}

-- What the definitions and the clauses of this crate cite of std and of the crates below, passed on from one place.
pub use Rattle.std.specs.Prelude.{Bool, IfErr, IfOk, IfSome, IsTrue, List, None, OnErr, OnOk, Option, Some, [], codes, decimal, false, flat_map, fold, length, map, slice_get, true, ℕ, ℤ, ◌++◌, ◌+◌, ◌-◌, ◌∷◌, ◌≡◌, ◌≢◌, ◌≤◌, ◌⊎◌}
pub use Rattle.sig_schedule_laws.specs.Prelude.{Actor, Core, Event, Given, IsAccepted, IsEnd, PlanView, after, opening, reactions_text, stepped}
pub use Rattle.sig_deciding_laws.specs.KernelRuns.{IsPlanOf}
pub use Rattle.sig_flow.specs.Events.{AreEvents, IsFirstBadEvent}
pub use Rattle.sig_flow.specs.Shown.{event_text}
pub use Rattle.sig_flow.specs.declared.answer.EventAnswer.{EventAnswer}
pub use Rattle.sig_flow.specs.declared.answer.EventAnswer.TheVariants.{OutOfMemory}
pub use Rattle.sig_flow.specs.declared.event.FileEvent.{FileEvent}
pub use Rattle.sig_flow.specs.declared.event.FileEvent.TheVariants.{Act, Look}
pub use Rattle.sig_interleaving.specs.Cores.{IsCore, IsSameRun, Shows, TookMore, given_of}
pub use Rattle.sig_interleaving.specs.Finishing.{IsEndOf, TookRest}
pub use Rattle.sig_interleaving.specs.Schedules.{run_of}
pub use Rattle.sig_alone.specs.Ready.{IsReady}
pub use Rattle.sig_loaded.specs.Complete.{CanRun}
pub use Rattle.sig_loaded.specs.Ends.{end_line, end_status}
pub use Rattle.sig_loaded.specs.Prelude.{AreFlows, AreFlowsFor, AtData, AtPlan, Contents, Ended, FLOW_BYTES, FindsAccepted, FindsData, Found, Good, HasCount, Holds, HoldsBeyondBound, ITEMS, IsAboutData, IsAcceptedAs, IsEnded, IsKernelEnd, IsOfData, IsOwn, Kernel, Outcome, PROGRAM_BYTES, Performs, Place, Reads, Refusal, Rose, SaysLine, Settings, Stops, Task, TookPrefix, Trace, Writes, inputs_of, name_where_there, outcome_of, output_text, refusal}
pub use Rattle.sig_loaded.specs.Runs.{AtFlows, AtLinks, FindsFlows, HasBegunRun, HoldFew, IsAboutRun, IsRunStatus, LacksMemory}

-- What the definitions and the clauses of this crate cite of std and of the crates below, passed on from one place.
pub use Rattle.std.specs.Prelude.{Bool, IfOk, IsTrue, List, None, OnErr, OnOk, Option, Some, [], false, fold, length, map, min, slice_get, slice_index_or, slice_set, suc, true, zero, ℕ, ℤ, ⊤, ◌*◌, ◌++◌, ◌+◌, ◌-◌, ◌<◌, ◌^◌, ◌↔◌, ◌∷◌, ◌≡◌, ◌≢◌, ◌≤◌}
pub use Rattle.std.specs.VecDeque.{deque_capacity}
pub use Rattle.std.specs.declared.collections.VecDeque.{VecDeque}
pub use Rattle.sig_base.specs.Places.{no_place}
pub use Rattle.sig_model.specs.Cores.{cause_of_op}
pub use Rattle.sig_model.specs.Prelude.{LinkInfo, range_with_len}
pub use Rattle.sig_model.specs.declared.event.Event.TheVariants.{Act, Look}
pub use Rattle.sig_flow.specs.OutputLines.{longest_lines}
pub use Rattle.sig_schedule_laws.specs.Changes.{AllChange, steps_in}
pub use Rattle.sig_schedule_laws.specs.Endings.{HasEnd, IsNotBefore}
pub use Rattle.sig_schedule_laws.specs.Prelude.{Actor, AreFlowsFor, Core, Do, Ended, Event, Given, IsAccepted, IsEnabled, IsEnd, IsFinished, IsOnReference, IsPrefixOf, IsReference, OpId, Place, PlanView, Step, Trace, after, cause_of, code_of, opening, output_text, reactions_text, stepped}
pub use Rattle.sig_step.specs.Acting.{TakesTurn}
pub use Rattle.sig_step.specs.LinkEnds.{AllStay, LinkQueue, OthersStay, Past, Queues}
pub use Rattle.sig_step.specs.Moving.{IsSameActor}
pub use Rattle.sig_step.specs.Prelude.{Cause, Collect, Kernel, Reaction, Receive, Report, Rose, Send, StepKind, TookPrefix, opening_actor, outputs_of, packed, turn}
pub use Rattle.sig_step.specs.States.{IsStateOf, actor_of, last_reaction, limit_of, number_of}
pub use Rattle.sig_step.specs.declared.answer.Acted.{Acted}
pub use Rattle.sig_step.specs.declared.answer.Acted.TheVariants.{AtLimit, Commit, Done, Empty, Failed, Full, Stopped}
pub use Rattle.sig_step.specs.declared.state.ClusterState.{ClusterState}

-- What the definitions and the clauses of this crate cite of std and of the crates below, passed on from one place.
pub use Rattle.std.specs.List.{range_with_len}
pub use Rattle.std.specs.Prelude.{Bool, Err, IfErr, IfNone, IfOk, IfSome, List, None, Ok, OnErr, OnOk, Option, Some, [], false, filter, if◌then◌else◌, length, min, slice_get, slice_index_or, sum_by, true, vec_capacity, ℕ, ℤ, ◌%◌, ◌*◌, ◌++◌, ◌+◌, ◌-◌, ◌<◌, ◌==◌, ◌^◌, ◌||◌, ◌∷◌, ◌≡◌, ◌≢◌, ◌≤◌, ◌⊎◌}
pub use Rattle.sig_base.specs.Places.{no_place, packed}
pub use Rattle.sig_model.specs.Cores.{cause_of, cause_of_op, reactions_text}
pub use Rattle.sig_model.specs.Prelude.{outputs_of, seen_lines}
pub use Rattle.sig_model.specs.Progress.{reactions_of}
pub use Rattle.sig_doing_laws.specs.Prelude.{Actor, AreFlowsFor, Cause, Ended, IsAccepted, IsEnd, IsPrefixOf, Kernel, Op, PlanView, Trace, opening_actor, output_text}
pub use Rattle.sig_settling_laws.specs.OwnSteps.{IsOwn, Items, LeadBy, Own, opening_own}
pub use Rattle.sig_settling_laws.specs.Prelude.{AllChange, Core, Given, IsFinished, LinkInfo, Place, Reaction, after, opening}
pub use Rattle.sig_settling_laws.specs.Settled.{AreInOrder, IsLeastFailure, acts_then_looks, times_among}
pub use Rattle.sig_chunk.specs.Ends.{FoundEmpty, FoundFull, IsSettled, OfOneLink, put_capacity, put_link, sent, take_link, taken}
pub use Rattle.sig_chunk.specs.declared.inlet.Inlet.{Inlet}
pub use Rattle.sig_chunk.specs.declared.outlet.Outlet.{Outlet}
pub use Rattle.sig_halt.specs.Seats.{IsSameSeat, IsSeatOf, halt_parts, parts, recorded, seen}
pub use Rattle.sig_halt.specs.declared.halt.Halt.{Halt}
pub use Rattle.sig_halt.specs.declared.halt_seat.HaltSeat.{HaltSeat}
pub use Rattle.sig_step.specs.LinkEnds.{Past}
pub use Rattle.sig_step.specs.States.{IsStateOf, actor_of, last_reaction, place_of}
pub use Rattle.sig_step.specs.declared.answer.Acted.{Acted}
pub use Rattle.sig_step.specs.declared.answer.Acted.TheVariants.{AtLimit, Commit, Done, Empty, Failed, Full, Stopped}
pub use Rattle.sig_alone.specs.Prelude.{Rose, TookPrefix}
pub use Rattle.sig_alone.specs.Runs.{IsWholeRun, TookSome}

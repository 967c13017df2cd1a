-- What the proofs of this crate cite of std, of the crates below and of its own specs, passed on from one place.
pub use Rattle.std.proofs.Common.{Bool, Contains, Err, IfNone, IfSome, IsTrue, List, None, Ok, OnErr, OnOk, Option, Result, Some, [], ap, append-nil, append_assoc, arith, cond, drop, eq-eqb, eqb-true, false, filter, get_or, if◌then◌else◌, inl, inr, length, length-append, length-set, length-take, lt-ltb, ltb-false, ltb-true, min, mod-eq_of_lt, mul_comm, nat_lt, refl, rules, set, slice_get, slice_index_or, subst, suc, sum_by, sym, take, true, vec_capacity, vec_len, w64, zero, ℕ, ℤ, ◌%◌, ◌&&◌, ◌*◌, ◌++◌, ◌+◌, ◌-◌, ◌/◌, ◌<◌, ◌==◌, ◌^◌, ◌||◌, ◌↔◌, ◌∙◌, ◌∷◌, ◌≡◌, ◌≢◌, ◌≤◌, ◌⊎◌}
pub use Rattle.std.proofs.Math.Nat.{min_comm}
pub use Rattle.std.proofs.lemmas.List.Sums.{sum_by-append, sum_by_push}
pub use Rattle.std.proofs.lemmas.Result.{on_err_weaker, on_ok_weaker}
pub use Rattle.std.specs.Vec.{with_item}
pub use Rattle.sig_lists.proofs.Filtered.{in_filter}
pub use Rattle.sig_lists.proofs.Fronts.{written}
pub use Rattle.sig_base.specs.Places.{no_place, packed}
pub use Rattle.sig_base.specs.declared.ids.Full.{Full}
pub use Rattle.sig_text.specs.Counts.{Rose}
pub use Rattle.sig_text.specs.declared.sink.WriteFault.{WriteFault}
pub use Rattle.sig_schedule_laws.proofs.Coded.{actor_coded}
pub use Rattle.sig_schedule_laws.proofs.Common.{Actor, AreFlowsFor, Cause, CodeView, Collect, Commit, Commits, Core, Do, Event, Fails, Faults, Given, Gives, Goes, Instant, IsAccepted, IsEnd, IsFinished, IsKernelTrace, IsLongest, IsOnReference, IsPrefixOf, IsReference, Kernel, Limit, LinkInfo, NamesWithin, Op, Operation, Outcome, Place, PlanView, Puts, Reaction, Receive, Report, Send, Step, StepKind, Stopped, Takes, Trace, Turn, after, and_from, and_parts, at_most_or, carried, cases_eq, cases_order, cause_at, cause_of, cause_of_op, code_of, contains_at, contains_cons, contains_head, contains_later, contains_none, ended_at, ends_within, fitting, flat_map-append, guard_holds, instructions_of, is_before, moved_on, next_place, no_registers, numbers_of, one_reader, one_writer, opening_actor, operated, operations_in, or_cases, or_left, or_right, outcome, output_text, outputs_of, plan_operations, position_of, range_with_len, reaction_in, reactions_of, reactions_text, received, seen_at, seen_lines, set_here, slice_get-get_or, slice_get_within, some_at, some_reference, step_names, turn, turn_at, turn_by, turn_of_op, turn_with, word_before}
pub use Rattle.sig_schedule_laws.proofs.Finished.{after_begins, after_has_end}
pub use Rattle.sig_schedule_laws.proofs.Interleavings.{after_on}
pub use Rattle.sig_schedule_laws.proofs.Texts.{text_is}
pub use Rattle.sig_settling_laws.specs.OwnSteps.{IsOwn}
pub use Rattle.sig_settling_laws.proofs.Common.{ActInOrder, AreBalanced, AreSettled, DoesStep, HasActed, HasEndedBy, HasTurned, IsLeastFailure, IsOwnStep, LeadBy, LookBehind, Own, acts, acts_then_looks, collector_of, commits_alone, opening_own, step_does, sum_by-cons, times_among}
pub use Rattle.sig_chunk.specs.Ends.{FoundEmpty, FoundFull, IsSettled, OfOneLink, put_capacity, put_link, sent, take_link, taken}
pub use Rattle.sig_chunk.specs.declared.inlet.Inlet.{Inlet}
pub use Rattle.sig_chunk.specs.declared.outlet.Outlet.{Outlet}
pub use Rattle.sig_halt.specs.Seats.{IsSameSeat, IsSeatOf, halt_parts, parts, recorded, seen}
pub use Rattle.sig_halt.specs.declared.halt.Halt.{Halt}
pub use Rattle.sig_halt.specs.declared.halt_seat.HaltSeat.{HaltSeat}
pub use Rattle.sig_alone.proofs.Common.{IsWholeRun, Joins, TookPrefix-longer, TookPrefix-then, TookSome}
pub use Rattle.sig_step.specs.Acting.{MayDo, MayUse}
pub use Rattle.sig_step.specs.LinkEnds.{AllStay, LinkPast, OthersStay, asked_to_pop, asked_to_push}
pub use Rattle.sig_step.specs.States.{last_reaction}
pub use Rattle.sig_step.specs.declared.answer.Acted.{Acted}
pub use Rattle.sig_step.specs.declared.answer.Acted.TheVariants.{Done, Empty}
pub use Rattle.sig_step.specs.declared.state.ClusterState.{ClusterState}
pub use Rattle.sig_step.proofs.Common.{Acts, ActsOn, Asked, DoesSteps, IsSameActor, IsStateOf, Past, PastGoesOn, Queues, TookPrefix, actor_of, err_from_is_err_and, get_set_other, instant_of, length-map, place_of, same_Some, slice_get_read, to_z-of_z}
pub use Rattle.sig_work.specs.Ends.{AreSameEnds, AreSameEnds-itself, HasEnds, HasFoundEmpty, HasFoundFull, HasNoEnds, HasPutAt, HaveHandedOver, ends_in, has_end, past_of, puts_of, sent_by, sent_of, taken_by, taken_of, takes_of}
pub use Rattle.sig_work.specs.Gathered.{AreAll, AreDealt, AreDone, AreLinked, AreTogether, BeginsTheRun, HoldFinished, IsEndOfRun, IsFresh, IsShareOf}
pub use Rattle.sig_work.specs.Members.{EndsWith, HasActedAs, HasDone, IsBehindSeen, IsMember, IsSameMember, before_stop, commits_of, failure_in, is_collector, own_of, run_of, word_of}
pub use Rattle.sig_work.specs.Running.{AreBegun, AreBegunInSome, AreKept, IsOfClusters, IsOfSomeClusters, IsOneOf, IsServedAs, IsUnfaulted, WereHalted, WereRun}
pub use Rattle.sig_work.specs.Shares.{AllEnded, AreOfRun, AreOfSomeRun, AreSameShares, AreServing, HasCollector, HasOneCollector, HasSeat, HaveCollector, HaveDone, HaveEnded, HaveOneCollector, IsSameShare, IsServing, NoneFaulted, WereServed, WereStopped, least_failed}
pub use Rattle.sig_work.specs.declared.ends.LinkEnds.{LinkEnds}
pub use Rattle.sig_work.specs.declared.finding.Spot.{Spot}
pub use Rattle.sig_work.specs.declared.member.Ending.{Ending}
pub use Rattle.sig_work.specs.declared.member.Ending.TheVariants.{AtLimit, Failed, Faulted, Looked}
pub use Rattle.sig_work.specs.declared.member.Member.{Member}
pub use Rattle.sig_work.specs.declared.round.Round.{Round}
pub use Rattle.sig_work.specs.declared.round.Round.TheVariants.{Ended, Moved, Still}
pub use Rattle.sig_work.specs.declared.share.Share.{Share}
pub use Rattle.sig_work.specs.inner.Among.{AreSingle, HasNone, HasNoneIn, Is, IsAmong, StandsAt, times, times_in}
pub use Rattle.sig_work.specs.inner.Dealing.{AreHandedFrom, AreJoined, AreNumbered, AreOpened, AreSeated, HasGiven, HasGivenPut, HasGivenTake, HaveRoom, HaveSameSeats, IsJoinedLink, IsOpened, IsSameBare, share_for}
pub use Rattle.sig_work.specs.inner.Rounds.{ArePastZero, ChangedBelow, GoesOn, HasEndedAt, HasStopped, HaveEndedAt, IsOfRun, IsPastZero, IsServed, IsServedInSome, IsShareOfSome, KeepsMember, KeepsSeat, KeepsShare, KeepsShares, ServesMember, ServesShare, ServesShares, ShareStopped, SharesStopped}
pub use Rattle.sig_work.specs.inner.Settling.{AreLeft, AreLeftEnds, AreSettledBelow, But, Each, From, HasNoPut, HasNoTake, HaveRoomFor, IsLeftMember, IsLeftShare, IsLinked, IsPutOf, IsSettledLink, IsTakeOf}
pub use Rattle.sig_work.specs.inner.Words.{AreSeatsOf, HasActors, IsClosed, IsIn, IsInFirst, IsJoined, IsLeastOf, IsLeastWord, IsOfFirst, IsWord, NamesCause}

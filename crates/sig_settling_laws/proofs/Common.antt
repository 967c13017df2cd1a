-- What the proofs of this crate cite of std, of the crates below and of its own specs, passed on from one place.
pub use Rattle.std.proofs.Common.{Bool, List, None, Option, Some, [], ap, append-nil, append_assoc, arith, cond, eq-eqb, ext_get_or, false, fold, get_or, get_or-set_other, get_or-set_same, inl, inr, length, length-append, length-set, lt-ltb, ltb-false, nat_lt, ne_eqb, not, pos, refl, replicate, set, slice_get, subst, suc, sym, true, zero, ℕ, ℤ, ◌*◌, ◌++◌, ◌+◌, ◌-◌, ◌<◌, ◌==◌, ◌∙◌, ◌∷◌, ◌≡◌, ◌≤◌, ◌⊎◌}
pub use Rattle.std.proofs.lemmas.Bool.{cases_Bool}
pub use Rattle.std.proofs.lemmas.List.Sums.{fold-append, sum_by-cons}
pub use Rattle.sig_lists.proofs.SetItems.{get_set_other}
pub use Rattle.sig_schedule_laws.proofs.Amid.{guard_known}
pub use Rattle.sig_schedule_laws.proofs.CollectorCommits.{commits_alone}
pub use Rattle.sig_schedule_laws.proofs.Common.{Act, Actor, AllChange, AreFlowsFor, AtLimit, CodeView, Collect, Commit, Commits, Core, Do, Event, Fails, Faults, Given, Gives, Goes, Instant, Instruction, IsAccepted, IsActorOn, IsEnabled, IsFinished, IsFor, IsOnReference, IsPrefixOf, IsReference, LinkInfo, Look, NamesWithin, Op, Operation, Outcome, Place, PlanView, Puts, Reaction, Receive, Report, Send, StandsAt, Step, StepKind, Stopped, Takes, Trace, Turn, Yield, acted, after, append_cancel_left, both_ways, carried, cases_eq, cases_lt, code_of, collects, commits, does, ended_at, ends_within, false_from_ne_true, fitting, guard_holds, instant_at, instructions_of, is_before, item_of, items_on, length-replicate, lesser, looked, moved_on, next_place, numbers_of, opening, opening_actor, operated, operations_in, outcome, plan_operations, position_of, positions_rise, received, receives, repeated, reports, seen_at, sends, sent_on, set_here, slice_get-get_or, slice_get_within, some_at, some_reference, step_names, stepped, take_first, taken_from, turn, turn_at, turn_by, turn_of_op, turn_with, turned, with_actor, with_at, with_items, word_before}
pub use Rattle.sig_schedule_laws.proofs.EndsOfLinks.{reader_end}
pub use Rattle.sig_schedule_laws.proofs.EventsOnReference.{reader_is, stepped_on, writer_is}
pub use Rattle.sig_schedule_laws.proofs.Moved.{chosen_of, moved_cases}
pub use Rattle.sig_schedule_laws.proofs.NextOnReference.{done_chosen}
pub use Rattle.sig_schedule_laws.proofs.Opening.{opening_on}
pub use Rattle.sig_schedule_laws.proofs.Prefixes.{same_next}
pub use Rattle.sig_schedule_laws.proofs.SentItems.{IsSending, sends_item, sends_report}
pub use Rattle.sig_schedule_laws.proofs.Steps.{DoesStep, step_does}
pub use Rattle.sig_schedule_laws.proofs.TurnsOnReference.{actor_on, coded}
pub use Rattle.sig_schedule_laws.proofs.WaitsForPartner.{reader_earlier, writer_no_later}
pub use Rattle.sig_schedule_laws.proofs.Words.{NotAfter, after_or_before, before_onward, not_after_onward, not_before_itself, reached_not_after, same_places, total_places}
pub use Rattle.sig_settling_laws.specs.OwnSteps.{Grow, HasTurned, IsBehind, IsOwnStep, Items, LeadBy, Own, Stay, UsesNone, opening_own}
pub use Rattle.sig_settling_laws.specs.Settled.{ActInOrder, AreBalanced, AreInOrder, AreSettled, HasActed, HasEndedBy, IsLeastFailure, IsNoLater, LookBehind, acts, acts_then_looks, collector_of, is_next, is_such, looks, puts_item, takes_item, times_among}
pub use Rattle.sig_doing_laws.proofs.CompiledLists.{compiled_operations, compiled_order}

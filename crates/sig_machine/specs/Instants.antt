-- How a machine goes on within an instant, and how a run ends in one.
use Rattle.std.specs.Prelude.{◌<◌}
use Rattle.sig_machine.specs.Prelude.{ℕ, ℤ, List, length, Option, Place, Instant, Trace, PlanView, Cause, Ended, IsEnd, IsAmid}
use Rattle.sig_machine.specs.Machines.{actor_at}
use Rattle.sig_machine.specs.declared.machine.Machine.{Machine}

-- Of whatever instant the actor of the old machine is amid before one place of the order, that of the new one is amid it before
-- another place.
abbrev pub GoesOn : PlanView → List (List ℤ) → Machine → ℕ → Machine → ℕ → Type 0
GoesOn plan flows old place new later =
    (trace : Trace) (instant : Instant) → IsAmid plan flows trace instant (actor_at old place) → IsAmid plan flows trace instant (actor_at new later)

abbrev pub ended_behind : Trace → Cause → Ended
ended_behind trace cause = record { instants = length trace; cause = cause }

-- Behind whatever trace the actor of the machine is amid an instant before a place of the order, a run ends by the cause, where
-- the limit is not reached.
abbrev pub EndsBy : PlanView → List (List ℤ) → Machine → ℕ → Cause → Type 0
EndsBy plan flows machine place cause =
    (trace : Trace) (instant : Instant) → IsAmid plan flows trace instant (actor_at machine place) → (limit : ℕ) → length trace < limit
    → (at : Option Place) × IsEnd plan flows limit trace at (ended_behind trace cause)

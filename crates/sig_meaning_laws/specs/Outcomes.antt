-- What an operation comes to at an actor, beside what the reference has.
use Rattle.std.specs.Prelude.{◌≡◌}
use Rattle.sig_meaning_laws.specs.Prelude.{ℕ, ℤ, List, length, slice_get, Contains, Some, Instant, Trace, flow_of, seen_at, SigId, remembered, Equation, Delay, Kernel, Actor, HasFault, Meets, Faults, Outcome, Operation, Writes, Op, Read}
use Rattle.sig_model.specs.Operating.{Gives}

-- An actor is at an operation, behind a trace and in an instant: it has what the operation reads there, remembers what the trace
-- leaves, and has read what the trace took.
pub record IsAt (kernel : Kernel) (trace : Trace) (instant : Instant) (op : Op) (actor : Actor) : Type 0 where
  pub reads : (x : SigId) → Contains op.reads x → actor.registers x.0 ≡ seen_at instant x.0
  pub memories : (number : ℕ) (y x : SigId) (initial : ℤ) (equation : Equation) → slice_get kernel.equations number ≡ Some equation
      → equation.form ≡ Delay y x initial → op.writes ≡ Some y → actor.memories y.0 ≡ remembered trace y.0 x.0 initial
  pub taken : (x : SigId) → op.kind ≡ Read x → actor.taken x.0 ≡ length (flow_of x.0 trace)

-- a value is what the instant has of the signal that is written; a fault is one that the instant has and the operation meets
abbrev pub IsOutcome : Kernel → List (List ℤ) → Trace → Instant → Operation → Outcome → Type 0
IsOutcome kernel flows trace instant p (Gives v) = (x : SigId) → Writes p x → seen_at instant x.0 ≡ Some v
IsOutcome kernel flows trace instant p (Faults cause) = Meets p cause × HasFault kernel flows trace instant cause

-- An actor that does all operations of a plan, one after another in the compiled order, in an instant.
use Rattle.std.specs.Prelude.{◌≡◌, ◌<◌, ◌≤◌, ◌+◌, ◌∷◌, ◌++◌}
use Rattle.sig_doing_laws.specs.Prelude.{ℕ, ℤ, List, [], length, slice_get, None, Some, Instant, Trace, flow_of, seen_at, EqId, SigId, remembered, Equation, Delay, IsFaultAt, Actor, no_registers, IsReference, operations_in, PlanView, numbers_of, Cause, Read, Store}
use Rattle.sig_doing_laws.specs.Commits.{IsCommitted}
use Rattle.sig_doing_laws.specs.Places.{IsWrittenBefore, StandsBefore}

-- An actor is amid an instant behind a committed trace: the reference goes on by the instant, and the actor is before a place
-- of the order.
pub record IsAmid (plan : PlanView) (flows : List (List ℤ)) (trace : Trace) (instant : Instant) (actor : Actor) : Type 0 where
  pub behind : IsCommitted plan.kernel flows trace
  pub next : IsReference plan.kernel flows (length trace + 1) (trace ++ instant ∷ [])
  pub number : actor.instant ≡ length trace + 1
  pub within : actor.step ≤ length plan.order
  -- a signal is what the instant has of it once an operation that writes it was done, and absent before
  pub written : (x : SigId) → IsWrittenBefore plan instant actor.step x → actor.registers x.0 ≡ seen_at instant x.0
  pub unwritten : (x : SigId) → (IsWrittenBefore plan instant actor.step x → ⊥) → actor.registers x.0 ≡ None
  -- a delay remembers what the trace leaves, and behind its store what the trace leaves with the instant
  pub stored : (e : EqId) (equation : Equation) (y x : SigId) (initial : ℤ) → slice_get plan.kernel.equations e.0 ≡ Some equation
      → equation.form ≡ Delay y x initial → StandsBefore plan actor.step (Store e)
      → actor.memories y.0 ≡ remembered (trace ++ instant ∷ []) y.0 x.0 initial
  pub kept : (e : EqId) (equation : Equation) (y x : SigId) (initial : ℤ) → slice_get plan.kernel.equations e.0 ≡ Some equation
      → equation.form ≡ Delay y x initial → (StandsBefore plan actor.step (Store e) → ⊥)
      → actor.memories y.0 ≡ remembered trace y.0 x.0 initial
  -- the values of an input that the trace takes were read, and behind its read those that the trace takes with the instant
  pub read : (x : SigId) → x.0 < plan.kernel.inputs → StandsBefore plan actor.step (Read x)
      → actor.taken x.0 ≡ length (flow_of x.0 (trace ++ instant ∷ []))
  pub unread : (x : SigId) → x.0 < plan.kernel.inputs → (StandsBefore plan actor.step (Read x) → ⊥)
      → actor.taken x.0 ≡ length (flow_of x.0 trace)
  -- no operation before the place meets a fault
  pub sound : (place : ℕ) (cause : Cause) → place < actor.step
      → IsFaultAt plan.kernel (operations_in plan.store.nodes plan.ops) (numbers_of plan.order) flows trace instant place cause → ⊥

-- an actor behind the operation at its place
abbrev pub stepped : Actor → Actor
stepped actor = record actor { step = actor.step + 1 }

-- an actor before the first operation of the next instant, in which no signal is there yet
abbrev pub instant_behind : Actor → Actor
instant_behind actor = record actor { instant = actor.instant + 1; step = 0; registers = no_registers }

-- two actors are before the same place of the same instant, and have the same of each signal, delay and input
pub record AreAlike (a b : Actor) : Type 0 where
  pub instant : a.instant ≡ b.instant
  pub step : a.step ≡ b.step
  pub registers : (signal : ℕ) → a.registers signal ≡ b.registers signal
  pub memories : (signal : ℕ) → a.memories signal ≡ b.memories signal
  pub taken : (input : ℕ) → a.taken input ≡ b.taken input

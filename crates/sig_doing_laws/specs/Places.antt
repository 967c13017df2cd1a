-- What stands at the places of a plan's order, and what is done there at an instant.
use Rattle.std.specs.Prelude.{◌≡◌, ◌<◌}
use Rattle.sig_doing_laws.specs.Prelude.{ℕ, true, slice_get, Some, Instant, seen_at, OpId, SigId, test, truths_of, PlanView, Op, OpKind}

-- an operation stands at a place of the order
pub record StandsAt (plan : PlanView) (place : ℕ) (op : Op) : Type 0 where
  pub number : OpId
  pub ordered : slice_get plan.order place ≡ Some number
  pub is : slice_get plan.ops number.0 ≡ Some op

-- an operation is done at an instant: its guard is true of the conditions there
abbrev pub IsDone : PlanView → Instant → Op → Type 0
IsDone plan instant op = test plan.store.nodes op.guard (truths_of plan.clocks.conditions (seen_at instant)) ≡ true

-- an operation of a kind stands before a place
pub record StandsBefore (plan : PlanView) (place : ℕ) (kind : OpKind) : Type 0 where
  pub at : ℕ
  pub earlier : at < place
  pub op : Op
  pub stands : StandsAt plan at op
  pub does : op.kind ≡ kind

-- an operation that writes a signal stands before a place, and is done at an instant
pub record IsWrittenBefore (plan : PlanView) (instant : Instant) (place : ℕ) (x : SigId) : Type 0 where
  pub at : ℕ
  pub earlier : at < place
  pub op : Op
  pub stands : StandsAt plan at op
  pub writes : op.writes ≡ Some x
  pub done : IsDone plan instant op

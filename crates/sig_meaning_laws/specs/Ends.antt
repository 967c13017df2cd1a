-- Why a longest trace is not longer.
use Rattle.std.specs.Prelude.{◌≡◌, ◌<◌, ◌≤◌, ◌+◌, ◌⊎◌, ◌∷◌, ◌++◌}
use Rattle.sig_meaning_laws.specs.Prelude.{ℕ, ℤ, List, [], length, slice_index_or, Bounded, Instant, Trace, flow_of, IsReaction, remembered, Kernel, IsReference}

-- An instant behind a trace is within bounds: its integers have 64 bits, nothing is divided by 0, and no input has more
-- values than its flow.
pub record IsWithinBounds (kernel : Kernel) (flows : List (List ℤ)) (trace : Trace) (instant : Instant) : Type 0 where
  pub is : IsReaction Bounded kernel (remembered trace) instant
  pub inputs : (input : ℕ) → input < length flows → length (flow_of input (trace ++ instant ∷ [])) ≤ length (slice_index_or flows input [])

-- the reference goes on behind the trace by an instant that is not within bounds
pub record StopsBefore (kernel : Kernel) (flows : List (List ℤ)) (trace : Trace) (instant : Instant) : Type 0 where
  pub next : IsReference kernel flows (length trace + 1) (trace ++ instant ∷ [])
  pub beyond : IsWithinBounds kernel flows trace instant → ⊥

-- A trace begins the reference up to the limit, or up to the first instant that is not within bounds.
pub record IsCut (kernel : Kernel) (flows : List (List ℤ)) (limit : ℕ) (trace : Trace) : Type 0 where
  pub reference : IsReference kernel flows (length trace) trace
  pub within : (past : Trace) (instant : Instant) (future : Trace) → trace ≡ past ++ instant ∷ future → IsWithinBounds kernel flows past instant
  pub ends : (length trace ≡ limit) ⊎ ((length trace < limit) × (instant : Instant) × StopsBefore kernel flows trace instant)

-- A kernel and its paced one: what is left of the traces of the paced kernel where the paces are left out.
use Rattle.std.specs.Prelude.{◌≡◌, ◌<◌, ◌+◌, ◌++◌, if◌then◌else◌}
use Rattle.sig_pace.specs.Prelude.{ℕ, ℤ, pos, List, [], length, map, Option, None, Some, is_some, slice_get, slice_index_or, range_with_len, AreFlowsFor, Bounded, Fits, Instant, IsPrefixOf, Range, Seen, Trace, flow_of, is_silent, seen_at, IsTraceIn, Kernel}
use Rattle.sig_pace.specs.Paced.{paced_kernel}
use Rattle.sig_pace.specs.Renumbering.{moved}

-- what so many signals are that stand at these places
abbrev pub restricted : {A : Type 0} → ℕ → (ℕ → ℕ) → List (Option A) → List (Option A)
restricted count place statuses = map (λ signal. slice_index_or statuses (place signal) None) (range_with_len 0 count)

-- an instant of a paced kernel without its paces and marks
abbrev pub without_paces : Kernel → List ℕ → Instant → Instant
without_paces kernel least instant = restricted (length kernel.signals) (moved kernel.inputs (length least)) instant

-- what the pace of a signal is at an instant of the old kernel: absent where nothing is present, else whether the signal is
abbrev pub paced_seen : Instant → ℕ → Seen
paced_seen instant m = if is_silent instant then None else (if is_some (seen_at instant m) then Some (pos 1) else Some (pos 0))

-- at each instant of a trace of the old kernel, the paces of one of the paced kernel are what the presences of its clocks are
abbrev pub TellsPresences : Kernel → List ℕ → Trace → Trace → Type 0
TellsPresences kernel least trace wide = (number j m : ℕ) (instant wide_instant : Instant) → slice_get trace number ≡ Some instant
    → slice_get wide number ≡ Some wide_instant → slice_get least j ≡ Some m
    → seen_at wide_instant (kernel.inputs + j) ≡ paced_seen instant m

-- the flow of each pace begins the one that is given for it
abbrev pub FitPaces : Kernel → List (List ℤ) → Trace → Type 0
FitPaces kernel flows wide = (j : ℕ) → j < length flows → IsPrefixOf (flow_of (kernel.inputs + j) wide) (slice_index_or flows j [])

-- The traces of the paced kernel, without the paces, are exactly those of the old one.
pub record HasTracesOf (kernel : Kernel) (least : List ℕ) : Type 0 where
  pub only : (range : Range) (wide : Trace) → IsTraceIn range (paced_kernel kernel least) wide
      → IsTraceIn range kernel (map (without_paces kernel least) wide)
  pub each : (range : Range) (trace : Trace) → IsTraceIn range kernel trace
      → (wide : Trace) × IsTraceIn range (paced_kernel kernel least) wide × (map (without_paces kernel least) wide ≡ trace)
      × TellsPresences kernel least trace wide

-- A trace of a kernel that fits flows is, for some flows of the paces, what is left without them of a fitting trace of the
-- paced kernel.
pub record HasPaces (kernel : Kernel) (least : List ℕ) (flows : List (List ℤ)) (trace : Trace) : Type 0 where
  pub wide : Trace
  pub paces : List (List ℤ)
  pub is : IsTraceIn Bounded (paced_kernel kernel least) wide
  pub fit : AreFlowsFor (paced_kernel kernel least) (flows ++ paces)
  pub fits : Fits (flows ++ paces) wide
  pub left : map (without_paces kernel least) wide ≡ trace

-- Runs of guarded operations, instant by instant, and the run of an image.
use Rattle.std.specs.Prelude.{◌≡◌, ◌⊎◌, ◌∷◌, ◌++◌}
use Rattle.sig_file.specs.Prelude.{ℕ, zero, suc, ℤ, pos, Bool, true, false, List, [], length, map, flat_map, take, drop, replicate, slice_get, slice_set, None, Some, int_eq, Function, Quotient, Remainder, Gives, Bounded, Instant, Seen, Trace, seen_at, has_64_bits, HaveValues, function_of, value_at, line_of, SigId, Span, FunOp, Operand}
use Rattle.sig_file.specs.Guarded.{Guarded, Guards, guards_of}
use Rattle.sig_file.specs.Images.{ImageView}
use Rattle.sig_file.specs.declared.images.ImageOpKind.{ImageOpKind}
use Rattle.sig_file.specs.declared.images.ImageOpKind.TheVariants as does
use Rattle.sig_file.specs.declared.images.ImageSignal.{ImageSignal}
use Rattle.sig_file.specs.declared.run.ImageCause.{ImageCause}
use Rattle.sig_file.specs.declared.run.ImageCause.TheVariants.{Exhausted, Limit, Overflow, ZeroDivisor}
use Rattle.sig_file.specs.declared.run.ImageEnd.{ImageEnd}

pub record State : Type 0 where
  -- what was written of each signal in this instant
  pub registers : Instant
  pub memories : List ℤ
  -- the values of each input that are not read yet
  pub flows : List (List ℤ)

-- a state where a signal has a value
abbrev pub written : SigId → ℤ → State → State
written x v s = record s { registers = slice_set s.registers x.0 (Some v) }

-- ---- one operation

-- the values of the operands are there, and the function gives this result of them
abbrev pub Computes : FunOp → List Operand → State → ℤ → Type 0
Computes op operands s v = (values : List ℤ) × HaveValues s.registers operands values × Gives Bounded (function_of op) values v

-- the divisor is 0
abbrev pub HasZeroDivisor : Function → List ℤ → Type 0
HasZeroDivisor Quotient (a ∷ divisor ∷ []) = divisor ≡ pos 0
HasZeroDivisor Remainder (a ∷ divisor ∷ []) = divisor ≡ pos 0
HasZeroDivisor function values = ⊥

-- the operation leads from one state to another
abbrev pub Does : ImageOpKind → State → State → Type 0
Does (does.Read x) s t = (v : ℤ) × (rest : List ℤ) × (slice_get s.flows x.0 ≡ Some (v ∷ rest)) × (t ≡ written x v (record s { flows = slice_set s.flows x.0 rest }))
Does (does.Fun y op operands) s t = (v : ℤ) × Computes op operands s v × (has_64_bits v ≡ true) × (t ≡ written y v s)
Does (does.Copy y x) s t = (v : ℤ) × (seen_at s.registers x.0 ≡ Some v) × (t ≡ written y v s)
Does (does.Const y value) s t = t ≡ written y value s
Does (does.DelayRead y memory) s t = (v : ℤ) × (slice_get s.memories memory ≡ Some v) × (t ≡ written y v s)
Does (does.Store memory x) s t = (v : ℤ) × (seen_at s.registers x.0 ≡ Some v) × (t ≡ record s { memories = slice_set s.memories memory v })

-- The operation at this place ends the run: its input has no further value, its result is outside 64 bits, or its divisor is 0.
abbrev pub Ends : ImageOpKind → Span → State → ImageCause → Type 0
Ends (does.Read x) at s cause = (slice_get s.flows x.0 ≡ Some []) × (cause ≡ Exhausted x)
Ends (does.Fun y op operands) at s cause =
    ((v : ℤ) × Computes op operands s v × (has_64_bits v ≡ false) × (cause ≡ Overflow at))
    ⊎ ((values : List ℤ) × HaveValues s.registers operands values × HasZeroDivisor (function_of op) values × (cause ≡ ZeroDivisor at))
Ends other at s cause = ⊥

-- ---- one instant

-- a signal is there and true
abbrev pub is_true : Seen → Bool
is_true None = false
is_true (Some v) = int_eq v (pos 1)

-- the proposal that the registers of conditions make
abbrev pub proposal_of : List SigId → Instant → List Bool
proposal_of conditions registers = map (λ condition. is_true (seen_at registers condition.0)) conditions

abbrev pub holds : Guards → Guarded → State → Bool
holds guards op s = value_at op.guard (proposal_of guards.conditions s.registers)

-- the operation is done where its guard holds, and else passed over
abbrev pub Handles : Guards → Guarded → State → State → Type 0
Handles guards op s t = ((holds guards op s ≡ true) × Does op.kind s t) ⊎ ((holds guards op s ≡ false) × (t ≡ s))

-- operations are handled in order
abbrev pub HandlesAll : Guards → List Guarded → State → State → Type 0
HandlesAll guards [] s t = t ≡ s
HandlesAll guards (op ∷ ops) s t = (middle : State) × Handles guards op s middle × HandlesAll guards ops middle t

-- operations are handled in order up to one that ends the run
abbrev pub EndsIn : Guards → List Guarded → State → ImageCause → Type 0
EndsIn guards [] s cause = ⊥
EndsIn guards (op ∷ ops) s cause =
    ((holds guards op s ≡ true) × Ends op.kind op.at s cause) ⊎ ((middle : State) × Handles guards op s middle × EndsIn guards ops middle cause)

-- nothing is written yet
abbrev pub cleared : Guards → State → State
cleared guards s = record s { registers = replicate guards.signals None }

-- ---- all instants

-- From this state on, with at most so many instants to come: the instants that are committed, and why there is no further one.
abbrev pub Runs : Guards → ℕ → State → Trace → ImageCause → Type 0
Runs guards zero s committed cause = (committed ≡ []) × (cause ≡ Limit)
Runs guards (suc left) s committed cause =
    ((committed ≡ []) × EndsIn guards guards.ops (cleared guards s) cause)
    ⊎ ((t : State) × (more : Trace) × (committed ≡ t.registers ∷ more) × HandlesAll guards guards.ops (cleared guards s) t × Runs guards left t more cause)

-- the state before the first instant
abbrev pub opening : Guards → List (List ℤ) → State
opening guards flows = record { registers = []; memories = guards.inits; flows = flows }

-- ---- the text

abbrev pub seen_line : ImageSignal → Seen → List ℕ
seen_line signal None = []
seen_line signal (Some v) = line_of signal.name signal.kind v

abbrev pub seen_lines : List ImageSignal → List Seen → List ℕ
seen_lines [] seen = []
seen_lines (signal ∷ signals) [] = []
seen_lines (signal ∷ signals) (s ∷ seen) = seen_line signal s ++ seen_lines signals seen

-- the lines of the outputs that were written in an instant, in their order
abbrev pub instant_lines : ImageView → Instant → List ℕ
instant_lines image registers = seen_lines (take image.outputs (drop image.inputs image.signals)) (drop image.inputs registers)

-- The run of an image over these flows, of at most so many instants: its text, and its end.
pub record IsImageRun (image : ImageView) (flows : List (List ℤ)) (limit : ℕ) (text : List ℕ) (end : ImageEnd) : Type 0 where
  pub committed : Trace
  pub runs : Runs (guards_of image) limit (opening (guards_of image) flows) committed end.cause
  pub instants : end.instants ≡ length committed
  pub lines : text ≡ flat_map (instant_lines image) committed

-- What each instruction of an actor is for.
use Rattle.std.specs.Prelude.{◌≡◌, ◌≢◌, ◌<◌, ◌⊎◌, ◌+◌, ◌*◌}
use Rattle.sig_plan.specs.Prelude.{ℕ, Bool, true, List, length, slice_get, None, Some, SigId}
use Rattle.sig_plan.specs.Codes.{Instruction, op_id, under, unguarded}
use Rattle.sig_plan.specs.Operations.{Operation}
use Rattle.sig_plan.specs.Order.{Writes}
use Rattle.sig_plan.specs.declared.code.StepKind.{StepKind}
use Rattle.sig_plan.specs.declared.code.StepKind.TheVariants.{Do, Send, Receive, Report, Collect, Commit}
use Rattle.sig_plan.specs.declared.parts.LinkInfo.{LinkInfo}

-- the operation p of this number stands at the place j of the order
pub record StandsAt (operations : List Operation) (order : List ℕ) (j number : ℕ) (p : Operation) : Type 0 where
  pub place : slice_get order j ≡ Some number
  pub is : slice_get operations number ≡ Some p

-- the link of this number carries what the operation writes
pub record CarriesFrom (links : List LinkInfo) (p : Operation) (link : ℕ) : Type 0 where
  pub info : LinkInfo
  pub signal : SigId
  pub is : slice_get links link ≡ Some info
  pub writes : Writes p signal
  pub carries : info.signal ≡ Some signal

-- An actor does its own operations, at their places, and sends what they write, on each link that carries it; it receives what
-- the operations of other actors write, on each link that carries it to this actor. At the end a cluster reports, and the
-- collector collects the reports and commits.
pub data IsFor (operations : List Operation) (order : List ℕ) (links : List LinkInfo) (clusters actor : ℕ) : Instruction → Type 0 where
  does : (j number : ℕ) (p : Operation) → StandsAt operations order j number p → p.cluster ≡ actor
      → IsFor operations order links clusters actor (under p (Do (op_id number)) (2 * j))
  sends : (j number link : ℕ) (p : Operation) → StandsAt operations order j number p → p.cluster ≡ actor → CarriesFrom links p link
      → IsFor operations order links clusters actor (under p (Send link) (2 * j + 1))
  receives : (j number link : ℕ) (p : Operation) → StandsAt operations order j number p → p.cluster ≢ actor
      → (from : CarriesFrom links p link) → from.info.reader ≡ actor
      → IsFor operations order links clusters actor (under p (Receive link) (2 * j + 1))
  reports : (link : ℕ) (info : LinkInfo) → actor ≢ clusters → slice_get links link ≡ Some info → info.signal ≡ None → info.writer ≡ actor
      → IsFor operations order links clusters actor (unguarded (Report link) (2 * length operations))
  collects : (link : ℕ) (info : LinkInfo) → actor ≡ clusters → slice_get links link ≡ Some info → info.signal ≡ None
      → IsFor operations order links clusters actor (unguarded (Collect link) (2 * length operations))
  commits : actor ≡ clusters → IsFor operations order links clusters actor (unguarded Commit (2 * length operations + 1))

-- An instruction gives its actor the signal: it does an operation that writes it, or receives it on a link.
abbrev pub Provides : List Operation → List LinkInfo → SigId → Instruction → Type 0
Provides operations links x instruction =
    ((number : ℕ) × (p : Operation) × (slice_get operations number ≡ Some p) × Writes p x × (instruction.kind ≡ Do (op_id number)))
    ⊎ ((link : ℕ) × (info : LinkInfo) × (slice_get links link ≡ Some info) × (info.signal ≡ Some x) × (instruction.kind ≡ Receive link))

-- an instruction that is done for the proposal, and stands before the place k among those of an actor, gives the actor the signal
abbrev pub IsProvidedBefore : List Operation → List LinkInfo → List Instruction → List Bool → ℕ → SigId → Type 0
IsProvidedBefore operations links instructions proposal k x =
    (i : ℕ) × (instruction : Instruction) × (i < k) × (slice_get instructions i ≡ Some instruction) × (instruction.guard proposal ≡ true)
    × Provides operations links x instruction

-- what a step names is one of so many operations, or one of so many links
abbrev pub NamesWithin : ℕ → ℕ → StepKind → Type 0
NamesWithin operations links (Do op) = op.0 < operations
NamesWithin operations links (Send link) = link < links
NamesWithin operations links (Receive link) = link < links
NamesWithin operations links (Report link) = link < links
NamesWithin operations links (Collect link) = link < links
NamesWithin operations links Commit = Unit {0}

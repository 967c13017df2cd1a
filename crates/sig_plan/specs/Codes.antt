-- The code of each actor: its steps with their positions, and the slots of their guards.
use Rattle.std.specs.Prelude.{◌≡◌, ◌+◌, ◌*◌, ◌<◌, ◌==◌, ◌∷◌, ◌++◌, if◌then◌else◌}
use Rattle.sig_plan.specs.Prelude.{ℕ, Bool, true, false, List, [], length, map, flat_map, slice_get, Option, None, Some, enumerate_from, filter_map, OpId, SigId, IsRefOf, Implies, Node}
use Rattle.sig_plan.specs.Operations.{Guard, Operation}
use Rattle.sig_plan.specs.Parts.{PartsView}
use Rattle.sig_plan.specs.declared.code.Slot.{Slot}
use Rattle.sig_plan.specs.declared.code.Step.{Step}
use Rattle.sig_plan.specs.declared.code.StepKind.{StepKind}
use Rattle.sig_plan.specs.declared.code.StepKind.TheVariants.{Do, Send, Receive, Report, Collect, Commit}
use Rattle.sig_plan.specs.declared.parts.LinkInfo.{LinkInfo}

pub record CodeView : Type 0 where
  pub steps : List Step
  pub slots : List Slot

-- a step before its guard has a slot
pub record Instruction : Type 0 where
  pub kind : StepKind
  pub position : ℕ
  pub guard : Guard

abbrev pub always : Guard
always proposal = true

abbrev pub op_id : ℕ → OpId
op_id number = record { 0 = number }

-- the links are numbered by their places
abbrev pub numbered : List LinkInfo → List (ℕ × LinkInfo)
numbered links = enumerate_from 0 links

-- two signals, or none, are one
abbrev pub is_signal : Option SigId → Option SigId → Bool
is_signal (Some x) (Some y) = x.0 == y.0
is_signal None None = true
is_signal a b = false

-- the numbers of the links that carry what an operation writes
abbrev pub links_of : List LinkInfo → Option SigId → List ℕ
links_of links None = []
links_of links (Some x) = filter_map (λ link. if is_signal link.1.signal (Some x) then Some link.0 else None) (numbered links)

-- of these, the number of the one that an actor reads
abbrev pub links_to : List LinkInfo → Option SigId → ℕ → List ℕ
links_to links None reader = []
links_to links (Some x) reader =
    filter_map (λ link. if is_signal link.1.signal (Some x) then (if link.1.reader == reader then Some link.0 else None) else None) (numbered links)

-- an instruction under the guard of an operation
abbrev pub under : Operation → StepKind → ℕ → Instruction
under p kind position = record { kind = kind; position = position; guard = p.guard }

-- what an actor does at the place j of the order, at which the operation p of this number stands: it does its own operation and
-- sends what that writes; and it receives what another actor's writes, where it imports it
abbrev pub at_place : List LinkInfo → ℕ → ℕ → ℕ → Operation → List Instruction
at_place links actor j number p =
    if p.cluster == actor then under p (Do (op_id number)) (2 * j) ∷ map (λ link. under p (Send link) (2 * j + 1)) (links_of links p.writes)
    else map (λ link. under p (Receive link) (2 * j + 1)) (links_to links p.writes actor)

abbrev pub at_number : List Operation → List LinkInfo → ℕ → ℕ → ℕ → Option Operation → List Instruction
at_number operations links actor j number None = []
at_number operations links actor j number (Some p) = at_place links actor j number p

-- the instructions of an actor over the order
abbrev pub over_order : List Operation → List ℕ → List LinkInfo → ℕ → List Instruction
over_order operations order links actor =
    flat_map (λ place. at_number operations links actor place.0 place.1 (slice_get operations place.1)) (enumerate_from 0 order)

abbrev pub unguarded : StepKind → ℕ → Instruction
unguarded kind position = record { kind = kind; position = position; guard = always }

-- the numbers of the report links, and that of a cluster's own
abbrev pub report_links : List LinkInfo → List ℕ
report_links links = filter_map (λ link. if is_signal link.1.signal None then Some link.0 else None) (numbered links)

abbrev pub reports_of : List LinkInfo → ℕ → List ℕ
reports_of links cluster =
    filter_map (λ link. if is_signal link.1.signal None then (if link.1.writer == cluster then Some link.0 else None) else None) (numbered links)

-- at the end a cluster reports, and the collector collects the reports and commits; there are n operations
abbrev pub at_end : List LinkInfo → ℕ → ℕ → ℕ → List Instruction
at_end links clusters n actor =
    if actor == clusters then map (λ link. unguarded (Collect link) (2 * n)) (report_links links) ++ unguarded Commit (2 * n + 1) ∷ []
    else map (λ link. unguarded (Report link) (2 * n)) (reports_of links actor)

-- the instructions of an actor, by position
abbrev pub instructions_of : List Operation → List ℕ → PartsView → ℕ → List Instruction
instructions_of operations order parts actor =
    over_order operations order parts.links actor ++ at_end parts.links parts.clusters (length operations) actor

-- a step does an instruction, at its position, and its slot has the instruction's guard
pub record IsStepOf (nodes : List Node) (slots : List Slot) (instruction : Instruction) (step : Step) : Type 0 where
  pub kind : step.kind ≡ instruction.kind
  pub position : step.pos ≡ instruction.position
  pub slot : Slot
  pub has : slice_get slots step.slot ≡ Some slot
  pub guard : IsRefOf nodes instruction.guard slot.guard

-- the last number below a bound of which a statement holds, or none
abbrev pub IsLastBelow : (ℕ → Type 0) → ℕ → Option ℕ → Type 0
IsLastBelow P bound None = (k : ℕ) → k < bound → P k → ⊥
IsLastBelow P bound (Some last) = (last < bound) × P last × ((k : ℕ) → last < k → k < bound → P k → ⊥)

-- the guard of the slot s implies that of the slot at the place k
abbrev pub ImpliesSlot : List Node → List Slot → Slot → ℕ → Type 0
ImpliesSlot nodes slots s k = (other : Slot) × (slice_get slots k ≡ Some other) × Implies nodes s.guard other.guard

-- the slots of steps: different guards, in the order of their first steps, each with its parent
pub record AreSlots (nodes : List Node) (steps : List Step) (slots : List Slot) : Type 0 where
  pub differ : (i j : ℕ) (s t : Slot) → slice_get slots i ≡ Some s → slice_get slots j ≡ Some t → s.guard ≡ t.guard → i ≡ j
  -- a slot is met first behind all that stand before it
  pub first : (number : ℕ) (step : Step) → slice_get steps number ≡ Some step
      → (earlier : ℕ) → earlier < step.slot → (k : ℕ) × (other : Step) × (k < number) × (slice_get steps k ≡ Some other) × (other.slot ≡ earlier)
  -- and each slot is that of some step
  pub used : (i : ℕ) → i < length slots → (number : ℕ) × (step : Step) × (slice_get steps number ≡ Some step) × (step.slot ≡ i)
  pub parents : (i : ℕ) (s : Slot) → slice_get slots i ≡ Some s → IsLastBelow (ImpliesSlot nodes slots s) i s.parent

-- The code of an actor.
pub record IsCode (nodes : List Node) (operations : List Operation) (order : List ℕ) (parts : PartsView) (actor : ℕ) (code : CodeView) : Type 0 where
  pub count : length code.steps ≡ length (instructions_of operations order parts actor)
  pub steps : (k : ℕ) (instruction : Instruction) (step : Step) → slice_get (instructions_of operations order parts actor) k ≡ Some instruction
      → slice_get code.steps k ≡ Some step → IsStepOf nodes code.slots instruction step
  pub slots : AreSlots nodes code.steps code.slots

-- one code for each cluster, and the collector's last
pub record AreCodes (nodes : List Node) (operations : List Operation) (order : List ℕ) (parts : PartsView) (codes : List CodeView) : Type 0 where
  pub actors : length codes ≡ parts.clusters + 1
  pub each : (actor : ℕ) (code : CodeView) → slice_get codes actor ≡ Some code → IsCode nodes operations order parts actor code

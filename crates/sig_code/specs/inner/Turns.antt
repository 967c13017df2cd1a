-- What an actor does with the links.
use Rattle.std.specs.Prelude.{◌≡◌, ◌+◌, ◌*◌, ◌<◌, ◌^◌, ◌==◌, if◌then◌else◌}
use Rattle.sig_code.specs.Prelude.{ℕ, List, [], All, length, map, Option, None, Some, filter_map, OpId, SigId, Holds, IsRefOf, test, Node, Ref, Instruction, always, is_signal, numbered, PartsView, StepKind, Send, Receive, Report, Collect, Op, LinkInfo}
use Rattle.sig_code.specs.declared.routes.Route.{Route}

-- a link and its number, where it carries what is written
abbrev pub route_if : Option SigId → ℕ × LinkInfo → Option Route
route_if None link = None
route_if (Some x) link = if is_signal link.1.signal (Some x) then Some (record { link = link.0; reader = link.1.reader }) else None

-- the links that carry what is written
abbrev pub routes_of : List LinkInfo → Option SigId → List Route
routes_of links writes = filter_map (route_if writes) (numbered links)

-- what is sent and received on them
abbrev pub sending : Route → StepKind
sending route = Send route.link

abbrev pub receiving : ℕ → Route → Option StepKind
receiving actor route = if route.reader == actor then Some (Receive route.link) else None

-- what an actor does with a link at the end
abbrev pub ending : ℕ → ℕ → ℕ × LinkInfo → Option StepKind
ending clusters actor link =
    if is_signal link.1.signal None then (if actor == clusters then Some (Collect link.0) else (if link.1.writer == actor then Some (Report link.0) else None))
    else None

-- an instruction under the guard of a reference
abbrev pub doing : List Node → Ref → ℕ → StepKind → Instruction
doing nodes guard position kind = record { kind = kind; position = position; guard = test nodes guard }

-- What codes are made of: few enough operations and links, an order of the operations, the routes of what each writes, and the
-- reference that is always true.
pub record AreReady (nodes : List Node) (ops : List Op) (order : List OpId) (links : List LinkInfo) (routes : List (List Route)) (unguarded : Ref) : Type 0 where
  pub held : All (λ op. Holds nodes op.guard) ops
  pub few : 2 * length ops + 1 < 2 ^ 32
  pub few_links : length links < 2 ^ 32
  pub within : All (λ op. op.0 < length ops) order
  pub places : length order ≡ length ops
  pub routed : routes ≡ map (λ op. routes_of links op.writes) ops
  pub free : IsRefOf nodes always unguarded

-- the parts of a kernel as codes see them, which need no imports
abbrev pub parts_of : ℕ → List LinkInfo → PartsView
parts_of clusters links = record { clusters = clusters; links = links; imports = [] }

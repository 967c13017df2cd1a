-- Guarded operations: what an image does at an instant, in order, each operation for the proposals that its guard tells. A
-- proposal is one truth for each condition; past its end a condition is false.
use Rattle.std.specs.Prelude.{◌≡◌, ◌<◌}
use Rattle.sig_file.specs.Prelude.{ℕ, ℤ, Bool, true, List, map, length, slice_get, Some, Contains, Diagram, Node, Ref, Asks, diagram, value_at, SigId, Span, Sig}
use Rattle.sig_file.specs.Images.{ImageView}
use Rattle.sig_file.specs.declared.images.ImageNode.{ImageNode}
use Rattle.sig_file.specs.declared.images.ImageOp.{ImageOp}
use Rattle.sig_file.specs.declared.images.ImageOpKind.{ImageOpKind}
use Rattle.sig_file.specs.declared.images.ImageOpKind.TheVariants as does

-- an operation under a guard
pub record Guarded : Type 0 where
  -- the diagram of its guard, whose variables are places of conditions: it is done for the proposals at which this is true
  pub guard : Diagram
  pub kind : ImageOpKind
  pub at : Span

-- guarded operations with what they stand among
pub record Guards : Type 0 where
  -- how many signals there are
  pub signals : ℕ
  -- the signals that are conditions; a proposal has their truths in this order
  pub conditions : List SigId
  -- what each memory has at first
  pub inits : List ℤ
  pub ops : List Guarded

-- ---- those of an image

abbrev reference : ℕ → Ref
reference n = record { number = n }

-- a node of an image, as one of a store of diagrams: child n + 2 is node n in both
abbrev pub node_in : ImageNode → Node
node_in node = record { variable = node.variable; low = reference node.low; high = reference node.high }

abbrev pub nodes_in : List ImageNode → List Node
nodes_in nodes = map node_in nodes

abbrev pub guarded_in : List ImageNode → ImageOp → Guarded
guarded_in nodes op = record {
  guard = diagram (nodes_in nodes) (reference op.guard);
  kind = op.kind;
  at = op.at;
}

abbrev pub guards_of : ImageView → Guards
guards_of image = record {
  signals = length image.signals;
  conditions = image.conditions;
  inits = map (λ memory. memory.init) image.memories;
  ops = map (guarded_in image.nodes) image.ops;
}

-- ---- what an operation reads and writes

-- it reads the signal
abbrev pub Reads : ImageOpKind → SigId → Type 0
Reads (does.Fun y op operands) x = Contains operands (Sig x)
Reads (does.Copy y source) x = x ≡ source
Reads (does.Store memory source) x = x ≡ source
Reads other x = ⊥

-- it writes the signal
abbrev pub Writes : ImageOpKind → SigId → Type 0
Writes (does.Read input) x = x ≡ input
Writes (does.Fun y op operands) x = x ≡ y
Writes (does.Copy y source) x = x ≡ y
Writes (does.Const y value) x = x ≡ y
Writes (does.DelayRead y memory) x = x ≡ y
Writes (does.Store memory source) x = ⊥

-- ---- soundness

-- an operation before this one whose guard is true writes the signal
pub record IsWrittenBefore (ops : List Guarded) (n : ℕ) (proposal : List Bool) (x : SigId) : Type 0 where
  pub earlier : ℕ
  pub before : earlier < n
  pub op : Guarded
  pub is : slice_get ops earlier ≡ Some op
  pub holds : value_at op.guard proposal ≡ true
  pub writes : Writes op.kind x

-- Operation n is sound: wherever its guard is true, what it reads was written, and what it writes was not; and whatever its
-- guard is, each condition that the walk of the guard asks was written.
pub record IsSoundOperation (guards : Guards) (n : ℕ) (op : Guarded) : Type 0 where
  pub reads : (proposal : List Bool) (x : SigId) → value_at op.guard proposal ≡ true → Reads op.kind x → IsWrittenBefore guards.ops n proposal x
  pub writes : (proposal : List Bool) (x : SigId) → value_at op.guard proposal ≡ true → Writes op.kind x → IsWrittenBefore guards.ops n proposal x → ⊥
  pub asks : (proposal : List Bool) (place : ℕ) (x : SigId) → Asks op.guard proposal place → slice_get guards.conditions place ≡ Some x
      → IsWrittenBefore guards.ops n proposal x

-- all operations are sound
abbrev pub IsSound : Guards → Type 0
IsSound guards = (n : ℕ) (op : Guarded) → slice_get guards.ops n ≡ Some op → IsSoundOperation guards n op

-- A sound image.
abbrev pub IsSoundImage : ImageView → Type 0
IsSoundImage image = IsSound (guards_of image)

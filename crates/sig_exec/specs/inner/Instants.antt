-- An instant of an image, amid its operations.
use Rattle.std.specs.Prelude.{◌≡◌, ◌≤◌, ◌+◌}
use Rattle.sig_exec.specs.Prelude.{ℕ, ℤ, length, slice_get, take, Some, SigId, seen_at, Does, Ends, HandlesAll, ImageCause, ImageOp, ImageSignal, ImageView, Ref, State, guards_of, Signal, longest_lines, proposal_of}
use Rattle.sig_exec.specs.declared.putting.Outputs.{Outputs}
use Rattle.sig_file.specs.Guarded.{IsWrittenBefore}

-- A state may stand before operation n of an instant of an image: what earlier operations wrote is there.
pub record IsAmid (image : ImageView) (n : ℕ) (s : State) : Type 0 where
  pub registers : length s.registers ≡ length image.signals
  pub memories : length s.memories ≡ length image.memories
  pub flows : length s.flows ≡ image.inputs
  pub written : (x : SigId) → IsWrittenBefore (guards_of image).ops n (proposal_of image.conditions s.registers) x
      → (v : ℤ) × (seen_at s.registers x.0 ≡ Some v)

-- the reference of this number
abbrev pub reference : ℕ → Ref
reference n = record { number = n }

-- the first n operations lead from one state to another
abbrev pub HandlesFirst : ImageView → ℕ → State → State → Type 0
HandlesFirst image n s t = HandlesAll (guards_of image) (take n (guards_of image).ops) s t

-- all operations do
abbrev pub HandlesEach : ImageView → State → State → Type 0
HandlesEach image s t = HandlesAll (guards_of image) (guards_of image).ops s t

-- operation n leads from one state to another, or ends the run
abbrev pub DoesAt : ImageView → ℕ → State → State → Type 0
DoesAt image n s t = (op : ImageOp) → slice_get image.ops n ≡ Some op → Does op.kind s t

abbrev pub EndsAt : ImageView → ℕ → State → ImageCause → Type 0
EndsAt image n s cause = (op : ImageOp) → slice_get image.ops n ≡ Some op → Ends op.kind op.at s cause

-- ---- outputs

-- a signal of a program has the name and the kind of one of an image
pub record IsOutput (signal : ImageSignal) (output : Signal) : Type 0 where
  pub name : output.name ≡ signal.name
  pub kind : output.kind ≡ signal.kind

-- The outputs of an image, in their order, and room for their lines.
pub record AreOutputs (image : ImageView) (outputs : Outputs) : Type 0 where
  pub count : length outputs.signals.items ≡ image.outputs
  pub each : (place : ℕ) (output : Signal) → slice_get outputs.signals.items place ≡ Some output
      → (signal : ImageSignal) → slice_get image.signals (image.inputs + place) ≡ Some signal → IsOutput signal output
  pub room : longest_lines outputs.signals.items ≤ outputs.lines.size

-- The form of an image in which a machine runs it. The cells are those of the signals, then those of the memories, then
-- constants.
use Rattle.std.specs.Prelude.{◌≡◌, ◌<◌, ◌≤◌, ◌+◌, ◌++◌, ◌∷◌}
use Rattle.sig_exec.specs.Prelude.{ℕ, ℤ, pos, List, [], length, map, replicate, slice_get, Some, FunOp, Operand, Sig, Const, ImageView, ImageOp, ImageOpKind, Ref}
pub use Rattle.sig_cells.specs.Instructions.{cell}
use Rattle.sig_cells.specs.Codes.{IsCode, guards_in, instructions_in, scope_in}
use Rattle.sig_cells.specs.Guards.{scope_of}
use Rattle.sig_cells.specs.declared.instruction.Instruction.{Instruction}
use Rattle.sig_cells.specs.declared.instruction.Work.{Work}
use Rattle.sig_cells.specs.declared.instruction.Work.TheVariants.{Next, Copy, One, Two}
use Rattle.sig_exec.specs.inner.Functions.{AreFunctions}
use Rattle.sig_exec.specs.declared.functions.Functions.{Functions}
use Rattle.sig_exec.specs.declared.lowered.ImageInstructions.{ImageInstructions}
use Rattle.sig_file.specs.declared.images.ImageOpKind.TheVariants as does

-- cells were added
abbrev pub Grows : List ℤ → List ℤ → Type 0
Grows old new = (more : List ℤ) × (new ≡ old ++ more)

-- how many cells signals and memories have; constants stand behind them
abbrev pub bound_of : ImageView → ℕ
bound_of image = length image.signals + length image.memories

-- what each memory has at first
abbrev pub inits_of : ImageView → List ℤ
inits_of image = map (λ memory. memory.init) image.memories

-- the cell of a constant
abbrev pub IsConstant : ℕ → List ℤ → ℤ → ℕ → Type 0
IsConstant bound cells value number = (bound ≤ number) × (number < length cells) × (cell cells number ≡ value)

-- the cell of an operand: of a signal its own, of a constant one that holds it
abbrev pub IsCellOf : ℕ → List ℤ → Operand → ℕ → Type 0
IsCellOf bound cells (Sig x) number = number ≡ x.0
IsCellOf bound cells (Const value) number = IsConstant bound cells value number

-- a work is a function of the cells of its operands
abbrev pub IsFunctionWork : ℕ → List ℤ → FunOp → List Operand → Work → Type 0
IsFunctionWork bound cells op (a ∷ []) work = (m : ℕ) × IsCellOf bound cells a m × (work ≡ One op m)
IsFunctionWork bound cells op (a ∷ b ∷ []) work = (m : ℕ) × (n : ℕ) × IsCellOf bound cells a m × IsCellOf bound cells b n × (work ≡ Two op m n)
IsFunctionWork bound cells op operands work = ⊥

-- a work gives the value of an operation
abbrev pub IsWorkOf : ImageView → List ℤ → ImageOpKind → Work → Type 0
IsWorkOf image cells (does.Read x) work = work ≡ Next x.0
IsWorkOf image cells (does.Fun y op operands) work = IsFunctionWork (bound_of image) cells op operands work
IsWorkOf image cells (does.Copy y x) work = work ≡ Copy x.0
IsWorkOf image cells (does.Const y value) work = (n : ℕ) × IsConstant (bound_of image) cells value n × (work ≡ Copy n)
IsWorkOf image cells (does.DelayRead y memory) work = work ≡ Copy (length image.signals + memory)
IsWorkOf image cells (does.Store memory x) work = work ≡ Copy x.0

-- the cell that an operation writes
abbrev pub target_of : ImageView → ImageOpKind → ℕ
target_of image (does.Read x) = x.0
target_of image (does.Fun y op operands) = y.0
target_of image (does.Copy y x) = y.0
target_of image (does.Const y value) = y.0
target_of image (does.DelayRead y memory) = y.0
target_of image (does.Store memory x) = length image.signals + memory

-- an instruction is for an operation
pub record IsFor (image : ImageView) (cells : List ℤ) (op : ImageOp) (instruction : Instruction) : Type 0 where
  pub work : IsWorkOf image cells op.kind instruction.work
  pub target : instruction.target ≡ target_of image op.kind

-- Instructions are for the operations, in their order.
pub record AreFor (image : ImageView) (cells : List ℤ) (instructions : List Instruction) : Type 0 where
  pub count : length instructions ≡ length image.ops
  pub each : (place : ℕ) (instruction : Instruction) (op : ImageOp) → slice_get instructions place ≡ Some instruction → slice_get image.ops place ≡ Some op
      → IsFor image cells op instruction

-- Guards are the functions of those of the operations, in their order.
pub record AreGuardsOf (image : ImageView) (functions : Functions) (guards : List Ref) : Type 0 where
  pub count : length guards ≡ length image.ops
  pub each : (place : ℕ) (guard : Ref) (op : ImageOp) → slice_get guards place ≡ Some guard → slice_get image.ops place ≡ Some op
      → slice_get functions.refs.items op.guard ≡ Some guard

-- the cells begin with those of signals and memories
abbrev pub BeginWith : ImageView → List ℤ → Type 0
BeginWith image cells = Grows (replicate (length image.signals) (pos 0) ++ inits_of image) cells

-- The instructions of an image.
pub record Lowers (image : ImageView) (lowered : ImageInstructions) : Type 0 where
  pub opening : BeginWith image lowered.cells.items
  pub functions : AreFunctions image lowered.functions
  pub instructions : AreFor image lowered.cells.items (instructions_in lowered.code)
  pub guards : AreGuardsOf image lowered.functions (guards_in lowered.code)
  pub asks : scope_in lowered.functions.store.nodes lowered.code ≡ scope_of lowered.functions.store.nodes image.conditions (length image.signals)
  pub code : IsCode lowered.functions.store.nodes image.inputs (length lowered.cells.items) lowered.code

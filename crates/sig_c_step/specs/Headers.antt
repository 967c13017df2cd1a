-- What the header of an image says, stated apart from how it is made.
use Rattle.std.specs.Prelude.{◌≡◌, ◌<◌, ◌+◌, ℕ, List, map, slice_get, Option, None, Some}
use Rattle.sig_base.specs.declared.ids.Kind.{Kind}
use Rattle.sig_base.specs.declared.ids.Kind.TheVariants.{Integer, Boolean, Event}
use Rattle.sig_file.specs.Images.{ImageView}
use Rattle.sig_file.specs.declared.images.ImageMemory.{ImageMemory}
use Rattle.sig_file.specs.declared.images.ImageSignal.{ImageSignal}
use Rattle.sig_c.specs.SmallC.{Width, Truth, Wide, FieldOfState, Prototype, Header, Done, EndRow}
use Rattle.sig_c_step.specs.Names.{Names}

-- an integer is an int64_t, a boolean an int that is a truth
abbrev pub HasType : Kind → Width → Type 0
HasType Integer width = width ≡ Wide
HasType Boolean width = width ≡ Truth
HasType Event width = ⊥

-- the function of an event takes no value
abbrev pub Takes : Kind → Option Width → Type 0
Takes Event takes = takes ≡ None
Takes kind None = ⊥
Takes kind (Some width) = HasType kind width

-- the function at a place takes a value of the signal
pub record IsFunctionOf (prototypes : List Prototype) (place : ℕ) (signal : ImageSignal) : Type 0 where
  pub prototype : Prototype
  pub at : slice_get prototypes place ≡ Some prototype
  pub takes : Takes signal.kind prototype.takes

pub record IsFieldOf (fields : List FieldOfState) (place : ℕ) (memory : ImageMemory) : Type 0 where
  pub field : FieldOfState
  pub at : slice_get fields place ≡ Some field
  pub type : HasType memory.kind field.width

-- A header is that of an image, with these names: functions of inputs, functions of outputs, and fields for the memories, each in the
-- image's order.
pub record IsHeaderOf (image : ImageView) (names : Names) (header : Header) : Type 0 where
  pub prefix : header.prefix ≡ names.prefix
  pub input_names : map (λ prototype. prototype.name) header.inputs ≡ names.inputs
  pub output_names : map (λ prototype. prototype.name) header.outputs ≡ names.outputs
  pub field_names : map (λ field. field.name) header.fields ≡ names.fields
  pub inputs : (x : ℕ) (signal : ImageSignal) → x < image.inputs → slice_get image.signals x ≡ Some signal → IsFunctionOf header.inputs x signal
  pub outputs : (y : ℕ) (signal : ImageSignal) → y < image.outputs → slice_get image.signals (image.inputs + y) ≡ Some signal → IsFunctionOf header.outputs y signal
  pub fields : (n : ℕ) (memory : ImageMemory) → slice_get image.memories n ≡ Some memory → IsFieldOf header.fields n memory

-- row 0 of the table of ends: a step that is done
pub record IsDone (row : EndRow) : Type 0 where
  pub cause : row.cause ≡ Done
  pub line : row.line ≡ 0
  pub column : row.column ≡ 0

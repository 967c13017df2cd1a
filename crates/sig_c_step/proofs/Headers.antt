-- The header of an image says what it has.
use Rattle.std.proofs.Common.{◌≡◌, ℕ, List, [], ◌∷◌, Some, refl, sym, ap, subst, arith, IsTrue, length, map, slice_get}
use Rattle.sig_base.specs.declared.ids.Kind.{Kind}
use Rattle.sig_base.specs.declared.ids.Kind.TheVariants.{Integer, Boolean, Event}
use Rattle.sig_file.specs.Images.{ImageView, IsImage, IsMemory, is_memory_kind, kind_in, memory_in}
use Rattle.sig_file.specs.declared.images.ImageMemory.{ImageMemory}
use Rattle.sig_file.specs.declared.images.ImageSignal.{ImageSignal}
use Rattle.sig_exec.proofs.Common.{each_at}
use Rattle.sig_exec.proofs.KeptKinds.{no}
use Rattle.sig_c.specs.SmallC.{Name, EndRow, FieldOfState, Prototype}
use Rattle.sig_c_step.specs.Headers.{HasType, IsDone, IsFunctionOf, IsHeaderOf, Takes}
use Rattle.sig_c_step.specs.Names.{AreNames, Names}
use Rattle.sig_c_step.specs.Translation.{done_row, ends_of, fields_of, header_of, taken, width_of_kind}
use Rattle.sig_c_step.proofs.Operations.{HasPrototype}
use Rattle.sig_c_step.proofs.Variables.{field_at, input_names, input_prototype, output_names, output_prototype}

takes_is : (kind : Kind) → Takes kind (taken kind)
takes_is Integer = refl
takes_is Boolean = refl
takes_is Event = refl

function_is : (prototypes : List Prototype) (n : ℕ) (signal : ImageSignal) → HasPrototype prototypes n signal.kind → IsFunctionOf prototypes n signal
function_is prototypes n signal has = record { prototype = has.prototype; at = has.at; takes = subst (Takes signal.kind) (sym has.takes) (takes_is signal.kind) }

field_names : (memories : List ImageMemory) (names : List Name) → length names ≡ length memories → map (λ (field : FieldOfState). field.name) (fields_of memories names) ≡ names
field_names [] [] count = refl
field_names [] (name ∷ names) count = absurd (omega (arith, count))
field_names (memory ∷ memories) [] count = absurd (omega (arith, count))
field_names (memory ∷ memories) (name ∷ names) count = ap (λ (l : List Name). name ∷ l) (field_names memories names (omega (arith, count)))

kept_type : (kind : Kind) → IsTrue (is_memory_kind kind) → HasType kind (width_of_kind kind)
kept_type Integer kept = refl
kept_type Boolean kept = refl
kept_type Event kept = no kept

pub header_is : (image : ImageView) (names : Names) → IsImage image → AreNames image names → IsHeaderOf image names (header_of image names)
header_is image names right are = record {
  prefix = refl;
  input_names = input_names image right names are;
  output_names = output_names image right names are;
  field_names = field_names image.memories names.fields are.fields;
  inputs = λ x signal inside at. function_is (header_of image names).inputs x signal (input_prototype image right names are x signal.kind inside (ap kind_in at));
  outputs = λ y signal inside at. function_is (header_of image names).outputs y signal (output_prototype image right names are y signal.kind inside (ap kind_in at));
  fields = λ n memory at.
      let (field, is, width) = field_at image.memories names.fields n memory.kind are.fields (ap memory_in at) in
      record { field = field; at = is; type = subst (HasType memory.kind) (sym width) (kept_type memory.kind (each_at (λ before. IsMemory) [] image.memories n memory right.memories at).kept) };
}

pub done_first : (image : ImageView) → (row : EndRow) × (slice_get (ends_of image) 0 ≡ Some row) × IsDone row
done_first image = (done_row, refl, record { cause = refl; line = refl; column = refl })

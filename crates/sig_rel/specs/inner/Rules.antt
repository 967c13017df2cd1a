-- What decides the clock classes and the booleans of a kernel, as tables of equations, and what they come to.
use Rattle.std.specs.Prelude.{◌≡◌, ◌&&◌, ◌||◌, if◌then◌else◌}
use Rattle.sig_rel.specs.Prelude.{ℕ, Bool, true, false, List, length, Option, None, Some, slice_index, slice_get, Contains, int_eq, pos, SigId, Signal, kind_at, defines, Equation, Form, Fun, Delay, When, WhenConst, Default, Sync, Event, Operand, Sig, Const, Kernel, is_condition, Status, constant_truth, AreLeast, truth_of}
use Rattle.sig_rel.specs.Relations.{is_boolean}
use Rattle.sig_rel.specs.Triangles.{HasClasses, HasOperandOf, HasTruths, IsClass, IsCounted, form_at, operand_signals, tested}
use Rattle.sig_rel.specs.inner.TruthFunctions.{truth_given}
use Rattle.sig_rel.specs.declared.elements.Element.{Element}
use Rattle.sig_rel.specs.declared.elements.Element.TheVariants.{Presence, Truth}

-- The tables give to each signal the least signal of its class, to each class the equation that is counted for it, and
-- to each boolean that is no condition the equation that defines it.
pub record AreRules (kernel : Kernel) (least : List ℕ) (counted defined : List (Option ℕ)) : Type 0 where
  pub are_least : AreLeast kernel least
  pub countings : length counted ≡ length kernel.signals
  pub definitions : length defined ≡ length kernel.signals
  pub is_counted : (class number : ℕ) → slice_get counted class ≡ Some (Some number)
      → (form : Form) × IsCounted kernel least class number form × (HasOperandOf least class form → ⊥)
  pub all_counted : (class number : ℕ) (form : Form) → IsClass kernel least class → IsCounted kernel least class number form
      → (HasOperandOf least class form → ⊥) → slice_get counted class ≡ Some (Some number)
  pub is_defined : (signal number : ℕ) → slice_get defined signal ≡ Some (Some number)
      → (equation : Equation) × (slice_get kernel.equations number ≡ Some equation) × (defines signal equation ≡ true)
      × (is_boolean kernel signal ≡ true) × (is_condition kernel signal ≡ false)
  pub all_defined : (signal : ℕ) → is_boolean kernel signal ≡ true → is_condition kernel signal ≡ false
      → (number : ℕ) × (slice_get defined signal ≡ Some (Some number))

-- a class may stand behind some elements, by the table of counted equations
pub record EntersAfter (kernel : Kernel) (least : List ℕ) (counted : List (Option ℕ)) (before : List Element) (class : ℕ) : Type 0 where
  pub number : ℕ
  pub form : Form
  pub is_counted : slice_get counted class ≡ Some (Some number)
  pub at : form_at kernel number ≡ Some form
  pub classes : HasClasses least before (operand_signals form)
  pub tests : HasTruths kernel before (tested form)

-- a boolean may stand behind some elements, by the table of defining equations
pub record HoldsAfter (kernel : Kernel) (least : List ℕ) (defined : List (Option ℕ)) (before : List Element) (signal : ℕ) : Type 0 where
  pub boolean : is_boolean kernel signal ≡ true
  pub class : Contains before (Presence (slice_index least signal))
  pub classes : (number : ℕ) (form : Form) → slice_get defined signal ≡ Some (Some number) → form_at kernel number ≡ Some form
      → HasClasses least before (operand_signals form)
  pub truths : (number : ℕ) (form : Form) → slice_get defined signal ≡ Some (Some number) → form_at kernel number ≡ Some form
      → HasTruths kernel before (operand_signals form)

abbrev pub StandsAfter : Kernel → List ℕ → List (Option ℕ) → List (Option ℕ) → List Element → Element → Type 0
StandsAfter kernel least counted defined before (Presence class) = EntersAfter kernel least counted before class
StandsAfter kernel least counted defined before (Truth signal) = HoldsAfter kernel least defined before signal

-- what the clocks are at some truths: the presence of each class, by its least signal, and the truth of each signal
pub record Values : Type 0 where
  pub present : ℕ → Bool
  pub truth : ℕ → Bool

abbrev pub has : List ℕ → Values → ℕ → Bool
has least values signal = values.present (slice_index least signal)

abbrev pub value_status : List ℕ → Values → ℕ → Status
value_status least values signal = if has least values signal then Some (values.truth signal) else None

abbrev pub operand_value : Values → Operand → Bool
operand_value values (Sig x) = values.truth x.0
operand_value values (Const constant) = int_eq constant (pos 1)

-- the presence that an equation of this form gives
abbrev pub presence_by : List ℕ → Values → Form → Bool
presence_by least values (When y x b) = (has least values b.0 && values.truth b.0) && has least values x.0
presence_by least values (WhenConst y constant b) = has least values b.0 && values.truth b.0
presence_by least values (Default y u v) = has least values u.0 || has least values v.0
presence_by least values _ = true

-- the truth that an equation of this form gives, if it gives one
abbrev pub truth_by_form : List Signal → List ℕ → Values → Form → Option Bool
truth_by_form signals least values (Fun y op operands) = truth_given signals op operands (operand_value values)
truth_by_form signals least values (Delay y x initial) = None
truth_by_form signals least values (When y x b) = Some (values.truth x.0)
truth_by_form signals least values (WhenConst y constant b) = Some (constant_truth (kind_at signals y) constant)
truth_by_form signals least values (Default y u v) = Some (if has least values u.0 then values.truth u.0 else values.truth v.0)
truth_by_form signals least values (Sync x y) = None
truth_by_form signals least values (Event y x) = Some true

-- The values keep to the tables, where the truths are proposals of the conditions.
pub record AreValues (kernel : Kernel) (least : List ℕ) (counted defined : List (Option ℕ)) (conditions : List SigId) (top : ℕ) (proposal : List Bool) (values : Values) : Type 0 where
  pub highest : values.present top ≡ true
  pub classes : (class number : ℕ) (form : Form) → slice_get counted class ≡ Some (Some number) → form_at kernel number ≡ Some form
      → values.present class ≡ presence_by least values form
  pub proposals : (i : ℕ) (condition : SigId) → slice_get conditions i ≡ Some condition → values.truth condition.0 ≡ truth_of proposal i
  pub truths : (signal number : ℕ) (form : Form) (b : Bool) → slice_get defined signal ≡ Some (Some number) → form_at kernel number ≡ Some form
      → truth_by_form kernel.signals least values form ≡ Some b → values.truth signal ≡ b
  -- only booleans may be false
  pub plain : (signal : ℕ) → is_boolean kernel signal ≡ false → values.truth signal ≡ true

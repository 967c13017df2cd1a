-- Triangular kernels: their clock classes and their booleans can be put into one list in which each stands
-- behind what decides it.
use Rattle.std.specs.Prelude.{◌≡◌, ◌<◌, ◌⊎◌, ◌↔◌, ◌∷◌}
use Rattle.sig_rel.specs.Prelude.{ℕ, true, false, List, [], length, take, Option, Some, option_map, slice_index, slice_get, Contains, operands_of, defines, Equation, Form, When, WhenConst, Default, Kernel, is_condition, AreLeast, signals_among}
use Rattle.sig_rel.specs.Relations.{is_boolean}
use Rattle.sig_rel.specs.declared.elements.Element.{Element}
use Rattle.sig_rel.specs.declared.elements.Element.TheVariants.{Presence, Truth}

abbrev pub form_at : Kernel → ℕ → Option Form
form_at kernel number = option_map (λ equation. equation.form) (slice_get kernel.equations number)

-- the signals among a form's operands
abbrev pub operand_signals : Form → List ℕ
operand_signals form = signals_among (operands_of form)

-- the signal that a When or WhenConst looks at the truth of
abbrev pub tested : Form → List ℕ
tested (When y x b) = b.0 ∷ []
tested (WhenConst y constant b) = b.0 ∷ []
tested _ = []

-- a number is one of two
abbrev pub IsEither : ℕ → ℕ → ℕ → Type 0
IsEither number first second = (number ≡ first) ⊎ (number ≡ second)

-- a clock class is named by its least signal; the list gives it for each signal
abbrev pub IsClass : Kernel → List ℕ → ℕ → Type 0
IsClass kernel least class = (class < length kernel.signals) × (slice_index least class ≡ class)

-- a When, WhenConst or Default that defines a signal of the class
abbrev pub Governs : List ℕ → ℕ → Form → Type 0
Governs least class (When y x b) = slice_index least y.0 ≡ class
Governs least class (WhenConst y constant b) = slice_index least y.0 ≡ class
Governs least class (Default y u v) = slice_index least y.0 ≡ class
Governs least class _ = ⊥

-- a Default that has an operand of the class
abbrev pub HasOperandOf : List ℕ → ℕ → Form → Type 0
HasOperandOf least class (Default y u v) = IsEither class (slice_index least u.0) (slice_index least v.0)
HasOperandOf least class _ = ⊥

-- the top: no When or WhenConst defines a signal of it, and each Default that does has an operand of it
abbrev pub IsTop : Kernel → List ℕ → ℕ → Type 0
IsTop kernel least class = (number : ℕ) (form : Form) → form_at kernel number ≡ Some form → Governs least class form → HasOperandOf least class form

-- One operand of a Default is of the class that it defines a signal of, and the other one of the class of an operand of
-- the class's counted equation, a Default too. The kernel form of cell has such a Default.
abbrev pub Repeats : List ℕ → ℕ → Form → Form → Type 0
Repeats least class counted (Default y u v) =
    ((slice_index least u.0 ≡ class) × HasOperandOf least (slice_index least v.0) counted)
    ⊎ ((slice_index least v.0 ≡ class) × HasOperandOf least (slice_index least u.0) counted)
Repeats least class counted _ = ⊥

-- the one counted equation of a class: each other When, WhenConst or Default that defines a signal of the class repeats it
pub record IsCounted (kernel : Kernel) (least : List ℕ) (class number : ℕ) (form : Form) : Type 0 where
  pub at : form_at kernel number ≡ Some form
  pub governs : Governs least class form
  pub others : (other : ℕ) (repeating : Form) → form_at kernel other ≡ Some repeating → Governs least class repeating
      → (other ≡ number) ⊎ Repeats least class form repeating

-- the classes of these signals are among some elements
abbrev pub HasClasses : List ℕ → List Element → List ℕ → Type 0
HasClasses least before signals = (x : ℕ) → Contains signals x → Contains before (Presence (slice_index least x))

-- those of these signals that are booleans and not events are among some elements
abbrev pub HasTruths : Kernel → List Element → List ℕ → Type 0
HasTruths kernel before signals = (x : ℕ) → Contains signals x → is_boolean kernel x ≡ true → Contains before (Truth x)

-- a class may stand behind some elements: the classes of its counted equation's operands, and the boolean that it tests
pub record MayEnter (kernel : Kernel) (least : List ℕ) (before : List Element) (class : ℕ) : Type 0 where
  pub number : ℕ
  pub form : Form
  pub counted : IsCounted kernel least class number form
  pub classes : HasClasses least before (operand_signals form)
  pub tests : HasTruths kernel before (tested form)

-- A boolean may stand behind some elements: its class, and where it is no condition, the classes and the booleans of
-- the operands of the equation that defines it.
pub record MayHold (kernel : Kernel) (least : List ℕ) (before : List Element) (signal : ℕ) : Type 0 where
  pub class : Contains before (Presence (slice_index least signal))
  pub classes : is_condition kernel signal ≡ false → (equation : Equation) → Contains kernel.equations equation → defines signal equation ≡ true
      → HasClasses least before (operand_signals equation.form)
  pub truths : is_condition kernel signal ≡ false → (equation : Equation) → Contains kernel.equations equation → defines signal equation ≡ true
      → HasTruths kernel before (operand_signals equation.form)

abbrev pub MayStand : Kernel → List ℕ → List Element → Element → Type 0
MayStand kernel least before (Presence class) = MayEnter kernel least before class
MayStand kernel least before (Truth signal) = MayHold kernel least before signal

-- a list of all classes and of all booleans that are not events, each once: the top, and then each behind what decides it
pub record IsTriangle (kernel : Kernel) (least : List ℕ) (list : List Element) : Type 0 where
  pub classes : (class : ℕ) → Contains list (Presence class) ↔ IsClass kernel least class
  pub truths : (signal : ℕ) → Contains list (Truth signal) ↔ (is_boolean kernel signal ≡ true)
  pub once : (i j : ℕ) (element : Element) → slice_get list i ≡ Some element → slice_get list j ≡ Some element → i ≡ j
  pub top : ℕ
  pub first : slice_get list 0 ≡ Some (Presence top)
  pub is_top : IsTop kernel least top
  pub order : (k : ℕ) (element : Element) → 0 < k → slice_get list k ≡ Some element → MayStand kernel least (take k list) element

abbrev pub IsTriangular : Kernel → Type 0
IsTriangular kernel = (least : List ℕ) × AreLeast kernel least × ((list : List Element) × IsTriangle kernel least list)

-- the classes of a list, in order
abbrev pub classes_among : List Element → List ℕ
classes_among [] = []
classes_among (Presence class ∷ list) = class ∷ classes_among list
classes_among (Truth signal ∷ list) = classes_among list

-- the classes, in order, of a list that shows that a kernel is triangular
abbrev pub AreClassesInOrder : Kernel → List ℕ → Type 0
AreClassesInOrder kernel classes = (least : List ℕ) × AreLeast kernel least × ((list : List Element) × IsTriangle kernel least list × (classes ≡ classes_among list))

-- The order in which the clocks of a kernel are written: each behind what its equation reads, where one writes it, and
-- by a variable of its own where none does. Where everything waits for itself, something is cut: it gets a variable too.
use Rattle.std.specs.Prelude.{◌≡◌, ◌<◌, ◌++◌, ◌∷◌}
use Rattle.sig_rel.specs.Prelude.{ℕ, Bool, true, false, List, [], length, take, Option, None, Some, slice_index_or, slice_get, slice_set, MatchOption, Contains, defines, Equation, Form, Kernel, is_condition, AreLeast}
use Rattle.sig_rel.specs.inner.Elements.{entry_of, truths_read}
use Rattle.sig_rel.specs.Relations.{is_boolean}
use Rattle.sig_rel.specs.inner.Tables.{AreMarks, IsFreshWithin, is_left, with_class, with_truth_of}
use Rattle.sig_rel.specs.Triangles.{Governs, HasClasses, HasTruths, IsClass, form_at, operand_signals, tested}
use Rattle.sig_rel.specs.declared.elements.Element.{Element}
use Rattle.sig_rel.specs.declared.elements.Element.TheVariants.{Presence, Truth}
use Rattle.sig_rel.specs.declared.elements.Step.{Step}
use Rattle.sig_rel.specs.declared.rules.Rules.{Rules}
use Rattle.sig_rel.specs.declared.schedules.Schedule.{Schedule}
use Rattle.sig_rel.specs.declared.schedules.Scheduling.{Scheduling}

-- The tables name equations: a When, WhenConst or Default for a class that defines a signal of it, and for a boolean that
-- is no condition the equation that defines it.
pub record AreNamed (kernel : Kernel) (rules : Rules) : Type 0 where
  pub are_least : AreLeast kernel rules.least.items
  pub countings : length rules.counted.items ≡ length kernel.signals
  pub definitions : length rules.defined.items ≡ length kernel.signals
  pub presence : (class number : ℕ) → slice_get rules.counted.items class ≡ Some (Some number)
      → (form : Form) × (form_at kernel number ≡ Some form) × Governs rules.least.items class form
  pub truth : (signal number : ℕ) → slice_get rules.defined.items signal ≡ Some (Some number)
      → (equation : Equation) × (slice_get kernel.equations number ≡ Some equation) × (defines signal equation ≡ true)
      × (is_boolean kernel signal ≡ true) × (is_condition kernel signal ≡ false)

-- what the equation of an element reads is among the elements before it; a cut reads nothing
abbrev pub ReadsBefore : Kernel → Rules → List Element → Element → Type 0
ReadsBefore kernel rules before element = (number : ℕ) (form : Form) → entry_of rules element ≡ Some (Some number) → form_at kernel number ≡ Some form
    → HasClasses rules.least.items before (operand_signals form) × HasTruths kernel before (truths_read form element)

-- each element of a list once, and each behind what its equation reads
pub record IsOrderOfWriting (kernel : Kernel) (rules : Rules) (list : List Element) : Type 0 where
  pub named : AreNamed kernel rules
  pub classes : (class : ℕ) → Contains list (Presence class) → IsClass kernel rules.least.items class
  pub truths : (signal : ℕ) → Contains list (Truth signal) → is_boolean kernel signal ≡ true
  pub once : (i j : ℕ) (element : Element) → slice_get list i ≡ Some element → slice_get list j ≡ Some element → i ≡ j
  pub order : (k : ℕ) (element : Element) → slice_get list k ≡ Some element → ReadsBefore kernel rules (take k list) element

-- an order of writing that has all classes and all booleans
pub record IsSchedule (kernel : Kernel) (schedule : Schedule) : Type 0 where
  pub order : IsOrderOfWriting kernel schedule.rules schedule.list.items
  pub all_classes : (class : ℕ) → IsClass kernel schedule.rules.least.items class → Contains schedule.list.items (Presence class)
  pub all_truths : (signal : ℕ) → is_boolean kernel signal ≡ true → Contains schedule.list.items (Truth signal)

-- what was scheduled so far
pub record IsScheduling (kernel : Kernel) (scheduling : Scheduling) : Type 0 where
  pub order : IsOrderOfWriting kernel scheduling.rules scheduling.placed.list.items
  pub marks : AreMarks (length kernel.signals) scheduling.placed

-- nothing is left
pub record IsWhole (kernel : Kernel) (scheduling : Scheduling) : Type 0 where
  pub classes : (class : ℕ) → IsClass kernel scheduling.rules.least.items class → Contains scheduling.placed.list.items (Presence class)
  pub truths : (signal : ℕ) → is_boolean kernel signal ≡ true → Contains scheduling.placed.list.items (Truth signal)

-- ---- what is left

-- an element of one kind is left: a boolean of a class that was scheduled, or a class
abbrev pub is_waiting : Kernel → Scheduling → Bool → ℕ → Bool
is_waiting kernel scheduling true signal = is_left kernel scheduling.rules.least.items scheduling.placed (Truth signal)
is_waiting kernel scheduling false class = is_left kernel scheduling.rules.least.items scheduling.placed (Presence class)

-- one of the signals is such a one, where one was found; else none is
abbrev pub IsFoundAmong : Kernel → (ℕ → Bool) → Option ℕ → Type 0
IsFoundAmong kernel is_such found = MatchOption found ((signal : ℕ) → signal < length kernel.signals → is_such signal ≡ false) (λ signal. (signal < length kernel.signals) × (is_such signal ≡ true))

-- ---- steps

-- the equation of a step, if it has one, gives the element what it is from elements that were scheduled
abbrev pub IsStepBy : Kernel → Rules → List Element → Element → Option ℕ → Type 0
IsStepBy kernel rules before (Presence class) None = IsClass kernel rules.least.items class
IsStepBy kernel rules before (Presence class) (Some number) = IsClass kernel rules.least.items class
    × ((form : Form) × (form_at kernel number ≡ Some form) × Governs rules.least.items class form
    × HasClasses rules.least.items before (operand_signals form) × HasTruths kernel before (tested form))
IsStepBy kernel rules before (Truth signal) None = is_boolean kernel signal ≡ true
IsStepBy kernel rules before (Truth signal) (Some number) = (is_boolean kernel signal ≡ true) × (slice_get rules.defined.items signal ≡ Some (Some number))
    × ((form : Form) → form_at kernel number ≡ Some form → HasClasses rules.least.items before (operand_signals form) × HasTruths kernel before (operand_signals form))

-- a boolean's step is by the equation that the table has for it
abbrev pub IsByTable : Rules → Step → Type 0
IsByTable rules step = (signal : ℕ) → step.element ≡ Truth signal → step.equation ≡ slice_index_or rules.defined.items signal None

-- a step that may be taken next
pub record IsPlannedStep (kernel : Kernel) (scheduling : Scheduling) (step : Step) : Type 0 where
  pub fresh : IsFreshWithin scheduling.placed step.element
  pub by : IsStepBy kernel scheduling.rules scheduling.placed.list.items step.element step.equation

-- the tables and the marks have a place for an element
abbrev pub HasPlace : Scheduling → Element → Type 0
HasPlace scheduling (Presence class) = (class < length scheduling.rules.counted.items) × (class < length scheduling.placed.classes.items)
HasPlace scheduling (Truth signal) = (signal < length scheduling.rules.defined.items) × (signal < length scheduling.placed.truths.items)

abbrev pub with_counted : List (Option ℕ) → Element → Option ℕ → List (Option ℕ)
with_counted counted (Presence class) equation = slice_set counted class equation
with_counted counted (Truth signal) equation = counted

abbrev pub with_defined : List (Option ℕ) → Element → Option ℕ → List (Option ℕ)
with_defined defined (Presence class) equation = defined
with_defined defined (Truth signal) equation = slice_set defined signal equation

-- a step was taken
pub record IsTaken (old new : Scheduling) (step : Step) : Type 0 where
  pub least : new.rules.least ≡ old.rules.least
  pub counted : new.rules.counted.items ≡ with_counted old.rules.counted.items step.element step.equation
  pub defined : new.rules.defined.items ≡ with_defined old.rules.defined.items step.element step.equation
  pub list : new.placed.list.items ≡ old.placed.list.items ++ step.element ∷ []
  pub classes : new.placed.classes.items ≡ with_class old.placed.classes.items step.element
  pub truths : new.placed.truths.items ≡ with_truth_of old.placed.truths.items step.element

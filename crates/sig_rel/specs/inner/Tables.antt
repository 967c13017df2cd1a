-- Tests by which the tables of a triangular kernel are made, and its list is put together.
use Rattle.std.specs.Prelude.{◌≡◌, ◌<◌, ◌↔◌, ◌&&◌, ◌||◌, ◌==◌, ◌+◌, ◌-◌, nat_lt, if◌then◌else◌}
use Rattle.sig_rel.specs.Prelude.{ℕ, Bool, true, false, not, List, length, take, Option, None, Some, slice_index, slice_index_or, slice_get, slice_set, position, count_by, Contains, list_all, list_any, SigId, defines, Equation, Form, Fun, Delay, When, WhenConst, Default, Sync, Event, Operand, Sig, Const, Kernel}
use Rattle.sig_rel.specs.Relations.{is_boolean}
use Rattle.sig_rel.specs.inner.Elements.{signal_of}
use Rattle.sig_rel.specs.inner.Rules.{AreRules, StandsAfter}
use Rattle.sig_rel.specs.Triangles.{IsTop, IsTriangle, form_at}
use Rattle.sig_rel.specs.declared.elements.Element.{Element}
use Rattle.sig_rel.specs.declared.elements.Element.TheVariants.{Presence, Truth}
use Rattle.sig_rel.specs.declared.elements.Step.{Step}
use Rattle.sig_rel.specs.declared.placing.Placed.{Placed}
use Rattle.sig_rel.specs.declared.placing.Triangle.{Triangle}
use Rattle.sig_rel.specs.declared.rules.Rules.{Rules}

-- a Default that has an operand of the class
abbrev pub has_operand_of : List ℕ → ℕ → Form → Bool
has_operand_of least class (Default y u v) = (slice_index least u.0 == class) || (slice_index least v.0 == class)
has_operand_of least class _ = false

-- a When, WhenConst or Default that defines a signal of the class
abbrev pub governs : List ℕ → ℕ → Form → Bool
governs least class (When y x b) = slice_index least y.0 == class
governs least class (WhenConst y constant b) = slice_index least y.0 == class
governs least class (Default y u v) = slice_index least y.0 == class
governs least class _ = false

abbrev pub repeats : List ℕ → ℕ → Form → Form → Bool
repeats least class counted (Default y u v) =
    ((slice_index least u.0 == class) && has_operand_of least (slice_index least v.0) counted)
    || ((slice_index least v.0 == class) && has_operand_of least (slice_index least u.0) counted)
repeats least class counted _ = false

-- the equation gives a class its presence from those of other classes
abbrev pub gives : List ℕ → ℕ → Equation → Bool
gives least class equation = governs least class equation.form && not (has_operand_of least class equation.form)

-- the signal that a form defines
abbrev pub target_number : Form → ℕ
target_number (Fun y op operands) = y.0
target_number (Delay y x initial) = y.0
target_number (When y x b) = y.0
target_number (WhenConst y constant b) = y.0
target_number (Default y u v) = y.0
target_number (Sync x y) = x.0
target_number (Event y x) = y.0

-- The equation defines no signal of the class, or repeats the one that is counted, or is that one: it defines the same signal.
abbrev pub is_excused : List ℕ → ℕ → Form → Equation → Bool
is_excused least class counted equation = not (governs least class equation.form) || (repeats least class counted equation.form || defines (target_number counted) equation)

abbrev pub counted_at : Kernel → List ℕ → ℕ → ℕ → Option Equation → Option ℕ
counted_at kernel least class number None = None
counted_at kernel least class number (Some equation) = if list_all (is_excused least class equation.form) kernel.equations then Some number else None

abbrev pub counted_if : Kernel → List ℕ → ℕ → Option ℕ → Option ℕ
counted_if kernel least class None = None
counted_if kernel least class (Some number) = counted_at kernel least class number (slice_get kernel.equations number)

-- the equation that is counted for a class
abbrev pub counted_for : Kernel → List ℕ → ℕ → Option ℕ
counted_for kernel least class = counted_if kernel least class (position (gives least class) kernel.equations)

abbrev pub is_numbered : ℕ → SigId → Bool
is_numbered signal condition = condition.0 == signal

-- the equation that defines a boolean that is no condition
abbrev pub defined_for : Kernel → List SigId → ℕ → Option ℕ
defined_for kernel conditions signal =
    if is_boolean kernel signal && not (list_any (is_numbered signal) conditions) then position (defines signal) kernel.equations else None

-- the equation is no reason against the class being the top
abbrev pub allows_top : List ℕ → ℕ → Equation → Bool
allows_top least class equation = not (governs least class equation.form) || has_operand_of least class equation.form

abbrev pub is_top_class : Kernel → List ℕ → ℕ → Bool
is_top_class kernel least class = (slice_index least class == class) && list_all (allows_top least class) kernel.equations

-- ---- what was placed

abbrev pub has_class : List ℕ → Placed → ℕ → Bool
has_class least placed x = slice_index_or placed.classes.items (slice_index least x) false

abbrev pub has_truth_of : Kernel → Placed → ℕ → Bool
has_truth_of kernel placed x = not (is_boolean kernel x) || slice_index_or placed.truths.items x false

abbrev pub has_whole : Kernel → List ℕ → Placed → ℕ → Bool
has_whole kernel least placed x = has_class least placed x && has_truth_of kernel placed x

abbrev pub has_operand : Kernel → List ℕ → Placed → Operand → Bool
has_operand kernel least placed (Sig x) = has_whole kernel least placed x.0
has_operand kernel least placed (Const constant) = true

-- what a form gives its signal's class stands behind was placed
abbrev pub presence_ready : Kernel → List ℕ → Placed → Form → Bool
presence_ready kernel least placed (When y x b) = has_class least placed x.0 && has_whole kernel least placed b.0
presence_ready kernel least placed (WhenConst y constant b) = has_whole kernel least placed b.0
presence_ready kernel least placed (Default y u v) = has_class least placed u.0 && has_class least placed v.0
presence_ready kernel least placed _ = true

-- and what it gives its signal's truth stands behind
abbrev pub truth_ready : Kernel → List ℕ → Placed → Form → Bool
truth_ready kernel least placed (Fun y op operands) = list_all (has_operand kernel least placed) operands
truth_ready kernel least placed (Delay y x initial) = has_whole kernel least placed x.0
truth_ready kernel least placed (When y x b) = has_whole kernel least placed x.0 && has_whole kernel least placed b.0
truth_ready kernel least placed (WhenConst y constant b) = has_whole kernel least placed b.0
truth_ready kernel least placed (Default y u v) = has_whole kernel least placed u.0 && has_whole kernel least placed v.0
truth_ready kernel least placed (Sync x y) = has_whole kernel least placed x.0 && has_whole kernel least placed y.0
truth_ready kernel least placed (Event y x) = has_whole kernel least placed x.0

-- ---- steps

-- an element is left: a class that was not placed, at its least signal, or a boolean that was not, of a class that was
abbrev pub is_left : Kernel → List ℕ → Placed → Element → Bool
is_left kernel least placed (Presence class) = (slice_index least class == class) && not (slice_index_or placed.classes.items class false)
is_left kernel least placed (Truth signal) = (is_boolean kernel signal && has_class least placed signal) && not (slice_index_or placed.truths.items signal false)

-- what an equation of this form makes an element of was placed; without one a boolean alone is ready
abbrev pub is_ready : Kernel → List ℕ → Placed → Element → Option Form → Bool
is_ready kernel least placed (Presence class) None = false
is_ready kernel least placed (Presence class) (Some form) = governs least class form && presence_ready kernel least placed form
is_ready kernel least placed (Truth signal) None = true
is_ready kernel least placed (Truth signal) (Some form) = truth_ready kernel least placed form

-- the form of the equation of a number, if there is one
abbrev pub form_by : Kernel → Option ℕ → Option Form
form_by kernel None = None
form_by kernel (Some number) = form_at kernel number

-- a step may be taken next: its element is left, and what its equation makes it of was placed
abbrev pub may_take : Kernel → List ℕ → Placed → Step → Bool
may_take kernel least placed step = is_left kernel least placed step.element && is_ready kernel least placed step.element (form_by kernel step.equation)

-- the equation that the tables have for an element
abbrev pub equation_for : Rules → Element → Option ℕ
equation_for rules (Presence class) = slice_index_or rules.counted.items class None
equation_for rules (Truth signal) = slice_index_or rules.defined.items signal None

-- the step of an element by the tables
abbrev pub step_by : Rules → Element → Step
step_by rules element = record { element = element; equation = equation_for rules element }

-- classes and booleans by number: those of so many signals, the classes first
abbrev pub numbered_element : ℕ → ℕ → Element
numbered_element count place = if nat_lt place count then Presence place else Truth (place - count)

abbrev pub has_both : Kernel → Rules → Placed → ℕ → Bool
has_both kernel rules placed signal = has_whole kernel rules.least.items placed signal

-- ---- what holds of these

abbrev pub AreRulesOf : Kernel → Rules → Type 0
AreRulesOf kernel rules = AreRules kernel rules.least.items rules.counted.items rules.defined.items

-- the first elements of a list as it is asked for: the top, and then each behind what decides it
pub record IsBegun (kernel : Kernel) (rules : Rules) (list : List Element) : Type 0 where
  pub once : (i j : ℕ) (element : Element) → slice_get list i ≡ Some element → slice_get list j ≡ Some element → i ≡ j
  pub top : ℕ
  pub within : top < length kernel.signals
  pub own : slice_index rules.least.items top ≡ top
  pub first : slice_get list 0 ≡ Some (Presence top)
  pub is_top : IsTop kernel rules.least.items top
  pub order : (k : ℕ) (element : Element) → 0 < k → slice_get list k ≡ Some element
      → StandsAfter kernel rules.least.items rules.counted.items rules.defined.items (take k list) element

-- the marks tell what the list has
pub record AreMarks (count : ℕ) (placed : Placed) : Type 0 where
  pub class_count : length placed.classes.items ≡ count
  pub truth_count : length placed.truths.items ≡ count
  pub classes : (class : ℕ) → (slice_index_or placed.classes.items class false ≡ true) ↔ Contains placed.list.items (Presence class)
  pub truths : (signal : ℕ) → (slice_index_or placed.truths.items signal false ≡ true) ↔ Contains placed.list.items (Truth signal)

pub record IsPlaced (kernel : Kernel) (rules : Rules) (placed : Placed) : Type 0 where
  pub begun : IsBegun kernel rules placed.list.items
  pub marks : AreMarks (length kernel.signals) placed

-- nothing more may be placed
abbrev pub IsStuck : Kernel → Rules → Placed → Type 0
IsStuck kernel rules placed = (element : Element) → signal_of element < length kernel.signals → may_take kernel rules.least.items placed (step_by rules element) ≡ false

abbrev pub MayBePlaced : Kernel → Rules → Placed → Element → Type 0
MayBePlaced kernel rules placed element = (signal_of element < length kernel.signals) × (may_take kernel rules.least.items placed (step_by rules element) ≡ true)

-- there is a mark for an element
abbrev pub IsWithin : Placed → Element → Type 0
IsWithin placed (Presence class) = class < length placed.classes.items
IsWithin placed (Truth signal) = signal < length placed.truths.items

abbrev pub with_class : List Bool → Element → List Bool
with_class marks (Presence class) = slice_set marks class true
with_class marks (Truth signal) = marks

abbrev pub with_truth_of : List Bool → Element → List Bool
with_truth_of marks (Presence class) = marks
with_truth_of marks (Truth signal) = slice_set marks signal true

-- how many places are not marked
abbrev pub unmarked : Placed → ℕ
unmarked placed = count_by not placed.classes.items + count_by not placed.truths.items

-- the tables of a kernel, and a list that shows that it is triangular
pub record IsTriangleOf (kernel : Kernel) (triangle : Triangle) : Type 0 where
  pub are_rules : AreRulesOf kernel triangle.rules
  pub is_triangle : IsTriangle kernel triangle.rules.least.items triangle.list.items

-- there is a mark for an element, which is not set
abbrev pub IsFreshWithin : Placed → Element → Type 0
IsFreshWithin placed (Presence class) = (class < length placed.classes.items) × (slice_index_or placed.classes.items class false ≡ false)
IsFreshWithin placed (Truth signal) = (signal < length placed.truths.items) × (slice_index_or placed.truths.items signal false ≡ false)

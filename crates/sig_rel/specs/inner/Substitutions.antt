-- Clocks of a kernel as they are written, one after another.
use Rattle.std.specs.Prelude.{◌≡◌, ◌⊎◌}
use Rattle.sig_rel.specs.Prelude.{ℕ, Bool, true, false, List, [], length, Option, None, Some, slice_index_or, sum_by, Contains, Signal, Form, Operand, Holds, Spans, test, Node, Ref, Kernel}
use Rattle.sig_rel.specs.inner.Elements.{IsGivenBy, IsCut, entry_of}
use Rattle.sig_rel.specs.Relations.{is_boolean}
use Rattle.sig_rel.specs.inner.Rules.{Values, operand_value, presence_by, truth_by_form}
use Rattle.sig_rel.specs.declared.elements.Element.{Element}
use Rattle.sig_rel.specs.declared.elements.Element.TheVariants.{Presence, Truth}
use Rattle.sig_rel.specs.declared.placing.Triangle.{Triangle}
use Rattle.sig_rel.specs.declared.rules.Rules.{Rules}
use Rattle.sig_rel.specs.declared.statuses.Known.{Known}
use Rattle.sig_rel.specs.declared.substitution.Columns.{Columns}

-- what a signal is in the columns; one that has no row is true
abbrev pub row_at : Columns → ℕ → Known
row_at columns signal = slice_index_or columns.rows.items signal (record { present = columns.always; truth = columns.always })

-- what an element is in the columns
abbrev pub ref_at : Columns → Element → Ref
ref_at columns (Presence class) = (row_at columns class).present
ref_at columns (Truth signal) = (row_at columns signal).truth

abbrev pub present_at : Columns → ℕ → Ref
present_at columns class = ref_at columns (Presence class)

abbrev pub truth_at : Columns → ℕ → Ref
truth_at columns signal = ref_at columns (Truth signal)

-- what the columns are at some truths
abbrev pub values_at : List Node → Columns → List Bool → Values
values_at nodes columns truths = record { present = λ class. test nodes (present_at columns class) truths; truth = λ signal. test nodes (truth_at columns signal) truths }

abbrev pub operand_at : List Node → Columns → List Bool → Operand → Bool
operand_at nodes columns truths operand = operand_value (values_at nodes columns truths) operand

-- the columns are of the store
pub record HoldColumns (nodes : List Node) (columns : Columns) : Type 0 where
  pub present : (class : ℕ) → Holds nodes (present_at columns class)
  pub truth : (signal : ℕ) → Holds nodes (truth_at columns signal)

-- the list has each variable on which a column depends
pub record SpanColumns (nodes : List Node) (columns : Columns) (vs : List ℕ) : Type 0 where
  pub present : (class : ℕ) → Spans nodes (present_at columns class) vs
  pub truth : (signal : ℕ) → Spans nodes (truth_at columns signal) vs

-- one element was set, and nothing else
pub record IsSet (before after : Columns) (element : Element) (r : Ref) : Type 0 where
  pub always : after.always ≡ before.always
  pub count : length after.rows.items ≡ length before.rows.items
  pub here : ref_at after element ≡ r
  pub other : (e : Element) → (e ≡ element → ⊥) → ref_at after e ≡ ref_at before e

-- the reference is the truth that a form gives of the columns, where it gives one
abbrev pub GivesTruth : List Node → List Node → Columns → List Signal → List ℕ → Form → Ref → Type 0
GivesTruth old new columns signals least form r = (truths : List Bool) (b : Bool) → truth_by_form signals least (values_at old columns truths) form ≡ Some b → test new r truths ≡ b

-- what an equation of this form gives an element, if it gives it anything
abbrev pub given_by : List Signal → List ℕ → Values → Form → Element → Option Bool
given_by signals least values form (Presence class) = Some (presence_by least values form)
given_by signals least values form (Truth signal) = truth_by_form signals least values form

-- the reference is what a form gives an element of the columns, where it gives anything
abbrev pub Gives : List Node → List Node → Columns → List Signal → List ℕ → Form → Element → Ref → Type 0
Gives old new columns signals least form element r = (truths : List Bool) (b : Bool) → given_by signals least (values_at old columns truths) form element ≡ Some b → test new r truths ≡ b

abbrev pub no_ref : Unit {0} → List Ref
no_ref made = []

-- ---- what each element takes

abbrev pub size_of : Option (Option ℕ) → ℕ
size_of None = 0
size_of (Some None) = 0
size_of (Some (Some number)) = 1

-- whether an equation gives the element
abbrev pub step_at : Rules → Element → ℕ
step_at rules element = size_of (entry_of rules element)

-- how many elements of a list an equation gives
abbrev pub steps : Rules → List Element → ℕ
steps rules list = sum_by (step_at rules) list

-- ---- what is written

-- one element was written: it is what its equation gives, and nothing else was written, nor what no equation gives
pub record IsWritten (kernel : Kernel) (rules : Rules) (old new : List Node) (before after : Columns) (element : Element) : Type 0 where
  pub count : length after.rows.items ≡ length before.rows.items
  pub held : HoldColumns new after
  pub spans : (vs : List ℕ) → SpanColumns old before vs → SpanColumns new after vs
  pub other : (e : Element) → (element ≡ e → ⊥) ⊎ IsCut kernel rules e → ref_at after e ≡ ref_at before e
  pub given : (e : Element) (number : ℕ) (form : Form) → element ≡ e → IsGivenBy kernel rules e number form → Gives old new before kernel.signals rules.least.items form e (ref_at after e)

-- these elements were written: they are what their equations give of the columns
abbrev pub AreWritten : Kernel → Rules → List Node → Columns → List Element → Type 0
AreWritten kernel rules nodes columns list =
    (element : Element) (number : ℕ) (form : Form) → Contains list element → IsGivenBy kernel rules element number form
    → Gives nodes nodes columns kernel.signals rules.least.items form element (ref_at columns element)

-- a signal that is no boolean is true
abbrev pub ArePlain : Kernel → List Node → Columns → Type 0
ArePlain kernel nodes columns = (signal : ℕ) → is_boolean kernel signal ≡ false → (truths : List Bool) → test nodes (truth_at columns signal) truths ≡ true

-- what some elements of a list have come to
pub record IsPartlyWritten (kernel : Kernel) (rules : Rules) (old new : List Node) (before after : Columns) (list : List Element) : Type 0 where
  pub count : length after.rows.items ≡ length kernel.signals
  pub held : HoldColumns new after
  pub spans : (vs : List ℕ) → SpanColumns old before vs → SpanColumns new after vs
  pub plain : ArePlain kernel new after
  pub written : AreWritten kernel rules new after list
  pub cut : (element : Element) → IsCut kernel rules element → ref_at after element ≡ ref_at before element

abbrev pub IsWhollyWritten : Kernel → Triangle → List Node → List Node → Columns → Columns → Type 0
IsWhollyWritten kernel triangle old new before after = IsPartlyWritten kernel triangle.rules old new before after triangle.list.items

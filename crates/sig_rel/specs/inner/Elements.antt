-- The elements that equations give, by the tables of a kernel.
use Rattle.std.specs.Prelude.{◌≡◌}
use Rattle.sig_rel.specs.Prelude.{ℕ, List, Option, Some, slice_get, Form, Kernel}
use Rattle.sig_rel.specs.Triangles.{form_at, operand_signals, tested}
use Rattle.sig_rel.specs.declared.elements.Element.{Element}
use Rattle.sig_rel.specs.declared.elements.Element.TheVariants.{Presence, Truth}
use Rattle.sig_rel.specs.declared.rules.Rules.{Rules}

-- the signal by which an element is named
abbrev pub signal_of : Element → ℕ
signal_of (Presence class) = class
signal_of (Truth signal) = signal

-- what the tables have for an element
abbrev pub entry_of : Rules → Element → Option (Option ℕ)
entry_of rules (Presence class) = slice_get rules.counted.items class
entry_of rules (Truth signal) = slice_get rules.defined.items signal

-- the tables have the equation of this number and form for an element
abbrev pub IsGivenBy : Kernel → Rules → Element → ℕ → Form → Type 0
IsGivenBy kernel rules element number form = (entry_of rules element ≡ Some (Some number)) × (form_at kernel number ≡ Some form)

-- they have one of this form
abbrev pub IsGiven : Kernel → Rules → Element → Form → Type 0
IsGiven kernel rules element form = (number : ℕ) × IsGivenBy kernel rules element number form

-- they have none
abbrev pub IsCut : Kernel → Rules → Element → Type 0
IsCut kernel rules element = (number : ℕ) (form : Form) → IsGivenBy kernel rules element number form → ⊥

-- the signals of whose truths a form makes an element
abbrev pub truths_read : Form → Element → List ℕ
truths_read form (Presence class) = tested form
truths_read form (Truth signal) = operand_signals form

-- Room for more inputs: the signals behind the inputs move up by so many numbers, and a kernel's equations with them.
use Rattle.std.specs.Prelude.{◌+◌, if◌then◌else◌}
use Rattle.sig_pace.specs.Prelude.{ℕ, nat_lt, map, SigId, Operand, Sig, Const, Form, Fun, Delay, When, WhenConst, Default, Sync, Equation}
use Rattle.sig_kernel.specs.declared.equation.Form.TheVariants.{Event}

-- where a signal stands once there are so many more inputs
abbrev pub moved : ℕ → ℕ → ℕ → ℕ
moved inputs more signal = if nat_lt signal inputs then signal else (signal + more)

-- a renumbering of signals
abbrev pub renumbered : (ℕ → ℕ) → SigId → SigId
renumbered place x = record { 0 = place x.0 }

abbrev pub renumbered_operand : (ℕ → ℕ) → Operand → Operand
renumbered_operand place (Sig x) = Sig (renumbered place x)
renumbered_operand place (Const constant) = Const constant

abbrev pub renumbered_form : (ℕ → ℕ) → Form → Form
renumbered_form place (Fun y op operands) = Fun (renumbered place y) op (map (renumbered_operand place) operands)
renumbered_form place (Delay y x initial) = Delay (renumbered place y) (renumbered place x) initial
renumbered_form place (When y x b) = When (renumbered place y) (renumbered place x) (renumbered place b)
renumbered_form place (WhenConst y constant b) = WhenConst (renumbered place y) constant (renumbered place b)
renumbered_form place (Default y u v) = Default (renumbered place y) (renumbered place u) (renumbered place v)
renumbered_form place (Sync x y) = Sync (renumbered place x) (renumbered place y)
renumbered_form place (Event y x) = Event (renumbered place y) (renumbered place x)

abbrev pub renumbered_equation : (ℕ → ℕ) → Equation → Equation
renumbered_equation place equation = record { form = renumbered_form place equation.form; at = equation.at }

-- What a valid kernel is, and which flows fit it.
use Rattle.std.specs.Prelude.{◌≡◌, ◌<◌, ◌≤◌, ◌+◌, ◌^◌, ◌==◌, ◌&&◌, ◌||◌}
use Rattle.sig_kernel.specs.Prelude.{ℕ, ℤ, Bool, true, false, pos, List, [], length, take, slice_index_or, map, bytes_eq, count_by, nat_lt, Option, None, Some, AllPass, IsDistinct, list_all, list_any, int_eq, Kind, Integer, Boolean, Event, SigId, SIGNALS, Signal, has_64_bits}
use Rattle.sig_kernel.specs.Table.{operands_of, target_of, form_fits}
use Rattle.sig_kernel.specs.declared.equation.Equation.{Equation}
use Rattle.sig_kernel.specs.declared.equation.Form.{Form}
use Rattle.sig_kernel.specs.declared.equation.Operand.{Operand}
use Rattle.sig_kernel.specs.declared.equation.Operand.TheVariants.{Sig, Const}
use Rattle.sig_kernel.specs.declared.kernel.Kernel.{Kernel}

abbrev pub inputs_of : Kernel → List Signal
inputs_of kernel = take kernel.inputs kernel.signals

abbrev pub is_signal : Operand → Bool
is_signal (Sig x) = true
is_signal (Const constant) = false

abbrev pub is_below : ℕ → SigId → Bool
is_below count x = nat_lt x.0 count

-- an operand that is a signal has a number below the count
abbrev pub operand_within : ℕ → Operand → Bool
operand_within count (Sig x) = is_below count x
operand_within count (Const constant) = true

abbrev pub target_within : ℕ → Option SigId → Bool
target_within count None = true
target_within count (Some y) = is_below count y

-- each signal that the form names has a number below the count
abbrev pub form_within : ℕ → Form → Bool
form_within count form = target_within count (target_of form) && list_all (operand_within count) (operands_of form)

-- the form defines the signal of this number
abbrev pub is_target : ℕ → Option SigId → Bool
is_target signal None = false
is_target signal (Some y) = y.0 == signal

abbrev pub defines : ℕ → Equation → Bool
defines signal equation = is_target signal (target_of equation.form)

-- the parts are counted right
pub record HasParts (kernel : Kernel) : Type 0 where
  pub interface : kernel.inputs + kernel.outputs ≤ kernel.declared
  pub declared : kernel.declared ≤ length kernel.signals
  pub signals : length kernel.signals ≤ SIGNALS
  pub equations : length kernel.equations < 2 ^ 32

-- the equations name signals that are there, keep to the table of kinds, and have a signal among their operands
pub record AreWellMade (kernel : Kernel) : Type 0 where
  pub within : AllPass (λ equation. form_within (length kernel.signals) equation.form) kernel.equations
  pub fit : AllPass (λ equation. form_fits kernel.signals equation.form) kernel.equations
  pub speak : AllPass (λ equation. list_any is_signal (operands_of equation.form)) kernel.equations

-- no input is defined, and each other signal once
pub record DefinesEach (kernel : Kernel) : Type 0 where
  pub inputs : (signal : ℕ) → signal < kernel.inputs → count_by (defines signal) kernel.equations ≡ 0
  pub others : (signal : ℕ) → kernel.inputs ≤ signal → signal < length kernel.signals → count_by (defines signal) kernel.equations ≡ 1

-- A kernel is valid.
pub record IsValid (kernel : Kernel) : Type 0 where
  pub parts : HasParts kernel
  pub names : IsDistinct bytes_eq (map (λ input. input.name) (inputs_of kernel))
  pub equations : AreWellMade kernel
  pub defined : DefinesEach kernel

-- a number is a value of the kind: of 64 bits, or as a truth 0 or 1, or as an event 1
abbrev pub value_is : Kind → ℤ → Bool
value_is Integer value = has_64_bits value
value_is Boolean value = int_eq value (pos 0) || int_eq value (pos 1)
value_is Event value = int_eq value (pos 1)

-- flows of numbers fit a kernel
pub record AreFlowsFor (kernel : Kernel) (flows : List (List ℤ)) : Type 0 where
  -- there is one for each input
  pub count : length flows ≡ length (inputs_of kernel)
  -- and each of its values is of the input's kind
  pub kinds : (k : ℕ) (input : Signal) → k < length (inputs_of kernel)
      → AllPass (value_is (slice_index_or (inputs_of kernel) k input).kind) (slice_index_or flows k [])

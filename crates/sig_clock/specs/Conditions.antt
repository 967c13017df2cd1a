-- The conditions of a kernel: the booleans whose truth is free.
use Rattle.std.specs.Prelude.{◌==◌, ◌&&◌, ◌||◌, ◌∷◌, ◌++◌, ◌≡◌, ◌<◌, if◌then◌else◌}
use Rattle.sig_clock.specs.Prelude.{ℕ, Bool, true, false, nat_lt, List, [], length, map, filter, Option, None, Some, take, slice_index_or, slice_set, list_any, range_with_len, Kind, SigId, Signal, kind_at, Form, Fun, Delay, When, WhenConst, Default, Sync, Event, Equation, Kernel}
use Rattle.sig_clock.specs.Reactions.{compares, is_boolean_kind}

-- the signal whose truth a form leaves free: one that a comparison of integers or a delay defines
abbrev pub freed : List Signal → Form → Option SigId
freed signals (Fun y op operands) = if compares signals op operands then Some y else None
freed signals (Delay y x initial) = Some y
freed signals (When y x b) = None
freed signals (WhenConst y constant b) = None
freed signals (Default y u v) = None
freed signals (Sync x y) = None
freed signals (Event y x) = None

abbrev pub is_number : ℕ → Option SigId → Bool
is_number number None = false
is_number number (Some y) = y.0 == number

abbrev pub frees : List Signal → ℕ → Equation → Bool
frees signals signal equation = is_number signal (freed signals equation.form)

abbrev pub signal_id : ℕ → SigId
signal_id number = record { 0 = number }

-- an input, or defined by a comparison of integers or a delay
abbrev pub is_free : Kernel → ℕ → Bool
is_free kernel signal = nat_lt signal kernel.inputs || list_any (frees kernel.signals signal) kernel.equations

-- a condition: a boolean input, or a boolean that a comparison of integers or a delay defines
abbrev pub is_condition : Kernel → ℕ → Bool
is_condition kernel signal = is_boolean_kind (kind_at kernel.signals (signal_id signal)) && is_free kernel signal

-- the conditions, by number
abbrev pub conditions_of : Kernel → List SigId
conditions_of kernel = map signal_id (filter (is_condition kernel) (range_with_len 0 (length kernel.signals)))

-- the truths tell for each signal whether it is free, as far as the first equations say
pub record AreFreeBy (kernel : Kernel) (n : ℕ) (free : List Bool) : Type 0 where
  pub count : length free ≡ length kernel.signals
  pub each : (k : ℕ) → k < length kernel.signals
      → slice_index_or free k false ≡ (nat_lt k kernel.inputs || list_any (frees kernel.signals k) (take n kernel.equations))

-- a signal is marked, where there is one
abbrev pub marked : List Bool → Option SigId → List Bool
marked free None = free
marked free (Some y) = slice_set free y.0 true

-- a number is added, where it is chosen
abbrev pub added : List SigId → ℕ → Bool → List SigId
added numbers number false = numbers
added numbers number true = numbers ++ signal_id number ∷ []

-- Lemmas on conditions as signals.
use Rattle.sig_solve.proofs.Common.{◌≡◌, ◌<◌, ℕ, true, List, [], ◌∷◌, length, arith, zero, suc, slice_get, and_parts, false≢true, Signal, kind_at, kind_of, Kernel, is_condition, is_free, signal_id, is_boolean_kind}

signal_at : (signals : List Signal) (k : ℕ) → is_boolean_kind (kind_of (slice_get signals k)) ≡ true → k < length signals
signal_at [] k is = absurd (false≢true is)
signal_at (s ∷ signals) zero is = omega arith
signal_at (s ∷ signals) (suc k) is = omega (arith, signal_at signals k is)

pub boolean_is_signal : (kernel : Kernel) (signal : ℕ) → is_boolean_kind (kind_at kernel.signals (signal_id signal)) ≡ true → signal < length kernel.signals
boolean_is_signal kernel signal is = signal_at kernel.signals signal is

pub condition_is_boolean : (kernel : Kernel) (condition : ℕ) → is_condition kernel condition ≡ true → is_boolean_kind (kind_at kernel.signals (signal_id condition)) ≡ true
condition_is_boolean kernel condition is = (and_parts (is_boolean_kind (kind_at kernel.signals (signal_id condition))) (is_free kernel condition) is).0

pub condition_is_signal : (kernel : Kernel) (condition : ℕ) → is_condition kernel condition ≡ true → condition < length kernel.signals
condition_is_signal kernel condition is = boolean_is_signal kernel condition (condition_is_boolean kernel condition is)

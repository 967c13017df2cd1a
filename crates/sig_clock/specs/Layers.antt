-- Roots, rounds and layers: in which order the presence of signals is known from the conditions that are known.
use Rattle.std.specs.Prelude.{◌≡◌, ◌<◌, ◌⊎◌}
use Rattle.sig_clock.specs.Prelude.{ℕ, zero, suc, true, length, Kernel}
use Rattle.sig_clock.specs.Reactions.{Reaction, Speaks, IsReaction, is_present, is_silent, status_at}
use Rattle.sig_clock.specs.Conditions.{is_condition}

-- the number is that of a signal
abbrev pub IsSignal : Kernel → ℕ → Type 0
IsSignal kernel signal = signal < length kernel.signals

-- no reaction is possible but the silent one
abbrev pub IsDead : Kernel → Type 0
IsDead kernel = (reaction : Reaction) → IsReaction kernel reaction → is_silent reaction ≡ true

-- a root is present wherever some signal is
pub record IsRoot (kernel : Kernel) (signal : ℕ) : Type 0 where
  pub is : IsSignal kernel signal
  pub everywhere : (reaction : Reaction) → Speaks kernel reaction → is_present reaction signal ≡ true

-- two reactions agree on some conditions, those of which a statement holds: on their presence and their truth
abbrev pub AgreeOn : Kernel → (ℕ → Type 0) → Reaction → Reaction → Type 0
AgreeOn kernel Known a b = (condition : ℕ) → is_condition kernel condition ≡ true → Known condition → status_at a condition ≡ status_at b condition

-- the presence of a signal is determined by the conditions that are known
abbrev pub IsDetermined : Kernel → (ℕ → Type 0) → ℕ → Type 0
IsDetermined kernel Known signal = (a b : Reaction) → Speaks kernel a → Speaks kernel b → AgreeOn kernel Known a b → is_present a signal ≡ is_present b signal

-- a signal enters in a round, counted from 1, or in an earlier one: its presence is determined by the conditions
-- of earlier rounds
abbrev pub EntersBy : Kernel → ℕ → ℕ → Type 0
EntersBy kernel zero signal = ⊥
EntersBy kernel (suc round) signal = IsDetermined kernel (EntersBy kernel round) signal

-- the layer of a signal is the first round in which it enters
pub record HasLayer (kernel : Kernel) (signal layer : ℕ) : Type 0 where
  pub enters : EntersBy kernel layer signal
  pub first : (round : ℕ) → round < layer → EntersBy kernel round signal → ⊥

-- a signal that enters in some round
abbrev pub IsSolved : Kernel → ℕ → Type 0
IsSolved kernel signal = (layer : ℕ) × HasLayer kernel signal layer

-- a signal that enters in no round
abbrev pub NeverEnters : Kernel → ℕ → Type 0
NeverEnters kernel signal = (round : ℕ) → EntersBy kernel round signal → ⊥

-- The condition order: by layer, then by number.
pub record IsEarlier (kernel : Kernel) (condition later : ℕ) : Type 0 where
  pub is : is_condition kernel condition ≡ true
  pub layer : ℕ
  pub later_layer : ℕ
  pub has : HasLayer kernel condition layer
  pub later_has : HasLayer kernel later later_layer
  pub before : (layer < later_layer) ⊎ ((layer ≡ later_layer) × (condition < later))

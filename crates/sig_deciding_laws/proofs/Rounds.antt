-- Whether a signal enters in some round is decided, since some round is still.
use Rattle.sig_deciding_laws.proofs.Common.{◌≡◌, ◌<◌, ◌⊎◌, inl, inr, ℕ, zero, suc, true, length, arith, IsLeast, is_condition, AgreeOn, EntersBy, HasLayer, IsDetermined, IsSolved, NeverEnters, Reaction, Speaks, is_present, enters_stays, Kernel, map_dec, dec_implies, dec_truth, dec_each}
use Rattle.sig_deciding_laws.proofs.StandStill.{IsStill, still}
use Rattle.sig_deciding_laws.proofs.SearchedReactions.{condition_is_signal, dec_agree, searched_speaking}
use Rattle.sig_deciding_laws.proofs.Searchable.{some_least}

module _ (kernel : Kernel) where
  dec_determined : (Known : ℕ → Type 0) → ((condition : ℕ) → is_condition kernel condition ≡ true → Dec (Known condition)) → (signal : ℕ) → Dec (IsDetermined kernel Known signal)
  dec_determined Known known signal =
      map_dec (λ all. λ a b speaks_a speaks_b agree. all a speaks_a b speaks_b agree) (λ is. λ a speaks_a b speaks_b agree. is a b speaks_a speaks_b agree)
      (dec_each (Speaks kernel) (searched_speaking kernel) (λ a. (b : Reaction) → Speaks kernel b → AgreeOn kernel Known a b → is_present a signal ≡ is_present b signal) (λ a _.
      dec_each (Speaks kernel) (searched_speaking kernel) (λ b. AgreeOn kernel Known a b → is_present a signal ≡ is_present b signal) (λ b _.
      dec_implies (dec_agree kernel Known known a b) (dec_truth (is_present a signal) (is_present b signal)))))

  pub dec_enters : (round signal : ℕ) → Dec (EntersBy kernel round signal)
  dec_enters zero signal = no (λ none. none)
  dec_enters (suc round) signal = dec_determined (EntersBy kernel round) (λ condition _. dec_enters round condition) signal

  last : (round : ℕ) × IsStill (EntersBy kernel) dec_enters (λ round signal. enters_stays kernel signal round) (length kernel.signals) round
  last = still (EntersBy kernel) dec_enters (λ round signal. enters_stays kernel signal round) (length kernel.signals)

  -- a signal enters by the round that is still, or never
  by_last : (round signal : ℕ) → signal < length kernel.signals → EntersBy kernel round signal → EntersBy kernel last.0 signal
  by_last zero signal within none = absurd none
  by_last (suc round) signal within enters = last.1 signal within (λ a b speaks_a speaks_b agree.
      enters a b speaks_a speaks_b (λ condition is known. agree condition is (by_last round condition (condition_is_signal kernel condition is) known)))

  pub solved_or_never : (signal : ℕ) → signal < length kernel.signals → IsSolved kernel signal ⊎ NeverEnters kernel signal
  solved_or_never signal within = at (dec_enters last.0 signal) where
    layer_from : (layer : ℕ) → IsLeast (λ round. EntersBy kernel round signal) layer → HasLayer kernel signal layer
    layer_from layer first = record { enters = first.holds; first = λ round less enters. omega (arith, less, first.least round enters) }

    at : Dec (EntersBy kernel last.0 signal) → IsSolved kernel signal ⊎ NeverEnters kernel signal
    at (yes enters) = let layer = some_least (λ round. EntersBy kernel round signal) (λ round. dec_enters round signal) last.0 enters in inl (layer.0, layer_from layer.0 layer.1)
    at (no fails) = inr (λ round enters. fails (by_last round signal within enters))

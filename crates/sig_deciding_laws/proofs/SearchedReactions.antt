-- Reactions can be searched, and what is said of all of them is decided.
use Rattle.sig_deciding_laws.proofs.Common.{◌≡◌, ◌<◌, ◌≤◌, ℕ, zero, suc, Bool, true, false, List, [], ◌∷◌, length, refl, sym, arith, None, Some, list_all, and_parts, false≢true, AllPass-from_list_all, list_all-from_AllPass, Signal, is_condition, is_free, signal_id, AgreeOn, IsReaction, Reaction, Speaks, are_statuses, is_boolean_kind, is_present, is_silent, is_status_of, meets, status_at, kind_at, kind_of, Equation, Kernel, slice_get, map_dec, dec_both, dec_implies, dec_option, dec_truth, Searched, all_options, all_truths, dec_each, searched_as, searched_below, searched_lists, searched_where}

-- ---- reactions

statuses_count : (signals : List Signal) (reaction : Reaction) → are_statuses signals reaction ≡ true → length reaction ≡ length signals
statuses_count [] [] are = refl
statuses_count (signal ∷ signals) (status ∷ reaction) are =
    let rest = statuses_count signals reaction (and_parts (is_status_of signal.kind status) (are_statuses signals reaction) are).1 in
    omega (arith, rest)
statuses_count _ _ are = absurd (false≢true are)

pub reaction_count : (kernel : Kernel) (reaction : Reaction) → IsReaction kernel reaction → length reaction ≡ length kernel.signals
reaction_count kernel reaction is = statuses_count kernel.signals reaction is.kinds

module _ (kernel : Kernel) where
  abbrev meets_all : Reaction → Bool
  meets_all reaction = list_all (λ (equation : Equation). meets kernel.signals reaction equation.form) kernel.equations

  dec_reaction : (reaction : Reaction) → Dec (IsReaction kernel reaction)
  dec_reaction reaction =
      map_dec (λ both. record { kinds = both.0; equations = AllPass-from_list_all (λ (equation : Equation). meets kernel.signals reaction equation.form) kernel.equations both.1 })
      (λ is. (is.kinds, list_all-from_AllPass (λ (equation : Equation). meets kernel.signals reaction equation.form) kernel.equations is.equations))
      (dec_both (dec_truth (are_statuses kernel.signals reaction) true) (dec_truth (meets_all reaction) true))

  pub searched_reactions : Searched (IsReaction kernel)
  searched_reactions =
      searched_as (λ reaction. (length reaction ≡ length kernel.signals) × IsReaction kernel reaction)
      (searched_where (λ (reaction : Reaction). length reaction ≡ length kernel.signals) (searched_lists (all_options all_truths) (length kernel.signals)) (IsReaction kernel) (λ reaction _. dec_reaction reaction))
      (IsReaction kernel) (λ reaction both. both.1) (λ reaction is. (reaction_count kernel reaction is, is))

  pub searched_speaking : Searched (Speaks kernel)
  searched_speaking =
      searched_as (λ reaction. IsReaction kernel reaction × (is_silent reaction ≡ false))
      (searched_where (IsReaction kernel) searched_reactions (λ reaction. is_silent reaction ≡ false) (λ reaction _. dec_truth (is_silent reaction) false))
      (Speaks kernel) (λ reaction both. record { is = both.0; some = both.1 }) (λ reaction speaks. (speaks.is, speaks.some))

-- ---- what is present

pub present_within : (reaction : Reaction) (signal : ℕ) → is_present reaction signal ≡ true → signal < length reaction
present_within [] signal is = absurd (false≢true is)
present_within (status ∷ reaction) zero is = omega arith
present_within (status ∷ reaction) (suc signal) is = omega (arith, present_within reaction signal is)

pub absent_beyond : (reaction : Reaction) (signal : ℕ) → length reaction ≤ signal → is_present reaction signal ≡ false
absent_beyond reaction signal beyond = at (is_present reaction signal) refl where
  at : (b : Bool) → is_present reaction signal ≡ b → is_present reaction signal ≡ false
  at true is = absurd (omega (arith, beyond, present_within reaction signal is))
  at false is = is

pub some_present : (reaction : Reaction) → is_silent reaction ≡ false → (signal : ℕ) × (is_present reaction signal ≡ true)
some_present [] speaks = absurd (false≢true (sym speaks))
some_present (None ∷ reaction) speaks = let later = some_present reaction speaks in (suc later.0, later.1)
some_present (Some b ∷ reaction) speaks = (0, refl)

-- ---- conditions

signal_at : (signals : List Signal) (k : ℕ) → is_boolean_kind (kind_of (slice_get signals k)) ≡ true → k < length signals
signal_at [] k is = absurd (false≢true is)
signal_at (s ∷ signals) zero is = omega arith
signal_at (s ∷ signals) (suc k) is = omega (arith, signal_at signals k is)

pub condition_is_signal : (kernel : Kernel) (condition : ℕ) → is_condition kernel condition ≡ true → condition < length kernel.signals
condition_is_signal kernel condition is = signal_at kernel.signals condition (and_parts (is_boolean_kind (kind_at kernel.signals (signal_id condition))) (is_free kernel condition) is).0

pub searched_conditions : (kernel : Kernel) → Searched (λ (condition : ℕ). is_condition kernel condition ≡ true)
searched_conditions kernel =
    searched_as (λ (condition : ℕ). (condition < length kernel.signals) × (is_condition kernel condition ≡ true))
    (searched_where (λ (condition : ℕ). condition < length kernel.signals) (searched_below (length kernel.signals)) (λ condition. is_condition kernel condition ≡ true) (λ condition _. dec_truth (is_condition kernel condition) true))
    (λ condition. is_condition kernel condition ≡ true) (λ condition both. both.1) (λ condition is. (condition_is_signal kernel condition is, is))

pub dec_agree : (kernel : Kernel) (Known : ℕ → Type 0) → ((condition : ℕ) → is_condition kernel condition ≡ true → Dec (Known condition)) → (a b : Reaction) → Dec (AgreeOn kernel Known a b)
dec_agree kernel Known known a b =
    dec_each (λ (condition : ℕ). is_condition kernel condition ≡ true) (searched_conditions kernel) (λ condition. Known condition → status_at a condition ≡ status_at b condition)
    (λ condition is. dec_implies (known condition is) (dec_option dec_truth (status_at a condition) (status_at b condition)))

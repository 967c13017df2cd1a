-- Each kernel is paced or refused, since what is asked of its reactions is decided.
use Rattle.sig_pace.proofs.Common.{◌≡◌, ◌<◌, ◌≤◌, ◌+◌, ◌⊎◌, inl, inr, ℕ, suc, true, List, length, slice_get, refl, arith, cases_lt, true_from_ne_false, SIGNALS, Signal, HasNoRoot, HasRoot, IsAlive, IsPossible, IsDead, IsSignal, Reaction, Speaks, is_present, is_silent, Kernel, AreMaximalClocks, AreOfOneClock, IsBelow, IsLeastMaximal, IsMaximal, IsPaced, IsTaken, NeedsPaces, pace_name, paced_kernel, HasTooManySignals, IsNameTaken, dec_le, map_dec, dec_both, dec_implies, dec_some, dec_text, dec_truth, dec_each, searched_below}
use Rattle.sig_pace.proofs.DecidedQuestions.{searched_speaking, some_least}
use Rattle.sig_pace.proofs.RisingLists.{AreChosen, chosen}

module _ (kernel : Kernel) where
  -- ---- clocks

  dec_below : (x y : ℕ) → Dec (IsBelow kernel x y)
  dec_below x y = dec_each (Speaks kernel) (searched_speaking kernel) (λ reaction. is_present reaction x ≡ true → is_present reaction y ≡ true) (λ reaction _.
      dec_implies (dec_truth (is_present reaction x) true) (dec_truth (is_present reaction y) true))

  dec_one_clock : (x y : ℕ) → Dec (AreOfOneClock kernel x y)
  dec_one_clock x y = map_dec (λ both. record { up = both.0; down = both.1 }) (λ one. (one.up, one.down)) (dec_both (dec_below x y) (dec_below y x))

  dec_possible : (x : ℕ) → Dec (IsPossible kernel x)
  dec_possible x = searched_speaking kernel (λ reaction. is_present reaction x ≡ true) (λ reaction _. dec_truth (is_present reaction x) true)

  -- what is decided of each signal is decided of all
  dec_signals : (P : ℕ → Type 0) → ((y : ℕ) → Dec (P y)) → Dec ((y : ℕ) → IsSignal kernel y → P y)
  dec_signals P decide = dec_each (λ (y : ℕ). y < length kernel.signals) (searched_below (length kernel.signals)) P (λ y _. decide y)

  dec_maximal : (x : ℕ) → Dec (IsMaximal kernel x)
  dec_maximal x = map_dec (λ parts. record { is = parts.0; possible = parts.1.0; top = parts.1.1 }) (λ is. (is.is, (is.possible, is.top)))
      (dec_both (dec_le (suc x) (length kernel.signals)) (dec_both (dec_possible x) (dec_signals (λ y. IsBelow kernel x y → IsBelow kernel y x) (λ y. dec_implies (dec_below x y) (dec_below y x)))))

  dec_least_maximal : (x : ℕ) → Dec (IsLeastMaximal kernel x)
  dec_least_maximal x = map_dec (λ parts. record { maximal = parts.0; least = parts.1 }) (λ is. (is.maximal, is.least))
      (dec_both (dec_maximal x) (dec_signals (λ y. AreOfOneClock kernel x y → x ≤ y) (λ y. dec_implies (dec_one_clock x y) (dec_le x y))))

  clocks_exist : (least : List ℕ) × AreMaximalClocks kernel least
  clocks_exist = (
    list.0,
    record {
      all = λ x. ((λ there. (list.1.to x there).2), (λ is. list.1.back x (omega arith) (omega (arith, is.maximal.is)) is));
      order = list.1.rising;
    },
  ) where
    list : (list : List ℕ) × AreChosen (IsLeastMaximal kernel) 0 (length kernel.signals) list
    list = chosen (IsLeastMaximal kernel) dec_least_maximal 0 (length kernel.signals)

  -- ---- who needs paces

  dec_alive : Dec (IsAlive kernel)
  dec_alive = map_dec (λ found. (found.0, found.1)) (λ alive. (alive.0, alive.1, tt)) (searched_speaking kernel (λ _. Unit {0}) (λ _ _. yes tt))

  dead : (IsAlive kernel → ⊥) → IsDead kernel
  dead none reaction is = true_from_ne_false (is_silent reaction) (λ speaks. none (reaction, record { is = is; some = speaks }))

  dec_root : Dec (HasRoot kernel)
  dec_root =
      map_dec (λ found. (found.0, record { is = found.1; everywhere = found.2 })) (λ root. (root.0, root.1.is, root.1.everywhere))
      (searched_below (length kernel.signals) (λ signal. (reaction : Reaction) → Speaks kernel reaction → is_present reaction signal ≡ true) (λ signal _.
      dec_each (Speaks kernel) (searched_speaking kernel) (λ reaction. is_present reaction signal ≡ true) (λ reaction _. dec_truth (is_present reaction signal) true)))

  -- ---- names

  -- a signal's name is that of one of so many paces
  abbrev HasPaceName : ℕ → Signal → Type 0
  HasPaceName many found = (number : ℕ) × ((1 ≤ number) × (number ≤ many)) × (found.name ≡ pace_name number)

  dec_pace_name : (many : ℕ) (found : Signal) → Dec (HasPaceName many found)
  dec_pace_name many found =
      map_dec (λ is. (is.0, (is.2.0, omega (arith, is.1)), is.2.1)) (λ is. (is.0, omega (arith, is.1.1), (is.1.0, is.2)))
      (searched_below (suc many) (λ number. (1 ≤ number) × (found.name ≡ pace_name number)) (λ number _. dec_both (dec_le 1 number) (dec_text found.name (pace_name number))))

  dec_taken : (least : List ℕ) (signal : ℕ) → Dec (IsTaken kernel least signal)
  dec_taken least signal =
      map_dec (λ is. record { declared = is.0; found = is.1.0; is = is.1.1; number = is.1.2.0; counted = is.1.2.1; named = is.1.2.2 })
      (λ is. (is.declared, (is.found, is.is, (is.number, is.counted, is.named))))
      (dec_both (dec_le (suc signal) kernel.declared) (dec_some (HasPaceName (length least)) (slice_get kernel.signals signal) (dec_pace_name (length least))))

  -- ---- paced or refused

  abbrev IsDone : Type 0
  IsDone = ((paced : Kernel) × IsPaced kernel paced) ⊎ (((signal : ℕ) × IsNameTaken kernel signal) ⊎ HasTooManySignals kernel)

  with_names : (least : List ℕ) → NeedsPaces kernel least → ((signal : ℕ) → IsTaken kernel least signal → ⊥) → IsDone
  with_names least needs free = elim (cases_lt SIGNALS (length kernel.signals + (length least + length least))) [
    | inl many ↦ inr (inr (record { least = least; needs = needs; free = free; many = many }))
    | inr few ↦ inl (paced_kernel kernel least, inr (least, record { needs = needs; free = free; few = few; is = refl }))
  ]

  with_needs : (least : List ℕ) → NeedsPaces kernel least → IsDone
  with_needs least needs = at (searched_below kernel.declared (IsTaken kernel least) (λ signal _. dec_taken least signal)) where
    at : Dec ((signal : ℕ) × (signal < kernel.declared) × IsTaken kernel least signal) → IsDone
    at (yes found) = let first = some_least (IsTaken kernel least) (dec_taken least) found.0 found.2 in inr (inl (first.0, record { least = least; needs = needs; first = first.1 }))
    at (no none) = with_names least needs (λ signal taken. none (signal, taken.declared, taken))

  without_root : IsAlive kernel → HasNoRoot kernel → IsDone
  without_root alive none = let clocks = clocks_exist in with_needs clocks.0 (record { alive = alive; none = none; clocks = clocks.1 })

  pub paced_or_refused : ((paced : Kernel) × IsPaced kernel paced) ⊎ (((signal : ℕ) × IsNameTaken kernel signal) ⊎ HasTooManySignals kernel)
  paced_or_refused = at dec_alive dec_root where
    at : Dec (IsAlive kernel) → Dec (HasRoot kernel) → IsDone
    at (no none) root = inl (kernel, inl (inr (dead none), refl))
    at (yes alive) (yes root) = inl (kernel, inl (inl root, refl))
    at (yes alive) (no none) = without_root alive (λ signal is. none (signal, is))

-- A kernel has clocks, or it is refused for the first reason why it has none.
use Rattle.sig_deciding_laws.proofs.Common.{◌≡◌, ◌<◌, ◌⊎◌, inl, inr, ℕ, true, false, length, arith, true_from_ne_false, SigId, AreSolved, HasClocks, HasNoRoot, HasRoot, IsAlive, IsMissingRoot, IsOpen, IsPossible, IsPossibleWithout, IsUnsolved, signal_id, IsDead, IsSignal, NeverEnters, Reaction, Speaks, is_present, is_silent, Kernel, Dead, IsRefusedFor, KernelFault, MissingRoot, Pinned, Unsolved, dec_lt, map_dec, dec_both, dec_then, dec_truth, dec_each, searched_below}
use Rattle.sig_deciding_laws.proofs.PinnedOrFree.{clocks_or_pinned, conditions_ordered}
use Rattle.sig_deciding_laws.proofs.SearchedReactions.{present_within, reaction_count, searched_speaking, some_present}
use Rattle.sig_deciding_laws.proofs.Rounds.{solved_or_never}
use Rattle.sig_deciding_laws.proofs.Searchable.{some_least}

module _ (kernel : Kernel) where
  abbrev IsRefused : Type 0
  IsRefused = (fault : KernelFault) × IsRefusedFor kernel fault

  -- ---- some reaction is possible

  dec_alive : Dec (IsAlive kernel)
  dec_alive = map_dec (λ found. (found.0, found.1)) (λ alive. (alive.0, alive.1, tt)) (searched_speaking kernel (λ _. Unit {0}) (λ _ _. yes tt))

  dead : (IsAlive kernel → ⊥) → IsDead kernel
  dead none reaction is = true_from_ne_false (is_silent reaction) (λ speaks. none (reaction, record { is = is; some = speaks }))

  -- ---- roots

  abbrev Everywhere : ℕ → Type 0
  Everywhere signal = (reaction : Reaction) → Speaks kernel reaction → is_present reaction signal ≡ true

  dec_everywhere : (signal : ℕ) → Dec (Everywhere signal)
  dec_everywhere signal = dec_each (Speaks kernel) (searched_speaking kernel) (λ reaction. is_present reaction signal ≡ true) (λ reaction _. dec_truth (is_present reaction signal) true)

  dec_root : Dec (HasRoot kernel)
  dec_root =
      map_dec (λ found. (found.0, record { is = found.1; everywhere = found.2 })) (λ root. (root.0, root.1.is, root.1.everywhere))
      (searched_below (length kernel.signals) Everywhere (λ signal _. dec_everywhere signal))

  dec_possible : (signal : ℕ) → Dec (IsPossible kernel signal)
  dec_possible signal = searched_speaking kernel (λ reaction. is_present reaction signal ≡ true) (λ reaction _. dec_truth (is_present reaction signal) true)

  dec_possible_without : (other signal : ℕ) → Dec (IsPossibleWithout kernel other signal)
  dec_possible_without other signal =
      map_dec (λ found. (found.0, found.1, found.2.0, found.2.1)) (λ found. (found.0, found.1, (found.2, found.3)))
      (searched_speaking kernel (λ reaction. (is_present reaction signal ≡ true) × (is_present reaction other ≡ false)) (λ reaction _.
      dec_both (dec_truth (is_present reaction signal) true) (dec_truth (is_present reaction other) false)))

  -- some reaction is without a signal that is no root
  without : (signal : ℕ) → IsSignal kernel signal → HasNoRoot kernel → (reaction : Reaction) × Speaks kernel reaction × (is_present reaction signal ≡ false)
  without signal within none = at (searched_speaking kernel (λ reaction. is_present reaction signal ≡ false) (λ reaction _. dec_truth (is_present reaction signal) false)) where
    at : Dec ((reaction : Reaction) × Speaks kernel reaction × (is_present reaction signal ≡ false)) → (reaction : Reaction) × Speaks kernel reaction × (is_present reaction signal ≡ false)
    at (yes found) = found
    at (no never) = absurd (none signal (record { is = within; everywhere = λ reaction speaks. true_from_ne_false (is_present reaction signal) (λ absent. never (reaction, speaks, absent)) }))

  missing_root : IsAlive kernel → HasNoRoot kernel → (x : SigId) × (y : SigId) × IsMissingRoot kernel x.0 y.0
  missing_root alive none =
      let present = some_present alive.0 alive.1.some in
      let first = some_least (IsPossible kernel) dec_possible present.0 (alive.0, alive.1, present.1) in
      let possible : IsPossible kernel first.0 = first.1.holds in
      let count = reaction_count kernel possible.0 possible.1.is in
      let within : first.0 < length kernel.signals = omega (arith, count, present_within possible.0 first.0 possible.2) in
      let lacks = without first.0 within none in
      let other = some_present lacks.0 lacks.1.some in
      let second = some_least (IsPossibleWithout kernel first.0) (dec_possible_without first.0) other.0 (lacks.0, lacks.1, other.1, lacks.2) in
      (signal_id first.0, signal_id second.0, record { none = none; first = first.1; second = second.1 })

  -- ---- signals that are solved

  dec_open : (signal : ℕ) → Dec (IsOpen kernel signal)
  dec_open signal = dec_then (dec_lt signal (length kernel.signals)) (λ within. elim (solved_or_never kernel signal within) [
    | inl solved ↦ no (λ never. never solved.0 solved.1.enters)
    | inr never ↦ yes never
  ])

  solved_or_open : AreSolved kernel ⊎ ((signal : ℕ) × IsOpen kernel signal)
  solved_or_open = at (searched_below (length kernel.signals) (NeverEnters kernel) (λ signal within. elim (solved_or_never kernel signal within) [
    | inl solved ↦ no (λ never. never solved.0 solved.1.enters)
    | inr never ↦ yes never
  ])) where
    at : Dec ((signal : ℕ) × (signal < length kernel.signals) × NeverEnters kernel signal) → AreSolved kernel ⊎ ((signal : ℕ) × IsOpen kernel signal)
    at (yes found) = inr (found.0, (found.1, found.2))
    at (no none) = inl (λ signal within. elim (solved_or_never kernel signal within) [ inl solved ↦ solved | inr never ↦ absurd (none (signal, within, never)) ])

  unsolved : HasRoot kernel → (signal : ℕ) → IsOpen kernel signal → (x : SigId) × IsUnsolved kernel x.0
  unsolved root signal is = let first = some_least (IsOpen kernel) dec_open signal is in (signal_id first.0, record { root = root; first = first.1 })

  -- ---- one reason after another

  with_solved : IsAlive kernel → HasRoot kernel → AreSolved kernel → HasClocks kernel ⊎ IsRefused
  with_solved alive root solved =
      let conditions = conditions_ordered kernel solved in
      elim (clocks_or_pinned kernel solved alive root conditions.0 conditions.1) [ inl has ↦ inl has | inr pinned ↦ inr (Pinned pinned.0, pinned.1) ]

  with_root : IsAlive kernel → HasRoot kernel → HasClocks kernel ⊎ IsRefused
  with_root alive root = elim solved_or_open [
    | inl solved ↦ with_solved alive root solved
    | inr is ↦ (let first = unsolved root is.0 is.1 in inr (Unsolved first.0, first.1))
  ]

  when_alive : IsAlive kernel → Dec (HasRoot kernel) → HasClocks kernel ⊎ IsRefused
  when_alive alive (yes root) = with_root alive root
  when_alive alive (no none) = let missing = missing_root alive (λ signal is. none (signal, is)) in inr (MissingRoot missing.0 missing.1, missing.2)

  pub clocks_or_refused : HasClocks kernel ⊎ ((fault : KernelFault) × IsRefusedFor kernel fault)
  clocks_or_refused = at dec_alive where
    at : Dec (IsAlive kernel) → HasClocks kernel ⊎ IsRefused
    at (yes alive) = when_alive alive dec_root
    at (no none) = inr (Dead, dead none)

-- What is asked of the signals and of the reactions of a kernel is decided, since these are finitely many.
use Rattle.sig_pace.proofs.Common.{inl, inr, ℕ, suc, Bool, true, false, length, arith, list_all, cases_lt, AllPass-from_list_all, list_all-from_AllPass, IsLeast, IsReaction, Reaction, Speaks, are_statuses, is_silent, meets, Equation, Kernel, map_dec, dec_both, dec_then, dec_truth, Searched, all_options, all_truths, first_below, searched_lists, all_statuses}

-- where there is a number, there is a least one
pub some_least : (P : ℕ → Type 0) → ((k : ℕ) → Dec (P k)) → (k : ℕ) → P k → (m : ℕ) × IsLeast P m
some_least P decide k holds = elim (first_below P decide (suc k)) [
  | inl found ↦ (
    found.0,
    record {
      holds = found.1;
      least = λ other is. elim (cases_lt other found.0) [ inl less ↦ absurd (found.2 other less is) | inr most ↦ most ];
    },
  )
  | inr none ↦ absurd (none k (omega arith) holds)
]

module _ (kernel : Kernel) where
  abbrev meets_all : Reaction → Bool
  meets_all reaction = list_all (λ (equation : Equation). meets kernel.signals reaction equation.form) kernel.equations

  dec_reaction : (reaction : Reaction) → Dec (IsReaction kernel reaction)
  dec_reaction reaction =
      map_dec (λ both. record { kinds = both.0; equations = AllPass-from_list_all (λ (equation : Equation). meets kernel.signals reaction equation.form) kernel.equations both.1 })
      (λ is. (is.kinds, list_all-from_AllPass (λ (equation : Equation). meets kernel.signals reaction equation.form) kernel.equations is.equations))
      (dec_both (dec_truth (are_statuses kernel.signals reaction) true) (dec_truth (meets_all reaction) true))

  dec_speaks : (reaction : Reaction) → Dec (Speaks kernel reaction)
  dec_speaks reaction = map_dec (λ both. record { is = both.0; some = both.1 }) (λ speaks. (speaks.is, speaks.some)) (dec_both (dec_reaction reaction) (dec_truth (is_silent reaction) false))

  pub searched_speaking : Searched (Speaks kernel)
  searched_speaking P decide =
      map_dec (λ found. (found.0, found.2.0, found.2.1)) (λ found. (found.0, all_statuses kernel.signals found.0 found.1.is.kinds, (found.1, found.2)))
      (searched_lists (all_options all_truths) (length kernel.signals) (λ reaction. Speaks kernel reaction × P reaction) (λ reaction _. dec_then (dec_speaks reaction) (decide reaction)))

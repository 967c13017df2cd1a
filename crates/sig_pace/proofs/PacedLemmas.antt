-- The names of paces: which declared signal is the first that has one.
use Rattle.sig_pace.proofs.Common.{◌≡◌, ◌<◌, ◌≤◌, ◌+◌, inl, inr, ◌||◌, ℕ, true, List, [], ◌∷◌, length, take, sym, ap, ◌∙◌, arith, suc, None, Some, bytes_eq, slice_get, cases_lt, false≢true, bytes_eq-Decides, SigId, Signal, Kernel, FindsNamed, is_named, IsTaken, NeedsPaces, pace_name, paces_from, IsNameTaken, get_taken, taken_get, or_cases, or_right}

-- ---- names

-- what is named as a pace has its name
pub named_pace : (kernel : Kernel) (n : ℕ) (least : List ℕ) (signal : Signal) → is_named (paces_from kernel n least) signal ≡ true → (number : ℕ) × (n ≤ number) × (number < n + length least) × (signal.name ≡ pace_name number)
named_pace kernel n [] signal is = absurd (false≢true is)
named_pace kernel n (m ∷ least) signal is = elim (or_cases (bytes_eq signal.name (pace_name n)) (is_named (paces_from kernel (suc n) least) signal) is) [
  | inl here ↦ (n, omega arith, omega arith, (bytes_eq-Decides signal.name (pace_name n)).0 here)
  | inr later ↦
      let rest = named_pace kernel (suc n) least signal later in
      (rest.0, let a = rest.1 in omega (arith, a), let a = rest.2 in omega (arith, a), rest.3)
]

-- and what has its name is named as a pace
pub pace_named : (kernel : Kernel) (n : ℕ) (least : List ℕ) (signal : Signal) (number : ℕ) → n ≤ number → number < n + length least → signal.name ≡ pace_name number → is_named (paces_from kernel n least) signal ≡ true
pace_named kernel n [] signal number low high is = absurd (omega (arith, low, high))
pace_named kernel n (m ∷ least) signal number low high is = elim (cases_lt n number) [
  | inl less ↦ or_right (bytes_eq signal.name (pace_name n)) (is_named (paces_from kernel (suc n) least) signal) (pace_named kernel (suc n) least signal number (omega (arith, less)) (omega (arith, high)) is)
  | inr up ↦
      let same : number ≡ n = omega (arith, low, up) in
      let here = (bytes_eq-Decides signal.name (pace_name n)).1 (is ∙ ap pace_name same) in
      ap (λ b. b || is_named (paces_from kernel (suc n) least) signal) here
]

module _ (kernel : Kernel) (least : List ℕ) where
  -- a taken name is found
  taken_named : (s : ℕ) (taken : IsTaken kernel least s) → (slice_get (take kernel.declared kernel.signals) s ≡ Some taken.found) × (is_named (paces_from kernel 1 least) taken.found ≡ true)
  taken_named s taken = (
    get_taken kernel.declared kernel.signals s taken.found (let lt = taken.declared in omega (arith, lt)) taken.is,
    pace_named kernel 1 least taken.found taken.number taken.counted.0 (let le = taken.counted.1 in omega (arith, le)) taken.named,
  )

  pub none_taken : FindsNamed (take kernel.declared kernel.signals) (paces_from kernel 1 least) None → (s : ℕ) → IsTaken kernel least s → ⊥
  none_taken none s taken = let at = taken_named s taken in false≢true (sym (none s taken.found at.0) ∙ at.1)

  pub first_taken : (x : SigId) → NeedsPaces kernel least → FindsNamed (take kernel.declared kernel.signals) (paces_from kernel 1 least) (Some x) → IsNameTaken kernel x.0
  first_taken x needs found =
      let at = taken_get kernel.declared kernel.signals x.0 found.0 found.1 in
      let name = named_pace kernel 1 least found.0 found.2 in
      record {
        least = least;
        needs = needs;
        first = record {
          holds = record {
            declared = let lt = at.0 in omega (arith, lt);
            found = found.0;
            is = at.1;
            number = name.0;
            counted = (name.1, let lt = name.2 in omega (arith, lt));
            named = name.3;
          };
          least = λ other taken. elim (cases_lt other x.0) [
            | inl less ↦ (let there = taken_named other taken in absurd (false≢true (sym (found.3 other taken.found less there.0) ∙ there.1)))
            | inr le ↦ le
          ];
        };
      }

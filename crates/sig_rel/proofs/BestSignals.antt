-- The best of those signals that are such.
use Rattle.sig_rel.proofs.Common.{◌≡◌, ◌<◌, ℕ, Bool, true, false, Option, MatchOption}

-- one of the signals is such, where one was found among the first; else none of these is
abbrev pub IsBestBelow : (ℕ → Bool) → ℕ → ℕ → Option ℕ → Type 0
IsBestBelow is_such count k found = MatchOption found ((s : ℕ) → s < k → is_such s ≡ false) (λ s. (s < count) × (is_such s ≡ true))

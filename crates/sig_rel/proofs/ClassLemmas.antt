-- The least signals of clock classes.
use Rattle.sig_rel.proofs.Common.{◌≡◌, ◌<◌, ◌≤◌, ℕ, List, length, get_or, subst, arith, Kernel, AreLeast, SameClock, turned, joined}
use Rattle.sig_clock.specs.SameClocks.{itself}

module _ (kernel : Kernel) (least : List ℕ) (is : AreLeast kernel least) where
  pub least_below : (s : ℕ) → s < length kernel.signals → get_or least s 0 ≤ s
  least_below s lt = is.least s s lt (itself s)

  pub least_within : (s : ℕ) → s < length kernel.signals → get_or least s 0 < length kernel.signals
  least_within s lt = let le = least_below s lt in omega arith

  -- the least signal of a class is its own
  pub least_own : (s : ℕ) → s < length kernel.signals → get_or least (get_or least s 0) 0 ≡ get_or least s 0
  least_own s lt =
      let m : ℕ = get_or least s 0 in
      let within : m < length kernel.signals = least_within s lt in
      let down : get_or least m 0 ≤ m = least_below m within in
      let up : m ≤ get_or least m 0 = is.least s (get_or least m 0) lt (joined s m (get_or least m 0) (is.same s lt) (is.same m within)) in
      omega (arith, down, up)

  -- signals have one least signal exactly where they are of one class
  pub least_of_class : (s t : ℕ) → s < length kernel.signals → t < length kernel.signals → SameClock kernel s t → get_or least s 0 ≡ get_or least t 0
  least_of_class s t ls lt same =
      let down : get_or least s 0 ≤ get_or least t 0 = is.least s (get_or least t 0) ls (joined s t (get_or least t 0) same (is.same t lt)) in
      let up : get_or least t 0 ≤ get_or least s 0 = is.least t (get_or least s 0) lt (joined t s (get_or least s 0) (turned s t same) (is.same s ls)) in
      omega (arith, down, up)

  pub class_of_least : (s t : ℕ) → s < length kernel.signals → t < length kernel.signals → get_or least s 0 ≡ get_or least t 0 → SameClock kernel s t
  class_of_least s t ls lt same =
      joined s (get_or least t 0) t (subst (SameClock kernel s) same (is.same s ls)) (turned t (get_or least t 0) (is.same t lt))

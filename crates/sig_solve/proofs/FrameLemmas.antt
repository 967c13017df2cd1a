-- Lemmas on frames and their leaders.
use Rattle.sig_solve.proofs.Common.{◌≡◌, ◌<◌, ℕ, eqb, List, length, get_or, sym, subst, arith, Contains, range_with_len, eq-eqb, eqb-true, Kernel, AreLeast, itself, joined, IsFrame, Frame, in_filter, of_filter, within_range}
use Rattle.sig_lists.proofs.Ranges.{in_range}

-- the least signal of a class is its own least signal
pub least_below : (kernel : Kernel) (least : List ℕ) → AreLeast kernel least → (s : ℕ) → s < length kernel.signals → get_or least s 0 < length kernel.signals
least_below kernel least are s lt = let le = are.least s s lt (itself s) in omega (arith, le, lt)

pub least_twice : (kernel : Kernel) (least : List ℕ) → AreLeast kernel least → (s : ℕ) → s < length kernel.signals → get_or least (get_or least s 0) 0 ≡ get_or least s 0
least_twice kernel least are s lt =
    let below = least_below kernel least are s lt in
    let down = are.least (get_or least s 0) (get_or least s 0) below (itself (get_or least s 0)) in
    let up = are.least s (get_or least (get_or least s 0) 0) lt (joined s (get_or least s 0) (get_or least (get_or least s 0) 0) (are.same s lt) (are.same (get_or least s 0) below)) in
    omega (arith, down, up)

module _ (frame : Frame) (is : IsFrame frame) where
  pub leader_in : (s : ℕ) → s < length frame.kernel.now.signals → Contains frame.leaders.items (get_or frame.least.items s 0)
  leader_in s lt =
      let below = least_below frame.kernel.now frame.least.items is.least s lt in
      let within : get_or frame.least.items s 0 < length frame.least.items = omega (arith, below, is.least.count) in
      subst (λ (xs : List ℕ). Contains xs (get_or frame.least.items s 0)) (sym is.leaders)
      (in_filter (λ k. eqb (get_or frame.least.items k 0) k) (range_with_len 0 (length frame.least.items)) (get_or frame.least.items s 0) (in_range (length frame.least.items) (get_or frame.least.items s 0) within)
      (eq-eqb (get_or frame.least.items (get_or frame.least.items s 0) 0) (get_or frame.least.items s 0) (least_twice frame.kernel.now frame.least.items is.least s lt)))

  pub leader_is : (s : ℕ) → Contains frame.leaders.items s → (s < length frame.kernel.now.signals) × (get_or frame.least.items s 0 ≡ s)
  leader_is s there =
      let parts = of_filter (λ k. eqb (get_or frame.least.items k 0) k) (range_with_len 0 (length frame.least.items)) s (subst (λ (xs : List ℕ). Contains xs s) is.leaders there) in
      let lt = within_range (length frame.least.items) s parts.0 in
      (omega (arith, lt, is.least.count), eqb-true (get_or frame.least.items s 0) s parts.1)

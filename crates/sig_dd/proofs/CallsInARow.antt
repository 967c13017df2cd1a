-- Calls in a row add up.
use Rattle.sig_dd.proofs.Common.{◌≡◌, ℕ, ◌+◌, ◌*◌, ◌<◌, ◌≤◌, ◌^◌, List, Option, None, Some, IfSome, Result, Ok, Err, length, refl, ap, arith, IsErrAnd, add-mul, StoreView, IsFull, allowance, refusal, IsRefused, Share, DdAnswer, Budget, OutOfMemory}

-- the share of one call, from what is known of each of its answers
pub share_of : {T : Type 0} (vs : List ℕ) (old new : StoreView) (result : Result T DdAnswer) → length new.nodes < length old.nodes + 2 ^ length vs
    → ((n : ℕ) → result ≡ Err (Budget n) → IsFull new n) → ((n : ℕ) → result ≡ Err (Budget n) → n + 1 < length old.nodes + 2 ^ length vs) → Share 1 vs old new (refusal result)
share_of vs old new (Ok x) added full budget = record { added = omega arith; refused = tt }
share_of vs old new (Err (Budget n)) added full budget = let lt = budget n refl in record { added = omega arith; refused = (full n refl, omega arith) }
share_of vs old new (Err OutOfMemory) added full budget = record { added = omega arith; refused = tt }

-- what `?` passes on
pub refusal_is : {T : Type 0} (result : Result T DdAnswer) (e : DdAnswer) → IsErrAnd result (λ d. d ≡ e) → refusal result ≡ Some e
refusal_is (Ok x) e h = absurd h
refusal_is (Err d) e h = ap Some h

module _ (r s t : StoreView) where
  refused_later : (a b : ℕ) → length s.nodes ≤ length r.nodes + a → (why : Option DdAnswer) → IfSome why (IsRefused s t b) → IfSome why (IsRefused r t (a + b))
  refused_later a b le None h = tt
  refused_later a b le (Some (Budget n)) h = let lt = h.1 in (h.0, omega arith)
  refused_later a b le (Some OutOfMemory) h = tt

  -- some calls, and then others
  pub Share-then : (m n : ℕ) (vs : List ℕ) (why : Option DdAnswer) → Share m vs r s None → Share n vs s t why → Share (m + n) vs r t why
  Share-then m n vs why first rest =
      let a = first.added in
      let b = rest.added in
      let both = add-mul m n (allowance vs) in
      record {
        added = omega (arith, both);
        refused = rw both (refused_later (m * allowance vs) (n * allowance vs) a why rest.refused);
      }

module _ (s t : StoreView) where
  refused_wider : (a b : ℕ) → a ≤ b → (why : Option DdAnswer) → IfSome why (IsRefused s t a) → IfSome why (IsRefused s t b)
  refused_wider a b le None h = tt
  refused_wider a b le (Some (Budget n)) h = let lt = h.1 in (h.0, omega arith)
  refused_wider a b le (Some OutOfMemory) h = tt

  -- more calls, or more variables, have a larger share
  pub Share-wider : (m n : ℕ) (vs ws : List ℕ) (why : Option DdAnswer) → m * allowance vs ≤ n * allowance ws → Share m vs s t why → Share n ws s t why
  Share-wider m n vs ws why le share =
      let a = share.added in
      record { added = omega arith; refused = refused_wider (m * allowance vs) (n * allowance ws) le why share.refused }

pub Share-none : (s : StoreView) (vs : List ℕ) → Share 0 vs s s None
Share-none s vs = record { added = omega arith; refused = tt }

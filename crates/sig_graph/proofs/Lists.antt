-- Elements of lists.
use Rattle.sig_graph.proofs.Common.{◌≡◌, ◌&&◌, Bool, true, false, List, [], ◌∷◌, refl, arith, Contains, list_all, false≢true, contains_later}

and_rest : (a b : Bool) → a ≡ true → (a && b) ≡ false → b ≡ false
and_rest true b is both = both
and_rest false b is both = absurd (false≢true is)

-- an element that fails the test, where not all pass it
pub failing : {X : Type 0} (p : X → Bool) (xs : List X) → list_all p xs ≡ false → (x : X) × Contains xs x × (p x ≡ false)
failing p [] is = cc
failing {X} p (x ∷ xs) is = at (p x) refl (failing p xs) where
  at : (b : Bool) → p x ≡ b → (list_all p xs ≡ false → (y : X) × Contains xs y × (p y ≡ false)) → (y : X) × Contains (x ∷ xs) y × (p y ≡ false)
  at false here rest = (x, (0, omega arith, refl), here)
  at true here rest = let from = rest (and_rest (p x) (list_all p xs) here is) in (from.0, contains_later x from.0 xs from.1, from.2)

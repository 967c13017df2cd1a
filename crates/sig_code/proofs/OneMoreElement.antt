-- Elements of a list that got one more.
use Rattle.sig_code.proofs.Common.{◌≡◌, ℕ, List, [], ◌∷◌, ◌++◌, Some, slice_get, ap, ◌∙◌, arith, length-append, get_or_append_left, get_or_from_slice_get, slice_get-get_or, slice_get_within}

-- what stood there stands there
pub push_old : {X : Type 0} (xs : List X) (y : X) (k : ℕ) (x : X) → slice_get xs k ≡ Some x → slice_get (xs ++ y ∷ []) k ≡ Some x
push_old xs y k x is =
    let lt = slice_get_within xs k x is in
    slice_get-get_or (xs ++ y ∷ []) k x (omega (arith, lt, length-append xs (y ∷ [])))
    ∙ ap Some (get_or_append_left xs (y ∷ []) x k lt ∙ get_or_from_slice_get xs k x x is)

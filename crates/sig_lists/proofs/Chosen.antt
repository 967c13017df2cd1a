-- What is chosen of a list.
use Rattle.std.proofs.Common.{Contains, List, None, Option, Some, [], ap, arith, inl, inr, refl, sym, ◌∙◌, ◌∷◌, ◌≡◌}
use Rattle.std.specs.List.{cons_option, filter_map}
use Rattle.sig_lists.proofs.Contained.{contains_cons, contains_head, contains_later, contains_none}

module _ {X Y : Type 0} (h : X → Option Y) where
  Chosen : List X → Y → Type 0
  Chosen xs y = (x : X) × Contains xs x × (h x ≡ Some y)

  chosen_later : (x : X) (xs : List X) (y : Y) → Chosen xs y → Chosen (x ∷ xs) y
  unfolding Chosen
  chosen_later x xs y from = (from.0, contains_later x from.0 xs from.1, from.2)

  chosen_here : (x : X) (xs : List X) (ys : List Y) (y : Y) (o : Option Y) → h x ≡ o → (Contains ys y → Chosen xs y) → Contains (cons_option o ys) y → Chosen (x ∷ xs) y
  unfolding Chosen
  chosen_here x xs ys y None is rest there = chosen_later x xs y (rest there)
  chosen_here x xs ys y (Some z) is rest there = elim (contains_cons z y ys there) [
    | inl same ↦ (x, contains_head x xs, is ∙ ap Some (sym same))
    | inr later ↦ chosen_later x xs y (rest later)
  ]

  -- what a choice of elements holds
  chosen_in : (xs : List X) (y : Y) → Contains (filter_map h xs) y → Chosen xs y
  chosen_in [] y there = absurd (contains_none y there)
  chosen_in (x ∷ xs) y there = chosen_here x xs (filter_map h xs) y (h x) refl (chosen_in xs y) there

  pub chosen_from : (xs : List X) (y : Y) → Contains (filter_map h xs) y → (x : X) × Contains xs x × (h x ≡ Some y)
  unfolding Chosen
  chosen_from xs y there = chosen_in xs y there

  put : (o : Option Y) (ys : List Y) (y : Y) → Contains ys y → Contains (cons_option o ys) y
  put None ys y there = there
  put (Some z) ys y there = contains_later z y ys there

  put_here : (o : Option Y) (ys : List Y) (y : Y) → o ≡ Some y → Contains (cons_option o ys) y
  put_here None ys y is = cc
  put_here (Some z) ys y is = (0, omega arith, let same : z ≡ y = cc in same)

  pub chosen : (xs : List X) (x : X) (y : Y) → Contains xs x → h x ≡ Some y → Contains (filter_map h xs) y
  chosen [] x y there is = absurd (contains_none x there)
  chosen (z ∷ xs) x y there is = elim (contains_cons z x xs there) [
    | inl same ↦ put_here (h z) (filter_map h xs) y (ap h (sym same) ∙ is)
    | inr later ↦ put (h z) (filter_map h xs) y (chosen xs x y later is)
  ]

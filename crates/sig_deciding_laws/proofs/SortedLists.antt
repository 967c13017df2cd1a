-- Lists in an order: what is decided of the elements of a list is true of those of a list that is in order.
use Rattle.sig_deciding_laws.proofs.Common.{◌≡◌, ◌<◌, ◌⊎◌, inl, inr, ◌↔◌, ℕ, zero, suc, List, [], ◌∷◌, refl, sym, subst, arith, Contains, cases_eq, SigId, signal_id, IsOrdered, at_contained, contains_at, contains_cons, contains_head, contains_later, contains_none}

module _ {X : Type 0} (D : X → Type 0) (decide : (x : X) → Dec (D x)) where
  -- the elements of a list of which a statement holds
  pub chosen : (all : List X) → (xs : List X) × ((x : X) → Contains xs x ↔ (Contains all x × D x))
  chosen [] = ([], λ x. ((λ there. absurd (contains_none x there)), (λ both. both.0)))
  chosen (a ∷ all) = at (chosen all) (decide a) where
    at : ((xs : List X) × ((x : X) → Contains xs x ↔ (Contains all x × D x))) → Dec (D a) → (xs : List X) × ((x : X) → Contains xs x ↔ (Contains (a ∷ all) x × D x))
    at rest (yes is) = (
      a ∷ rest.0,
      λ x. (
        (λ there. elim (contains_cons a x rest.0 there) [
          | inl same ↦ (subst (Contains (a ∷ all)) (sym same) (contains_head a all), subst D (sym same) is)
          | inr later ↦ (let both = (rest.1 x).0 later in (contains_later a x all both.0, both.1))
        ]),
        (λ both. elim (contains_cons a x all both.0) [
          | inl same ↦ subst (Contains (a ∷ rest.0)) (sym same) (contains_head a rest.0)
          | inr later ↦ contains_later a x rest.0 ((rest.1 x).1 (later, both.1))
        ]),
      ),
    )
    at rest (no fails) = (
      rest.0,
      λ x. (
        (λ there. let both = (rest.1 x).0 there in (contains_later a x all both.0, both.1)),
        (λ both. elim (contains_cons a x all both.0) [
          | inl same ↦ absurd (fails (subst D same both.1))
          | inr later ↦ (rest.1 x).1 (later, both.1)
        ]),
      ),
    )

module _ {X : Type 0} (R : X → X → Type 0) where
  tail_ordered : (x : X) (xs : List X) → IsOrdered R (x ∷ xs) → IsOrdered R xs
  tail_ordered x xs ordered i j a b lt at_i at_j = ordered (suc i) (suc j) a b (omega (arith, lt)) at_i at_j

  before_rest : (x y : X) (xs : List X) → IsOrdered R (x ∷ xs) → Contains xs y → R x y
  before_rest x y xs ordered there = ordered 0 (suc there.0) x y (omega arith) refl (at_contained xs y there)

  ordered_more : (x : X) (xs : List X) → ((y : X) → Contains xs y → R x y) → IsOrdered R xs → IsOrdered R (x ∷ xs)
  ordered_more x xs each ordered zero zero a b lt at_i at_j = absurd (omega (arith, lt))
  ordered_more x xs each ordered zero (suc j) a b lt at_i at_j = let same : x ≡ a = cc in subst (λ w. R w b) same (each b (contains_at xs j b at_j))
  ordered_more x xs each ordered (suc i) zero a b lt at_i at_j = absurd (omega (arith, lt))
  ordered_more x xs each ordered (suc i) (suc j) a b lt at_i at_j = ordered i j a b (omega (arith, lt)) at_i at_j

-- an order of the elements of which a statement holds
module _ {X : Type 0} (R : X → X → Type 0) (D : X → Type 0) (onward : (x y z : X) → R x y → R y z → R x z)
    (compare : (x y : X) → D x → D y → (x ≡ y) ⊎ (R x y ⊎ R y x)) where
  abbrev Inserted : X → List X → Type 0
  Inserted x xs = (ys : List X) × IsOrdered R ys × ((y : X) → Contains ys y ↔ ((y ≡ x) ⊎ Contains xs y))

  insert_here : (x : X) (xs : List X) → ((y : X) → Contains xs y → R x y) → IsOrdered R xs → Inserted x xs
  insert_here x xs each ordered = (
    x ∷ xs,
    ordered_more R x xs each ordered,
    λ y. (
      contains_cons x y xs,
      (λ either. elim either [ inl same ↦ subst (Contains (x ∷ xs)) (sym same) (contains_head x xs) | inr there ↦ contains_later x y xs there ]),
    ),
  )

  insert_same : (x : X) (xs : List X) → Contains xs x → IsOrdered R xs → Inserted x xs
  insert_same x xs there ordered = (
    xs,
    ordered,
    λ y. (
      (λ is. inr is),
      (λ either. elim either [ inl same ↦ subst (Contains xs) (sym same) there | inr is ↦ is ]),
    ),
  )

  insert_later : (x y : X) (xs : List X) → R y x → IsOrdered R (y ∷ xs) → Inserted x xs → Inserted x (y ∷ xs)
  insert_later x y xs before ordered rest = (
    y ∷ rest.0,
    ordered_more R y rest.0 (λ z there. elim ((rest.2 z).0 there) [ inl same ↦ subst (R y) (sym same) before | inr is ↦ before_rest R y z xs ordered is ]) rest.1,
    λ z. (
      (λ there. elim (contains_cons y z rest.0 there) [
        | inl same ↦ inr (subst (Contains (y ∷ xs)) (sym same) (contains_head y xs))
        | inr later ↦ elim ((rest.2 z).0 later) [ inl same ↦ inl same | inr is ↦ inr (contains_later y z xs is) ]
      ]),
      (λ either. elim either [
        | inl same ↦ contains_later y z rest.0 ((rest.2 z).1 (inl same))
        | inr is ↦ elim (contains_cons y z xs is) [
          | inl same ↦ subst (Contains (y ∷ rest.0)) (sym same) (contains_head y rest.0)
          | inr later ↦ contains_later y z rest.0 ((rest.2 z).1 (inr later))
        ]
      ]),
    ),
  )

  insert : (x : X) → D x → (xs : List X) → IsOrdered R xs → ((y : X) → Contains xs y → D y) → Inserted x xs
  insert x is [] ordered each = insert_here x [] (λ y there. absurd (contains_none y there)) ordered
  insert x is (y ∷ xs) ordered each = at (compare x y is (each y (contains_head y xs))) (insert x is xs (tail_ordered R y xs ordered) (λ z there. each z (contains_later y z xs there))) where
    at : (x ≡ y) ⊎ (R x y ⊎ R y x) → Inserted x xs → Inserted x (y ∷ xs)
    at (inl same) rest = insert_same x (y ∷ xs) (subst (Contains (y ∷ xs)) (sym same) (contains_head y xs)) ordered
    at (inr (inl before)) rest = insert_here x (y ∷ xs) (λ z there. elim (contains_cons y z xs there) [
      | inl same ↦ subst (R x) (sym same) before
      | inr later ↦ onward x y z before (before_rest R y z xs ordered later)
    ]) ordered
    at (inr (inr behind)) rest = insert_later x y xs behind ordered rest

  -- a list with the same elements, in order
  pub sorted : (all : List X) → ((x : X) → Contains all x → D x) → (xs : List X) × IsOrdered R xs × ((x : X) → Contains xs x ↔ Contains all x)
  sorted [] each = ([], (λ i j x y less at_i at_j. cc), λ x. ((λ there. there), (λ there. there)))
  sorted (a ∷ all) each = at (sorted all (λ x there. each x (contains_later a x all there))) where
    at : ((xs : List X) × IsOrdered R xs × ((x : X) → Contains xs x ↔ Contains all x)) → (xs : List X) × IsOrdered R xs × ((x : X) → Contains xs x ↔ Contains (a ∷ all) x)
    at rest =
        let more = insert a (each a (contains_head a all)) rest.0 rest.1 (λ x there. each x (contains_later a x all ((rest.2 x).0 there))) in (
          more.0,
          more.1,
          λ x. (
            (λ there. elim ((more.2 x).0 there) [ inl same ↦ subst (Contains (a ∷ all)) (sym same) (contains_head a all) | inr later ↦ contains_later a x all ((rest.2 x).0 later) ]),
            (λ there. (more.2 x).1 (elim (contains_cons a x all there) [ inl same ↦ inl same | inr later ↦ inr ((rest.2 x).1 later) ])),
          ),
        )

  -- all of which the statement holds, in order
  pub listed : (all : List X) → ((x : X) → D x → Contains all x) → ((x : X) → Dec (D x)) → (xs : List X) × IsOrdered R xs × ((x : X) → Contains xs x ↔ D x)
  listed all every decide =
      let some = chosen D decide all in
      let list = sorted some.0 (λ x there. ((some.1 x).0 there).1) in
      (list.0, list.1, λ x. ((λ there. ((some.1 x).0 ((list.2 x).0 there)).1), (λ is. (list.2 x).1 ((some.1 x).1 (every x is, is)))))

-- ---- signals

abbrev pub signals_below : ℕ → List SigId
signals_below zero = []
signals_below (suc n) = signal_id n ∷ signals_below n

pub below_listed : (n : ℕ) (x : SigId) → x.0 < n → Contains (signals_below n) x
below_listed zero x less = absurd (omega (arith, less))
below_listed (suc n) x less = elim (cases_eq n x.0) [
  | inl same ↦ (0, omega arith, λ j. record { 0 = same j })
  | inr apart ↦ contains_later (signal_id n) x (signals_below n) (below_listed n x (omega (arith, less, apart)))
]

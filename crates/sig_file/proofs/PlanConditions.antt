-- The conditions of a plan's image.
use Rattle.sig_file.proofs.Common.{◌≡◌, ℕ, zero, suc, ◌<◌, ◌≤◌, ◌⊎◌, inl, inr, Bool, true, false, List, [], ◌∷◌, length, map, take, slice_get, Option, Some, None, refl, sym, subst, arith, list_any, ◌==◌, not, Kind, Integer, Boolean, Event, SigId, IsTrue, get_or, eqb-true, and_parts, cases_lt, Signal, kind_of, Kernel, AreInOrder, is_free, HasLayer, IsEarlier, is_boolean_kind, one_layer, two_are_same, Each, is_boolean, is_condition_behind, kind_at, image_signal, contains_at, slice_get-get_or, slice_get_within, and_from, not_from_false, or_from}
use Rattle.sig_file.proofs.PlanSignals.{each_from, kind_image}

boolean_by : (o : Option Kind) → is_boolean_kind o ≡ true → is_boolean o ≡ true
boolean_by None e = absurd cc
boolean_by (Some Integer) e = absurd cc
boolean_by (Some Boolean) e = refl
boolean_by (Some Event) e = absurd cc

there_by : (o : Option Signal) → is_boolean_kind (kind_of o) ≡ true → (s : Signal) × (o ≡ Some s)
there_by None e = absurd cc
there_by (Some s) e = (s, refl)

not_earlier : (kernel : Kernel) (c d : ℕ) → c ≡ d → IsEarlier kernel c d → ⊥
not_earlier kernel c d same before = at before.before where
  layers : before.layer ≡ before.later_layer
  layers = one_layer kernel d before.layer before.later_layer (subst (λ (x : ℕ). HasLayer kernel x before.layer) same before.has) before.later_has

  at : (before.layer < before.later_layer) ⊎ ((before.layer ≡ before.later_layer) × (c < d)) → ⊥
  at (inl less) = omega (arith, less, layers)
  at (inr less) = omega (arith, less.1, same)

front : (xs : List SigId) (n k : ℕ) (c : SigId) → slice_get (take n xs) k ≡ Some c → (k < n) × (slice_get xs k ≡ Some c)
front [] zero k c e = absurd cc
front [] (suc n) k c e = absurd cc
front (x ∷ xs) zero k c e = absurd cc
front (x ∷ xs) (suc n) zero c e = (omega arith, e)
front (x ∷ xs) (suc n) (suc k) c e = let rest = front xs n k c e in (omega (arith, rest.0), rest.1)

none_before : (xs : List SigId) (x : ℕ) → ((k : ℕ) (c : SigId) → slice_get xs k ≡ Some c → c.0 ≡ x → ⊥) → list_any (λ (c : SigId). c.0 == x) xs ≡ false
none_before [] x f = refl
none_before (c ∷ xs) x f = by (c.0 == x) refl (none_before xs x (λ k d. f (suc k) d)) where
  by : (b : Bool) → (c.0 == x) ≡ b → list_any (λ (d : SigId). d.0 == x) xs ≡ false → list_any (λ (d : SigId). d.0 == x) (c ∷ xs) ≡ false
  by true e rest = absurd (f 0 c refl (eqb-true c.0 x e))
  by false e rest = or_from (c.0 == x) (list_any (λ (d : SigId). d.0 == x) xs) e rest

module _ (kernel : Kernel) (conditions : List SigId) (order : AreInOrder kernel conditions) where
  free_boolean : (n : ℕ) (x : SigId) → slice_get conditions n ≡ Some x → is_boolean_kind (kind_of (slice_get kernel.signals x.0)) ≡ true
  free_boolean n x e = (and_parts (is_boolean_kind (kind_of (slice_get kernel.signals x.0))) (is_free kernel x.0) ((order.all x).0 (contains_at conditions n x e))).0

  condition_right : (n : ℕ) (x : SigId) → slice_get conditions n ≡ Some x → is_condition_behind (map image_signal kernel.signals) (take n conditions) x.0 ≡ true
  condition_right n x e =
      let boolean = subst (λ (o : Option Kind). is_boolean o ≡ true) (sym (kind_image kernel.signals x.0)) (boolean_by (kind_of (slice_get kernel.signals x.0)) (free_boolean n x e)) in
      let none = none_before (take n conditions) x.0 (λ k c at same. (let there = front conditions n k c at in not_earlier kernel c.0 x.0 same (order.order k n c x there.0 there.1 e))) in
      and_from (is_boolean (kind_at (map image_signal kernel.signals) x.0)) (not (list_any (λ (c : SigId). c.0 == x.0) (take n conditions))) boolean (not_from_false (list_any (λ (c : SigId). c.0 == x.0) (take n conditions)) none)

  -- each condition is a boolean, and no condition before it
  pub conditions_right : Each (λ before (x : SigId). IsTrue (is_condition_behind (map image_signal kernel.signals) before x.0)) [] conditions
  conditions_right = each_from (λ before (x : SigId). IsTrue (is_condition_behind (map image_signal kernel.signals) before x.0)) [] conditions condition_right

  number_at : ℕ → ℕ
  number_at k = (get_or conditions k (record { 0 = 0 })).0

  number_below : (k : ℕ) → k < length conditions → number_at k < length kernel.signals
  unfolding number_at
  number_below k lt =
      let x = get_or conditions k (record { 0 = 0 }) in
      let there = there_by (slice_get kernel.signals x.0) (free_boolean k x (slice_get-get_or conditions k (record { 0 = 0 }) lt)) in
      slice_get_within kernel.signals x.0 there.0 there.1

  -- there are no more conditions than signals
  pub conditions_few : length conditions ≤ length kernel.signals
  unfolding number_at
  conditions_few = elim (cases_lt (length kernel.signals) (length conditions)) [
    | inr le ↦ le
    | inl more ↦ (
        let two = two_are_same (length kernel.signals) number_at (λ k lt. number_below k (omega (arith, lt, more))) in
        let less = two.less in
        let within = two.within in
        absurd (not_earlier kernel (number_at two.a) (number_at two.b) two.same
        (order.order two.a two.b (get_or conditions two.a (record { 0 = 0 })) (get_or conditions two.b (record { 0 = 0 })) two.less
        (slice_get-get_or conditions two.a (record { 0 = 0 }) (omega (arith, less, within, more))) (slice_get-get_or conditions two.b (record { 0 = 0 }) (omega (arith, within, more)))))
        )
  ]

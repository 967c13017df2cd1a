-- Lemmas on the lists of a kernel's conditions: by number, and in their order.
use Rattle.sig_solve.proofs.Common.{◌≡◌, ◌<◌, ◌≤◌, ◌+◌, ◌⊎◌, inl, inr, ℕ, Bool, true, false, cond, ltb, List, [], ◌∷◌, length, filter, refl, ap, ◌∙◌, arith, Contains, length-append, zero, suc, Some, slice_get, cases_eq, cases_lt, eq-eqb, false≢true, lt-ltb, ltb-true, SigId, Kernel, AreInOrder, conditions_of, one_layer, AreConditions, IsFrame, by_layer, of_layer, AreSettled, layer_in, Frame, contains_head, contains_later}
use Rattle.sig_solve.proofs.OrderLemmas.{by_fewer, conditions_in_order, signal_layer, sorted_at, sorted_conditions}
use Rattle.sig_solve.proofs.ReactionLemmas.{condition_is_signal}
use Rattle.sig_solve.proofs.RoundLemmas.{condition_listed, listed_condition}

-- the conditions by number, each once
pub conditions_by_number : (kernel : Kernel) → AreConditions kernel (conditions_of kernel)
conditions_by_number kernel = record {
  all = λ c. (condition_listed kernel c, (λ is. listed_condition kernel c.0 is));
  once = once;
  count = refl;
} where
  less : (i j : ℕ) (c : SigId) → i < j → slice_get (conditions_of kernel) i ≡ Some c → slice_get (conditions_of kernel) j ≡ Some c → ⊥
  less i j c lt at_i at_j = let own = sorted_at (λ (c d : SigId). c.0 < d.0) (conditions_of kernel) (sorted_conditions kernel) i j c c lt at_i at_j in omega (arith, own)

  once : (i j : ℕ) (c : SigId) → slice_get (conditions_of kernel) i ≡ Some c → slice_get (conditions_of kernel) j ≡ Some c → i ≡ j
  once i j c at_i at_j = elim (cases_eq i j) [
    | inl e ↦ e
    | inr ne ↦ absurd (elim (cases_lt i j) [ inl lt ↦ less i j c lt at_i at_j | inr le ↦ less j i c (omega (arith, le, ne)) at_j at_i ])
  ]

filter_all : {X : Type 0} (p : X → Bool) (xs : List X) → ((x : X) → Contains xs x → p x ≡ true) → length (filter p xs) ≡ length xs
filter_all p [] all = refl
filter_all {X} p (x ∷ xs) all = by (p x) (all x (contains_head x xs)) (filter_all p xs (λ y there. all y (contains_later x y xs there))) where
  by : (b : Bool) → b ≡ true → length (filter p xs) ≡ length xs → length (cond b (x ∷ filter p xs) (filter p xs)) ≡ suc (length xs)
  by true is rest = ap suc rest
  by false is rest = absurd (false≢true is)

filter_no : {X : Type 0} (p : X → Bool) (xs : List X) → ((x : X) → Contains xs x → p x ≡ true → ⊥) → length (filter p xs) ≡ 0
filter_no p [] none = refl
filter_no {X} p (x ∷ xs) none = by (p x) (none x (contains_head x xs)) (filter_no p xs (λ y there. none y (contains_later x y xs there))) where
  by : (b : Bool) → (b ≡ true → ⊥) → length (filter p xs) ≡ 0 → length (cond b (x ∷ filter p xs) (filter p xs)) ≡ 0
  by true not rest = absurd (not refl)
  by false not rest = rest

split_more : (p q r : SigId → Bool) (xs : List SigId) → ((c : SigId) → r c ≡ true → (p c ≡ true) ⊎ (q c ≡ true)) → length (filter r xs) ≤ length (filter p xs) + length (filter q xs)
split_more p q r [] either = omega arith
split_more p q r (x ∷ xs) either = by (p x) (q x) (r x) (either x) (split_more p q r xs either) where
  by : (a b e : Bool) → (e ≡ true → (a ≡ true) ⊎ (b ≡ true)) → length (filter r xs) ≤ length (filter p xs) + length (filter q xs)
      → length (cond e (x ∷ filter r xs) (filter r xs)) ≤ length (cond a (x ∷ filter p xs) (filter p xs)) + length (cond b (x ∷ filter q xs) (filter q xs))
  by true true true h rest = omega (arith, rest)
  by true false true h rest = omega (arith, rest)
  by false true true h rest = omega (arith, rest)
  by false false true h rest = absurd (elim (h refl) [ inl e ↦ false≢true e | inr e ↦ false≢true e ])
  by true true false h rest = omega (arith, rest)
  by true false false h rest = omega (arith, rest)
  by false true false h rest = omega (arith, rest)
  by false false false h rest = omega (arith, rest)

-- where each signal has one of these layers, all of them are listed
module _ (frame : Frame) (layers : List ℕ) (signals : List SigId) (above : (c : SigId) → Contains signals c → 1 ≤ layer_in frame layers c.0) where
  abbrev below : ℕ → SigId → Bool
  below n c = ltb (layer_in frame layers c.0) (suc n)

  by_more : (n : ℕ) → length (filter (λ (c : SigId). ltb (layer_in frame layers c.0) (suc n)) signals) ≤ length (by_layer frame layers signals n)
  by_more zero = omega (arith, filter_no (λ (c : SigId). ltb (layer_in frame layers c.0) 1) signals (λ c there is. let pos = above c there in let less = ltb-true (layer_in frame layers c.0) 1 is in omega (arith, pos, less)))
  by_more (suc n) =
      let split = split_more (λ (c : SigId). ltb (layer_in frame layers c.0) (suc n)) (of_layer frame layers (suc n)) (λ (c : SigId). ltb (layer_in frame layers c.0) (suc (suc n))) signals
      (λ c is. let less = ltb-true (layer_in frame layers c.0) (suc (suc n)) is in elim (cases_eq (layer_in frame layers c.0) (suc n)) [
        | inl e ↦ inr (eq-eqb (layer_in frame layers c.0) (suc n) e)
        | inr ne ↦ inl (lt-ltb (layer_in frame layers c.0) (suc n) (omega (arith, less, ne)))
      ]) in
      omega (arith, split, by_more n, length-append (by_layer frame layers signals n) (filter (of_layer frame layers (suc n)) signals))

  pub by_all : (n : ℕ) → ((c : SigId) → Contains signals c → layer_in frame layers c.0 ≤ n) → length (by_layer frame layers signals n) ≡ length signals
  by_all n most =
      let full = filter_all (λ (c : SigId). ltb (layer_in frame layers c.0) (suc n)) signals (λ c there. lt-ltb (layer_in frame layers c.0) (suc n) (let le = most c there in omega (arith, le))) in
      omega (arith, full, by_more n, by_fewer frame layers signals n)

-- the conditions in their order, each once
pub conditions_listed : (frame : Frame) (is : IsFrame frame) (layers : List ℕ) (settled : AreSettled frame layers []) (ordered : List SigId) → ordered ≡ by_layer frame layers (conditions_of frame.kernel.now) (length frame.leaders.items)
    → AreInOrder frame.kernel.now ordered × AreConditions frame.kernel.now ordered
conditions_listed frame is layers settled ordered same = (
  order,
  record {
    all = order.all;
    once = λ i j c at_i at_j. elim (cases_eq i j) [
      | inl e ↦ e
      | inr ne ↦ absurd (elim (cases_lt i j) [ inl lt ↦ less i j c lt at_i at_j | inr le ↦ less j i c (omega (arith, le, ne)) at_j at_i ])
    ];
    count = ap length same ∙ by_all frame layers (conditions_of frame.kernel.now) (λ c there. (layer c there).0) (length frame.leaders.items) (λ c there. (layer c there).1);
  },
) where
  order : AreInOrder frame.kernel.now ordered
  order = conditions_in_order frame is layers settled ordered same

  layer : (c : SigId) → Contains (conditions_of frame.kernel.now) c → (1 ≤ layer_in frame layers c.0) × (layer_in frame layers c.0 ≤ length frame.leaders.items)
  layer c there = let at = signal_layer frame is layers settled c.0 (condition_is_signal frame.kernel.now c.0 (condition_listed frame.kernel.now c there)) in (at.1, at.2)

  less : (i j : ℕ) (c : SigId) → i < j → slice_get ordered i ≡ Some c → slice_get ordered j ≡ Some c → ⊥
  less i j c lt at_i at_j =
      let earlier = (conditions_in_order frame is layers settled ordered same).order i j c c lt at_i at_j in
      let layers_same = one_layer frame.kernel.now c.0 earlier.layer earlier.later_layer earlier.has earlier.later_has in
      elim earlier.before [ inl below ↦ omega (arith, below, layers_same) | inr both ↦ (let own = both.1 in omega (arith, own)) ]

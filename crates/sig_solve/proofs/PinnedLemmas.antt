-- Lemmas on pinned conditions.
use Rattle.sig_solve.proofs.Common.{◌≡◌, ◌<◌, ◌⊎◌, inl, inr, ℕ, true, List, [], ◌∷◌, length, length-take, take, refl, sym, ap, ◌∙◌, subst, arith, zero, suc, None, Some, slice_get, cases_order, SigId, Kernel, AreInOrder, is_condition, signal_id, IsEarlier, IsFree, IsPinned, one_layer, FindsPinned, IsAmong, IsFreeBy, IsPinnedBy, contains_at, slice_get-get_or}

-- the conditions before a place are the earlier ones
pub not_both : (kernel : Kernel) (c d : ℕ) → IsEarlier kernel c d → IsEarlier kernel d c → ⊥
not_both kernel c d a b =
    let first : a.layer ≡ b.later_layer = one_layer kernel c a.layer b.later_layer a.has b.later_has in
    let second : a.later_layer ≡ b.layer = one_layer kernel d a.later_layer b.layer a.later_has b.has in
    elim a.before [
      | inl less ↦ elim b.before [ inl more ↦ omega (arith, less, more, first, second) | inr same ↦ omega (arith, less, same.0, first, second) ]
      | inr equal ↦ elim b.before [ inl more ↦ omega (arith, equal.0, more, first, second) | inr same ↦ omega (arith, equal.1, same.1) ]
    ]

pub taken_below : {X : Type 0} (xs : List X) (n k : ℕ) → k < length (take n xs) → k < n
taken_below xs n k lt = omega (arith, length-take n xs, lt)

pub get_take : {X : Type 0} (xs : List X) (n k : ℕ) → k < n → slice_get (take n xs) k ≡ slice_get xs k
get_take [] zero k lt = absurd (omega (arith, lt))
get_take (x ∷ xs) zero k lt = absurd (omega (arith, lt))
get_take (x ∷ xs) (suc n) (suc k) lt = get_take xs n k (omega (arith, lt))
get_take _ (suc n) _ lt = refl

module _ (kernel : Kernel) (conditions : List SigId) (order : AreInOrder kernel conditions) (place : ℕ) (b : SigId) (at : slice_get conditions place ≡ Some b) where
  among_earlier : (c : ℕ) → IsAmong (take place conditions) c → IsEarlier kernel c b.0
  among_earlier c there =
      let lt = taken_below conditions place there.0 there.1 in
      let is : slice_get conditions there.0 ≡ Some (signal_id c) = sym (get_take conditions place there.0 lt) ∙ slice_get-get_or (take place conditions) there.0 (signal_id c) there.1 ∙ ap Some there.2 in
      order.order there.0 place (signal_id c) b lt is at

  pub earlier_among : (c : ℕ) → IsEarlier kernel c b.0 → (k : ℕ) × (k < place) × (slice_get conditions k ≡ Some (signal_id c))
  earlier_among c earlier =
      let there = (order.all (signal_id c)).1 earlier.is in
      let is : slice_get conditions there.0 ≡ Some (signal_id c) = slice_get-get_or conditions there.0 (signal_id c) there.1 ∙ ap Some there.2 in
      (there.0, by there.0 is earlier (cases_order there.0 place), is)
    where
      by : (k : ℕ) → slice_get conditions k ≡ Some (signal_id c) → IsEarlier kernel c b.0 → ((k ≡ place) ⊎ ((k < place) ⊎ (place < k))) → k < place
      by k is earlier (inl same) =
          let e : Some (signal_id c) ≡ Some b = sym is ∙ ap (slice_get conditions) same ∙ at in
          let own : c ≡ b.0 = ap (λ (x : SigId). x.0) (let f : signal_id c ≡ b = cc in f) in
          absurd (not_both kernel c b.0 earlier (subst (λ k. IsEarlier kernel b.0 k) (sym own) (subst (λ k. IsEarlier kernel k b.0) own earlier)))
      by k is earlier (inr (inl less)) = less
      by k is earlier (inr (inr more)) = absurd (not_both kernel c b.0 earlier (order.order place k b (signal_id c) more at is))

  pub earlier_in : (c : ℕ) → IsEarlier kernel c b.0 → IsAmong (take place conditions) c
  earlier_in c earlier = let found = earlier_among c earlier in contains_at (take place conditions) found.0 (signal_id c) (get_take conditions place found.0 found.1 ∙ found.2)

  is_b : is_condition kernel b.0 ≡ true
  is_b = (order.all b).0 (contains_at conditions place b at)

  pub pinned_is : IsPinnedBy kernel (IsAmong (take place conditions)) b.0 → IsPinned kernel b.0
  pinned_is by = record {
    is = is_b;
    reaction = by.reaction;
    truth = by.truth;
    possible = by.possible;
    present = by.present;
    forced = λ other possible agree status. by.forced other possible (λ c is_c known. agree c is_c (among_earlier c known)) status;
  }

  pub free_is : IsFreeBy kernel (IsAmong (take place conditions)) b.0 → IsFree kernel b.0
  free_is by reaction truth possible status = let at = by reaction truth possible status in (at.0, at.1, (λ c is_c known. at.2 c is_c (earlier_in c known)), at.3)

free_not_pinned : (kernel : Kernel) (c : ℕ) → IsFree kernel c → IsPinned kernel c → ⊥
free_not_pinned kernel c free pinned = let at = free pinned.reaction pinned.truth pinned.possible pinned.present in pinned.forced at.0 at.1 at.2 at.3

pub first_pinned : (kernel : Kernel) (conditions : List SigId) (order : AreInOrder kernel conditions) (place : ℕ) (b : SigId) → slice_get conditions place ≡ Some b
    → ((k : ℕ) (c : SigId) → k < place → slice_get conditions k ≡ Some c → IsFree kernel c.0) → IsPinnedBy kernel (IsAmong (take place conditions)) b.0 → FindsPinned kernel conditions (Some b)
first_pinned kernel conditions order place b at free by = (
  pinned_is kernel conditions order place b at by,
  λ other earlier pinned. let found = earlier_among kernel conditions order place b at other earlier in free_not_pinned kernel other (free found.0 (signal_id other) found.1 found.2) pinned,
)

pub all_free : (kernel : Kernel) (conditions : List SigId) (order : AreInOrder kernel conditions) → ((k : ℕ) (c : SigId) → k < length conditions → slice_get conditions k ≡ Some c → IsFree kernel c.0) → FindsPinned kernel conditions None
all_free kernel conditions order free c is =
    let there = (order.all (signal_id c)).1 is in
    free there.0 (signal_id c) there.1 (slice_get-get_or conditions there.0 (signal_id c) there.1 ∙ ap Some there.2)

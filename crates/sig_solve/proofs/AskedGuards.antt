-- Lemmas on guards: the images of presences, with the proposals at the places of their conditions.
use Rattle.sig_solve.proofs.Common.{◌≡◌, ◌≢◌, ◌<◌, ◌+◌, inl, inr, ℕ, Bool, true, List, length, map, get_or, set, sym, ap, ◌∙◌, subst, arith, IsTrue, Some, Result, Ok, Err, IfOk, slice_get, length-set, cases_eq, cases_order, SigId, Allows, KeepsTo, AreInOrder, is_condition, Reaction, Speaks, is_present, status_at, Depends, truth_of, IsRefOf, Keeps, StoreView, test, DdAnswer, Node, Ref, Holds-kept, SystemView, reading, AreProposed, ArePlaced, ForgetsAllBut, IsAskedIn, IsImage, IsGuard, Asked, Frame, contains_at, slice_get-get_or, slice_get_within, get_set_same, test-kept}
use Rattle.sig_solve.proofs.AskedLemmas.{is_condition_at, kept_proposals, moved, number_of, speaks_read, variable_at}
use Rattle.sig_solve.proofs.ListLemmas.{get_set_other}
use Rattle.sig_solve.proofs.PinnedLemmas.{not_both}
use Rattle.sig_solve.proofs.SystemLemmas.{keeps_at, proposed_truth}

-- ---- places

-- the places as far as some conditions tell
pub record ArePlacedTo (system : SystemView) (conditions : List SigId) (n : ℕ) (places : List ℕ) : Type 0 where
  pub count : length places ≡ system.first + system.variables
  pub each : (i v : ℕ) (c : SigId) → i < n → slice_get system.conditions i ≡ Some c → slice_get system.proposals i ≡ Some v → (place : ℕ) × (slice_get conditions place ≡ Some c) × (slice_get places v ≡ Some place)

module _ (system : SystemView) (are : AreProposed system) (conditions : List SigId) (n : ℕ) (places : List ℕ) (before : ArePlacedTo system conditions n places) (c : SigId) (v : ℕ) (at : slice_get system.conditions n ≡ Some c) (own : slice_get system.proposals n ≡ Some v) where
  pub variable_within : v < length places
  variable_within = let var = are.proposal n v own in let end = var.1 in omega (arith, end, before.count)

  pub next_placed : (place : ℕ) → slice_get conditions place ≡ Some c → ArePlacedTo system conditions (n + 1) (set places v place)
  next_placed place there = record {
    count = length-set places v place ∙ before.count;
    each = λ i w d lt at_d at_w. elim (cases_eq i n) [
      | inl e ↦
          let both : Some c ≡ Some d = sym at ∙ ap (slice_get system.conditions) (sym e) ∙ at_d in
          let same : c ≡ d = cc in
          let variables : Some v ≡ Some w = sym own ∙ ap (slice_get system.proposals) (sym e) ∙ at_w in
          let one : v ≡ w = cc in
          (place, there ∙ ap Some same, subst (λ u. slice_get (set places v place) u ≡ Some place) one (get_set_same places v place variable_within))
      | inr ne ↦
          let rest = before.each i w d (omega (arith, lt, ne)) at_d at_w in
          let apart : w ≢ v = λ e. ne (are.apart i n v (at_w ∙ ap Some e) own) in
          (rest.0, rest.1, get_set_other places v w place rest.0 apart rest.2)
    ];
  }

-- ---- guards

-- the conditions in their order stand at one place each
one_place : (kernel : _) (conditions : List SigId) → AreInOrder kernel conditions → (j k : ℕ) (c : SigId) → slice_get conditions j ≡ Some c → slice_get conditions k ≡ Some c → j ≡ k
one_place kernel conditions order j k c at_j at_k = elim (cases_order j k) [
  | inl e ↦ e
  | inr (inl less) ↦ (let earlier = order.order j k c c less at_j at_k in absurd (not_both kernel c.0 c.0 earlier earlier))
  | inr (inr more) ↦ (let earlier = order.order k j c c more at_k at_j in absurd (not_both kernel c.0 c.0 earlier earlier))
]

module _ (store : StoreView) (asked : Asked) (is : IsAskedIn store asked) (conditions : List SigId) (order : AreInOrder asked.frame.kernel.now conditions) (forgotten : List Bool) (but : ForgetsAllBut asked.system conditions forgotten)
    (places : List ℕ) (placed : ArePlaced asked.system conditions places) (s : ℕ) (image : Ref) (is_image : IsImage store.nodes asked forgotten (λ r. is_present r s ≡ true) image) where
  -- the truth that a proposal gives a condition is that of its variable, with the places put in
  placed_truth : (proposal : List Bool) (i v k : ℕ) (c : SigId) → slice_get asked.system.conditions i ≡ Some c → slice_get asked.system.proposals i ≡ Some v → slice_get conditions k ≡ Some c → truth_of (map (truth_of proposal) places) v ≡ truth_of proposal k
  placed_truth proposal i v k c at own at_k =
      let place = placed.each v c (i, at, own) in
      proposed_truth proposal places v place.0 place.2 ∙ ap (truth_of proposal) (one_place asked.frame.kernel.now conditions order place.0 k c place.1 at_k)

  condition_place : (c : SigId) → is_condition asked.frame.kernel.now c.0 ≡ true → (k : ℕ) × (slice_get conditions k ≡ Some c)
  condition_place c is_c = let there = (order.all c).1 is_c in (there.0, slice_get-get_or conditions there.0 c there.1 ∙ ap Some there.2)

  module _ (new : List Node) (guard : Ref) (renamed : IsRefOf new (λ ts. test store.nodes image (map (truth_of ts) places)) guard)
      (depends : (w : ℕ) → Depends (test new guard) w → (v : ℕ) × Depends (test store.nodes image) v × (slice_get places v ≡ Some w)) where
    to_reaction : (proposal : List Bool) → IsTrue (test new guard proposal) → (r : Reaction) × Speaks asked.frame.kernel.now r × KeepsTo conditions proposal r × (is_present r s ≡ true)
    to_reaction proposal t =
        let w = (is_image.function (map (truth_of proposal) places)).0 (sym (renamed.function proposal) ∙ t) in (
          reading store.nodes asked.system w.0,
          speaks_read store asked is w.0 w.2,
          λ k c at_k.
              let is_c = (order.all c).0 (contains_at conditions k c at_k) in
              let (i, at) = number_of store asked is c.0 is_c in
              let own = variable_at store asked is i c at in
              let v = get_or asked.system.proposals i 0 in
              let kept = but.kept v c (contains_at conditions k c at_k) (i, at, own) in
              subst (Allows (status_at (reading store.nodes asked.system w.0) c.0)) (sym (w.1 v kept) ∙ placed_truth proposal i v k c at own at_k)
              (keeps_at asked.frame.kernel.now store.nodes asked.system is.is_system w.0 i v c at own),
          w.3,
        )

    from_reaction : (proposal : List Bool) → (r : Reaction) × Speaks asked.frame.kernel.now r × KeepsTo conditions proposal r × (is_present r s ≡ true) → IsTrue (test new guard proposal)
    from_reaction proposal (r, speaks, keeps, here) =
        let b = is.is_system.complete r speaks in
        let ts = map (truth_of proposal) places in
        let o = moved store asked is forgotten (kept_proposals store asked is conditions forgotten but) ts b.0 b.1
        (λ i v c at own kept.
        let (k, at_k) = condition_place c (is_condition_at store asked is i c at) in
        subst (λ x. Allows (status_at x c.0) (truth_of ts v)) (sym b.2) (subst (Allows (status_at r c.0)) (sym (placed_truth proposal i v k c at own at_k)) (keeps k c at_k))) in
        renamed.function proposal ∙ (is_image.function ts).1 (o.0, o.1, o.2, ap (λ x. is_present x s) (o.3 ∙ b.2) ∙ here)

    pub image_guard : IsGuard new asked.frame conditions s guard
    image_guard = record {
      held = renamed.holds;
      function = λ proposal. (to_reaction proposal, from_reaction proposal);
      variables = λ w d.
          let (v, of, at) = depends w d in
          let other = but.others v (is_image.over.within v of) (is_image.forgets v of) in
          let place = placed.each v other.0 other.2 in
          let both : Some w ≡ Some place.0 = sym at ∙ place.2 in
          let same : w ≡ place.0 = cc in
          omega (arith, same, slice_get_within conditions place.0 other.0 place.1);
    }

  pub guard_ok : (new : StoreView) (result : Result Ref DdAnswer) → IfOk result (λ r. IsRefOf new.nodes (λ ts. test store.nodes image (map (truth_of ts) places)) r)
      → IfOk result (λ r. (w : ℕ) → Depends (test new.nodes r) w → (v : ℕ) × Depends (test store.nodes image) v × (slice_get places v ≡ Some w)) → IfOk result (IsGuard new.nodes asked.frame conditions s)
  guard_ok new (Ok r) renamed depends = image_guard new.nodes r renamed depends
  guard_ok new (Err e) renamed depends = tt

-- guards stay as the store grows
pub guard_stays : (old new : StoreView) (frame : Frame) (conditions : List SigId) (f : Ref) → Keeps old new → (s : ℕ) → IsGuard old.nodes frame conditions s f → IsGuard new.nodes frame conditions s f
guard_stays old new frame conditions f kept s is = record {
  held = Holds-kept old new kept f is.held;
  function = λ ts. ((λ t. (is.function ts).0 (sym (test-kept old new kept f is.held ts) ∙ t)), (λ w. test-kept old new kept f is.held ts ∙ (is.function ts).1 w));
  variables = λ v d. is.variables v (d.0, λ e. d.1 (test-kept old new kept f is.held _ ∙ e ∙ sym (test-kept old new kept f is.held _)));
}

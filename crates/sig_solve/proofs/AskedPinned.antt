-- Lemmas on pinned conditions: what the images of the two halves of a condition say.
use Rattle.sig_solve.proofs.Common.{◌≡◌, ◌≢◌, ◌<◌, ◌≤◌, ◌⊎◌, inl, inr, ℕ, Bool, true, false, not, eqb, List, take, refl, sym, ap, ◌∙◌, subst, arith, Contains, IsTrue, zero, suc, None, Some, slice_get, cases_eq, cases_lt, cases_order, eq-eqb, eqb-true, false≢true, SigId, Kernel, AreInOrder, is_condition, signal_id, AgreeOn, EntersBy, HasLayer, IsReaction, Reaction, Speaks, is_silent, status_at, one_layer, absent_in_silence, truth_of, StoreView, diagram, test, Ref, proper, same_ref, equal_or_differ, IsSolution, reading, AreHalves, ForgetsAllBut, IsAskedIn, IsImage, IsAmong, IsFreeBy, IsPinnedBy, Asked, contains_at, slice_get-get_or}
use Rattle.sig_dd.proofs.Canonical.{one_reference}
use Rattle.sig_solve.proofs.AskedLemmas.{speaks_read}
use Rattle.sig_solve.proofs.AskedRounds.{agreeing, one_status}
use Rattle.sig_solve.proofs.PinnedLemmas.{get_take, taken_below}

-- a reaction that has a signal speaks
speaking : (kernel : Kernel) (r : Reaction) (s : ℕ) (x : Bool) → IsReaction kernel r → status_at r s ≡ Some x → Speaks kernel r
speaking kernel r s x possible here = record { is = possible; some = by (is_silent r) refl } where
  by : (b : Bool) → is_silent r ≡ b → is_silent r ≡ false
  by false e = e
  by true e = absurd (let none : None ≡ Some x = sym (absent_in_silence r s e) ∙ here in cc)

-- what a test of two references tells
pub refs_apart : (f g : Ref) (b : Bool) → b ≡ not (eqb f.number g.number) → b ≡ true → f ≡ g → ⊥
refs_apart f g b is there same = false≢true (sym (is ∙ ap not (eq-eqb f.number g.number (ap (λ (r : Ref). r.number) same))) ∙ there)

pub refs_same : (f g : Ref) (b : Bool) → b ≡ not (eqb f.number g.number) → b ≡ false → f ≡ g
refs_same f g b is gone = same_ref f g (eqb-true f.number g.number (by (eqb f.number g.number) (sym is ∙ gone))) where
  by : (x : Bool) → not x ≡ false → x ≡ true
  by true e = refl
  by false e = absurd (false≢true (sym e))

module _ (store : StoreView) (asked : Asked) (is : IsAskedIn store asked) (conditions : List SigId) (order : AreInOrder asked.frame.kernel.now conditions) (place : ℕ) (b : SigId) (at : slice_get conditions place ≡ Some b) where
  abbrev kernel : Kernel
  kernel = asked.frame.kernel.now

  -- the place of a condition among the earlier ones
  earlier_place : (c : ℕ) → IsAmong (take place conditions) c → (k : ℕ) × (k < place) × (slice_get conditions k ≡ Some (signal_id c))
  earlier_place c there =
      let lt = taken_below conditions place there.0 there.1 in
      (there.0, lt, sym (get_take conditions place there.0 lt) ∙ slice_get-get_or (take place conditions) there.0 (signal_id c) there.1 ∙ ap Some there.2)

  -- ---- the earlier conditions agree where their proposals do

  module _ (p q : List Bool) (solves_p : IsSolution store.nodes asked.system p) (solves_q : IsSolution store.nodes asked.system q)
      (agree : (i v : ℕ) (c : SigId) → slice_get asked.system.conditions i ≡ Some c → slice_get asked.system.proposals i ≡ Some v → Contains (take place conditions) c → truth_of p v ≡ truth_of q v) where
    abbrev Same : ℕ → Type 0
    Same c = status_at (reading store.nodes asked.system p) c ≡ status_at (reading store.nodes asked.system q) c

    -- a condition of an earlier round than one of the earlier conditions is an earlier one
    before_it : (r c : ℕ) → IsAmong (take place conditions) c → HasLayer asked.frame.kernel.now c (suc r) → (d : ℕ) → is_condition asked.frame.kernel.now d ≡ true → EntersBy asked.frame.kernel.now r d
        → IsAmong (take place conditions) d × ((layer : ℕ) × HasLayer asked.frame.kernel.now d layer × (layer ≤ r))
    before_it r c among has d is_d enters = by (earlier_place c among) ((order.all (signal_id d)).1 is_d) where
      not_later : (layer : ℕ) → HasLayer asked.frame.kernel.now d layer → layer ≤ r
      not_later layer layered = elim (cases_lt r layer) [ inl lt ↦ absurd (layered.first r lt enters) | inr le ↦ le ]

      at_places : (k j : ℕ) → k < place → slice_get conditions k ≡ Some (signal_id c) → slice_get conditions j ≡ Some (signal_id d) → ((j ≡ k) ⊎ ((j < k) ⊎ (k < j))) → IsAmong (take place conditions) d × ((layer : ℕ) × HasLayer asked.frame.kernel.now d layer × (layer ≤ r))
      at_places k j lt at_c at_d (inl same) =
          let e : Some (signal_id d) ≡ Some (signal_id c) = sym at_d ∙ ap (slice_get conditions) same ∙ at_c in
          let f : signal_id d ≡ signal_id c = cc in
          absurd (has.first r (omega arith) (subst (λ (x : SigId). EntersBy asked.frame.kernel.now r x.0) f enters))
      at_places k j lt at_c at_d (inr (inl less)) =
          let earlier = order.order j k (signal_id d) (signal_id c) less at_d at_c in
          let below : j < place = omega (arith, less, lt) in
          (contains_at (take place conditions) j (signal_id d) (get_take conditions place j below ∙ at_d), (earlier.layer, earlier.has, not_later earlier.layer earlier.has))
      at_places k j lt at_c at_d (inr (inr more)) =
          let earlier = order.order k j (signal_id c) (signal_id d) more at_c at_d in
          let one : earlier.layer ≡ suc r = one_layer asked.frame.kernel.now c earlier.layer (suc r) earlier.has has in
          let low = not_later earlier.later_layer earlier.later_has in
          absurd (elim earlier.before [ inl less ↦ omega (arith, less, one, low) | inr both ↦ omega (arith, both.0, one, low) ])

      by : (k : ℕ) × (k < place) × (slice_get conditions k ≡ Some (signal_id c)) → Contains conditions (signal_id d) → IsAmong (take place conditions) d × ((layer : ℕ) × HasLayer asked.frame.kernel.now d layer × (layer ≤ r))
      by (k, lt, at_c) (j, within, e) = at_places k j lt at_c (slice_get-get_or conditions j (signal_id d) within ∙ ap Some e) (cases_order j k)

    by_layers : (r c : ℕ) → is_condition asked.frame.kernel.now c ≡ true → IsAmong (take place conditions) c → (layer : ℕ) → HasLayer asked.frame.kernel.now c layer → layer ≤ r → Same c
    by_layers zero c is_c among layer has le = let none : layer ≡ 0 = omega (arith, le) in absurd (subst (λ l. EntersBy asked.frame.kernel.now l c) none has.enters)
    by_layers (suc r) c is_c among layer has le = elim (cases_eq layer (suc r)) [
      | inr ne ↦ by_layers r c is_c among layer has (omega (arith, le, ne))
      | inl e ↦
          let own = subst (HasLayer asked.frame.kernel.now c) e has in
          one_status store asked is p q c is_c
          (own.enters (reading store.nodes asked.system p) (reading store.nodes asked.system q) (speaks_read store asked is p solves_p) (speaks_read store asked is q solves_q)
          (λ d is_d enters. let (there, (l, layered, low)) = before_it r c among own d is_d enters in by_layers r d is_d there l layered low))
          (λ i v at_i own_i. agree i v (signal_id c) at_i own_i among)
    ]

    pub closed_earlier : AgreeOn asked.frame.kernel.now (IsAmong (take place conditions)) (reading store.nodes asked.system p) (reading store.nodes asked.system q)
    closed_earlier c is_c among =
        let (k, lt, at_c) = earlier_place c among in
        let earlier = order.order k place (signal_id c) b lt at_c at in
        by_layers earlier.layer c is_c among earlier.layer earlier.has (omega arith)

  -- ---- the halves

  module _ (forgotten : List Bool) (but : ForgetsAllBut asked.system (take place conditions) forgotten) where
    -- where the image of one half is true and that of the other one is not, the truth is forced
    module _ (x : Bool) (some none : Ref) (is_some : IsImage store.nodes asked forgotten (λ r. status_at r b.0 ≡ Some x) some) (is_none : IsImage store.nodes asked forgotten (λ r. status_at r b.0 ≡ Some (not x)) none) where
      forced : (ts : List Bool) → IsTrue (test store.nodes some ts) → test store.nodes none ts ≡ false → IsPinnedBy asked.frame.kernel.now (IsAmong (take place conditions)) b.0
      forced ts t not_there =
          let w = (is_some.function ts).0 t in
          record {
            reaction = reading store.nodes asked.system w.0;
            truth = x;
            possible = (speaks_read store asked is w.0 w.2).is;
            present = w.3;
            forced = λ other possible agree status.
                let o = agreeing store asked is (take place conditions) forgotten but w.0 other (speaking asked.frame.kernel.now other b.0 (not x) possible status) agree in
                false≢true (sym not_there ∙ (is_none.function ts).1 (o.0, (λ v kept. w.1 v kept ∙ o.1 v kept), o.2, ap (λ r. status_at r b.0) o.3 ∙ status));
          }

      -- and where they are equal, the other truth is as possible
      turned : ((ts : List Bool) → test store.nodes some ts ≡ test store.nodes none ts) → (r : Reaction) → IsReaction asked.frame.kernel.now r → status_at r b.0 ≡ Some x
          → (other : Reaction) × IsReaction asked.frame.kernel.now other × AgreeOn asked.frame.kernel.now (IsAmong (take place conditions)) r other × (status_at other b.0 ≡ Some (not x))
      turned equal r possible status =
          let a = is.is_system.complete r (speaking asked.frame.kernel.now r b.0 x possible status) in
          let t = (is_some.function a.0).1 (a.0, (λ v kept. refl), a.1, ap (λ y. status_at y b.0) a.2 ∙ status) in
          let o = (is_none.function a.0).0 (sym (equal a.0) ∙ t) in (
            reading store.nodes asked.system o.0,
            (speaks_read store asked is o.0 o.2).is,
            λ c is_c among.
                ap (λ y. status_at y c) (sym a.2)
                ∙ closed_earlier a.0 o.0 a.1 o.2 (λ i v d at_i own there. o.1 v (but.kept v d there (i, at_i, own))) c is_c among,
            o.3,
          )

    module _ (high low : Ref) (halves : AreHalves store.nodes asked forgotten b.0 high low) where
      pub same_free : high ≡ low → IsFreeBy asked.frame.kernel.now (IsAmong (take place conditions)) b.0
      same_free same r true possible status = turned true high low halves.high_is halves.low_is (λ ts. ap (λ (f : Ref). test store.nodes f ts) same) r possible status
      same_free same r false possible status = turned false low high halves.low_is halves.high_is (λ ts. ap (λ (f : Ref). test store.nodes f ts) (sym same)) r possible status

      by_tests : (ts : List Bool) → test store.nodes high ts ≢ test store.nodes low ts → (x y : Bool) → test store.nodes high ts ≡ x → test store.nodes low ts ≡ y → IsPinnedBy asked.frame.kernel.now (IsAmong (take place conditions)) b.0
      by_tests ts ne true false e f = forced true high low halves.high_is halves.low_is ts e f
      by_tests ts ne false true e f = forced false low high halves.low_is halves.high_is ts f e
      by_tests ts ne _ _ e f = absurd (ne (e ∙ sym f))

      pub apart_pinned : (high ≡ low → ⊥) → IsPinnedBy asked.frame.kernel.now (IsAmong (take place conditions)) b.0
      apart_pinned apart =
          let nodes = store.nodes in
          let reduced = is.has_store.reduced in
          let held = halves.high_is.over.held in
          let held_low = halves.low_is.over.held in
          elim (equal_or_differ (diagram nodes high) (diagram nodes low) (proper nodes reduced high held) (proper nodes reduced low held_low)) [
            | inl e ↦ absurd (apart (one_reference nodes reduced high low held held_low e))
            | inr (ts, ne) ↦ by_tests ts ne (test nodes high ts) (test nodes low ts) refl refl
          ]

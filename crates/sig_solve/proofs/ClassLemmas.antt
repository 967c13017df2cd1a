-- Lemmas on the classes of clocks.
use Rattle.sig_solve.proofs.Common.{◌≡◌, ◌<◌, ◌≤◌, ◌⊎◌, inl, inr, ℕ, Bool, true, false, eqb, List, [], ◌∷◌, length, map, get_or, refl, sym, ap, ◌∙◌, subst, arith, zero, suc, None, Some, slice_get, range_with_len, cases_eq, cases_lt, eq-eqb, eqb-true, false≢true, SigId, Kernel, Allows, IsClockFunction, KeepsTo, HasClocks, AreClocks, AreInOrder, ClocksView, IsLeastOf, signal_id, EntersBy, HasLayer, IsRoot, Reaction, Status, Speaks, is_present, status_at, truth_of_status, one_layer, one_presence, some_reaction, present_together, StoreView, IsStore, test, Ref, one_reference, AreFirsts, AreMadeOf, guard_at, IsFrame, AreGuards, IsGuard, by_layer, AreSettled, layer_in, Frame, get_map, get_or_from_slice_get, slice_get-get_or, slice_get_within, length-map}
use Rattle.sig_solve.proofs.FrameLemmas.{leader_in}
use Rattle.sig_solve.proofs.OrderLemmas.{listed_signal, listed_within, signal_layer}

abbrev all_ordered : Frame → List ℕ → List SigId
all_ordered frame layers = by_layer frame layers (map signal_id (range_with_len 0 (length frame.kernel.now.signals))) (length frame.leaders.items)

pub first_within : (frame : Frame) (layers : List ℕ) (guards : List Ref) (root : SigId) (firsts : List SigId) → AreFirsts frame layers guards root (all_ordered frame layers) firsts → root.0 < length frame.kernel.now.signals
    → (i : ℕ) (a : SigId) → slice_get firsts i ≡ Some a → a.0 < length frame.kernel.now.signals
first_within frame layers guards root firsts are within zero a at =
    let e : Some root ≡ Some a = sym are.root_is ∙ at in
    let same : root ≡ a = cc in
    subst (λ (x : SigId). x.0 < length frame.kernel.now.signals) same within
first_within frame layers guards root firsts are within (suc i) a at = listed_within frame layers a (are.listed (suc i) a (omega arith) at)

-- what a reaction proposes
proposal_of : List SigId → Reaction → List Bool
proposal_of [] reaction = []
proposal_of (c ∷ conditions) reaction = truth_of_status (status_at reaction c.0) ∷ proposal_of conditions reaction

keeps_own : (conditions : List SigId) (reaction : Reaction) → KeepsTo conditions (proposal_of conditions reaction) reaction
unfolding proposal_of
keeps_own [] reaction v c at = absurd (let e : None ≡ Some c = at in cc)
keeps_own (d ∷ conditions) reaction zero c at =
    let e : Some d ≡ Some c = at in
    let same : d ≡ c = cc in
    subst (λ (x : SigId). Allows (status_at reaction x.0) (truth_of_status (status_at reaction d.0))) same (allows_own (status_at reaction d.0))
  where
    allows_own : (status : Status) → Allows status (truth_of_status status)
    allows_own None = tt
    allows_own (Some b) = refl
keeps_own (d ∷ conditions) reaction (suc v) c at = keeps_own conditions reaction v c at

-- signals that are present together in each reaction that is not silent enter together
enters_with : (kernel : Kernel) (s t : ℕ) → ((reaction : Reaction) → Speaks kernel reaction → is_present reaction s ≡ is_present reaction t) → (round : ℕ) → EntersBy kernel round s → EntersBy kernel round t
enters_with kernel s t same zero enters = absurd enters
enters_with kernel s t same (suc round) enters = λ a b speaks_a speaks_b agree. sym (same a speaks_a) ∙ enters a b speaks_a speaks_b agree ∙ same b speaks_b

layer_with : (kernel : Kernel) (s t layer : ℕ) → ((reaction : Reaction) → Speaks kernel reaction → is_present reaction s ≡ is_present reaction t) → HasLayer kernel s layer → HasLayer kernel t layer
layer_with kernel s t layer same has = record {
  enters = enters_with kernel s t same layer has.enters;
  first = λ r less early. has.first r less (enters_with kernel t s (λ reaction speaks. sym (same reaction speaks)) r early);
}

-- the least number of which a test holds
least_from : (p : ℕ → Bool) (n : ℕ) → ((m : ℕ) → m < n → p m ≡ false) ⊎ ((m : ℕ) × (m < n) × (p m ≡ true) × ((k : ℕ) → k < m → p k ≡ false))
least_from p zero = inl (λ m lt. absurd (omega (arith, lt)))
least_from p (suc n) = by (least_from p n) (p n) refl where
  by : (((m : ℕ) → m < n → p m ≡ false) ⊎ ((m : ℕ) × (m < n) × (p m ≡ true) × ((k : ℕ) → k < m → p k ≡ false))) → (b : Bool) → p n ≡ b
      → ((m : ℕ) → m < suc n → p m ≡ false) ⊎ ((m : ℕ) × (m < suc n) × (p m ≡ true) × ((k : ℕ) → k < m → p k ≡ false))
  by (inr found) b is = inr (found.0, omega (arith, found.1), found.2, found.3)
  by (inl none) true is = inr (n, omega arith, is, none)
  by (inl none) false is = inl (λ m lt. elim (cases_eq m n) [ inl e ↦ ap p e ∙ is | inr ne ↦ none m (omega (arith, lt, ne)) ])

pub least_member : (class_of : List ℕ) (class s : ℕ) → s < length class_of → get_or class_of s 0 ≡ class → (signal : ℕ) × IsLeastOf class_of class signal
least_member class_of class s lt is = by (least_from (λ k. eqb (get_or class_of k 0) class) (suc s)) where
  by : (((m : ℕ) → m < suc s → eqb (get_or class_of m 0) class ≡ false) ⊎ ((m : ℕ) × (m < suc s) × (eqb (get_or class_of m 0) class ≡ true) × ((k : ℕ) → k < m → eqb (get_or class_of k 0) class ≡ false))) → (signal : ℕ) × IsLeastOf class_of class signal
  by (inl none) = absurd (false≢true (sym (none s (omega arith)) ∙ eq-eqb (get_or class_of s 0) class is))
  by (inr found) = (
    found.0,
    record {
      within = omega (arith, found.1, lt);
      is = eqb-true (get_or class_of found.0 0) class found.2;
      least = λ other within own. elim (cases_lt other found.0) [ inl less ↦ absurd (false≢true (sym (found.3 other less) ∙ eq-eqb (get_or class_of other 0) class own)) | inr le ↦ le ];
    },
  )

module _ (s : StoreView) (store : IsStore s) (frame : Frame) (is : IsFrame frame) (layers : List ℕ) (settled : AreSettled frame layers []) (guards : List Ref) (conditions : List SigId) (has : HasClocks frame.kernel.now)
    (order : AreInOrder frame.kernel.now conditions) (are_guards : AreGuards s.nodes frame conditions guards) where
  pub guard_for : (x : ℕ) → x < length frame.kernel.now.signals → (r : Ref) × (guard_at frame guards x ≡ Some r) × IsGuard s.nodes frame conditions x r
  guard_for x lt =
      let l = get_or frame.least.items x 0 in
      let at = are_guards.each l (leader_in frame is x lt) in
      let same = λ (reaction : Reaction) (speaks : Speaks frame.kernel.now reaction). present_together frame.kernel.now reaction x l speaks.is (is.least.same x lt) in (
        at.0,
        at.1,
        record {
          held = at.2.held;
          function = λ proposal. (
            (λ t. let w = (at.2.function proposal).0 t in (w.0, w.1, w.2, same w.0 w.1 ∙ w.3)),
            (λ w. (at.2.function proposal).1 (w.0, w.1, w.2, sym (same w.0 w.1) ∙ w.3)),
          );
          variables = at.2.variables;
        },
      )

  is_clock : (x : ℕ) (r : Ref) → x < length frame.kernel.now.signals → IsGuard s.nodes frame conditions x r → IsClockFunction frame.kernel.now conditions x (test s.nodes r)
  is_clock x r lt guard proposal reaction speaks keeps = by (is_present reaction x) (test s.nodes r proposal) refl refl where
    by : (a b : Bool) → is_present reaction x ≡ a → test s.nodes r proposal ≡ b → is_present reaction x ≡ test s.nodes r proposal
    by true false at_a at_b = absurd (false≢true (sym at_b ∙ (guard.function proposal).1 (reaction, speaks, keeps, at_a)))
    by false true at_a at_b =
        let w = (guard.function proposal).0 at_b in
        absurd (false≢true (sym at_a ∙ one_presence frame.kernel.now conditions has order proposal reaction w.0 speaks w.1 keeps w.2 x lt ∙ w.3))
    by _ _ at_a at_b = at_a ∙ sym at_b

  -- signals with one guard are present together
  together : (x y : ℕ) → x < length frame.kernel.now.signals → y < length frame.kernel.now.signals → guard_at frame guards x ≡ guard_at frame guards y → (reaction : Reaction) → Speaks frame.kernel.now reaction → is_present reaction x ≡ is_present reaction y
  together x y lt_x lt_y same reaction speaks =
      let gx = guard_for x lt_x in
      let gy = guard_for y lt_y in
      let e : Some gx.0 ≡ Some gy.0 = sym gx.1 ∙ same ∙ gy.1 in
      let refs : gx.0 ≡ gy.0 = cc in
      is_clock x gx.0 lt_x gx.2 (proposal_of conditions reaction) reaction speaks (keeps_own conditions reaction)
      ∙ ap (λ r. test s.nodes r (proposal_of conditions reaction)) refs
      ∙ sym (is_clock y gy.0 lt_y gy.2 (proposal_of conditions reaction) reaction speaks (keeps_own conditions reaction))

  -- roots have one guard
  root_true : (x : ℕ) (r : Ref) → IsRoot frame.kernel.now x → IsGuard s.nodes frame conditions x r → (proposal : List Bool) → test s.nodes r proposal ≡ true
  root_true x r root guard proposal =
      let w = some_reaction frame.kernel.now conditions has order proposal in
      (guard.function proposal).1 (w.0, w.1, w.2, root.everywhere w.0 w.1)

  roots_same : (x y : ℕ) → IsRoot frame.kernel.now x → IsRoot frame.kernel.now y → guard_at frame guards x ≡ guard_at frame guards y
  roots_same x y root_x root_y =
      let gx = guard_for x root_x.is in
      let gy = guard_for y root_y.is in
      let refs = one_reference s store gx.0 gy.0 gx.2.held gy.2.held (λ proposal. root_true x gx.0 root_x gx.2 proposal ∙ sym (root_true y gy.0 root_y gy.2 proposal)) in
      gx.1 ∙ ap Some refs ∙ sym gy.1

  module _ (root : SigId) (root_is : IsRoot frame.kernel.now root.0) (clocks : ClocksView) (made : AreMadeOf frame layers guards root conditions clocks) where
    place : (x : ℕ) → x < length frame.kernel.now.signals → (c : SigId) × (slice_get made.firsts (get_or clocks.class_of x 0) ≡ Some c) × (guard_at frame guards c.0 ≡ guard_at frame guards x)
    place x lt = made.classes.each x (omega (arith, lt, made.count))

    within : (i : ℕ) (c : SigId) → slice_get made.firsts i ≡ Some c → c.0 < length frame.kernel.now.signals
    within i c at = first_within frame layers guards root made.firsts made.are root_is.is i c at

    class_at : (i : ℕ) (c : SigId) → slice_get made.firsts i ≡ Some c → get_or clocks.class_of c.0 0 ≡ i
    class_at i c at = let p = place c.0 (within i c at) in made.are.differ (get_or clocks.class_of c.0 0) i p.0 c p.1 at p.2

    first_of : (i : ℕ) → i < length clocks.guard → (c : SigId) × (slice_get made.firsts i ≡ Some c)
    first_of i lt = let d : SigId = signal_id 0 in (get_or made.firsts i d, slice_get-get_or made.firsts i d (omega (arith, lt, made.guard.count)))

    ref_at : (i : ℕ) (g : Ref) → slice_get clocks.guard i ≡ Some g → (c : SigId) × (slice_get made.firsts i ≡ Some c) × (guard_at frame guards c.0 ≡ Some g) × IsGuard s.nodes frame conditions c.0 g
    ref_at i g at =
        let c = first_of i (slice_get_within clocks.guard i g at) in
        let own = guard_for c.0.0 (within i c.0 c.1) in
        let is_g : guard_at frame guards c.0.0 ≡ Some g = sym (made.guard.each i c.0 c.1) ∙ at in
        let e : Some own.0 ≡ Some g = sym own.1 ∙ is_g in
        let same : own.0 ≡ g = cc in
        (c.0, c.1, is_g, subst (λ r. IsGuard s.nodes frame conditions c.0.0 r) same own.2)

    layer_of : (i : ℕ) (c : SigId) → slice_get made.firsts i ≡ Some c → get_or clocks.layer i 0 ≡ layer_in frame layers c.0
    layer_of i c at = ap (λ (xs : List ℕ). get_or xs i 0) made.layer ∙ get_or_from_slice_get (map (λ (d : SigId). layer_in frame layers d.0) made.firsts) i (layer_in frame layers c.0) 0 (get_map (λ (d : SigId). layer_in frame layers d.0) made.firsts i c at)

    has_layer : (x : ℕ) → x < length frame.kernel.now.signals → HasLayer frame.kernel.now x (get_or clocks.layer (get_or clocks.class_of x 0) 0)
    has_layer x lt =
        let p = place x lt in
        let in_c = within (get_or clocks.class_of x 0) p.0 p.1 in
        subst (λ k. HasLayer frame.kernel.now x k) (sym (layer_of (get_or clocks.class_of x 0) p.0 p.1))
        (layer_with frame.kernel.now p.0.0 x (layer_in frame layers p.0.0) (together p.0.0 x in_c lt p.2) (signal_layer frame is layers settled p.0.0 in_c).0)

    -- the least signal of a class but that of the roots is its first one
    least_first : (i x : ℕ) (c : SigId) → 1 ≤ i → slice_get made.firsts i ≡ Some c → IsLeastOf clocks.class_of i x → x ≡ c.0
    least_first i x c pos at least =
        let lt : x < length frame.kernel.now.signals = omega (arith, least.within, made.count) in
        let in_c = within i c at in
        let p = place x lt in
        let e : Some p.0 ≡ Some c = sym p.1 ∙ ap (slice_get made.firsts) least.is ∙ at in
        let own : p.0 ≡ c = cc in
        let same : guard_at frame guards x ≡ guard_at frame guards c.0 = sym p.2 ∙ ap (λ (d : SigId). guard_at frame guards d.0) own in
        let low = least.least c.0 (omega (arith, in_c, made.count)) (class_at i c at) in
        elim (made.are.first i c (signal_id x) pos at (listed_signal frame is layers settled x lt) same) [
          | inl e ↦ ap (λ (d : SigId). d.0) e
          | inr before ↦
              let layers_same : layer_in frame layers c.0 ≡ layer_in frame layers x = one_layer frame.kernel.now c.0 (layer_in frame layers c.0) (layer_in frame layers x) (signal_layer frame is layers settled c.0 in_c).0
              (layer_with frame.kernel.now x c.0 (layer_in frame layers x) (together x c.0 lt in_c same) (signal_layer frame is layers settled x lt).0) in
              absurd (elim before [ inl less ↦ omega (arith, less, layers_same) | inr both ↦ omega (arith, both.1, low) ])
        ]

    class_root : (x : ℕ) → x < length frame.kernel.now.signals → get_or clocks.class_of x 0 ≡ 0 → IsRoot frame.kernel.now x
    class_root x lt zero_is =
        let p = place x lt in
        let e : Some p.0 ≡ Some root = sym p.1 ∙ ap (slice_get made.firsts) zero_is ∙ made.are.root_is in
        let own : p.0 ≡ root = cc in
        let same : guard_at frame guards root.0 ≡ guard_at frame guards x = ap (λ (d : SigId). guard_at frame guards d.0) (sym own) ∙ p.2 in
        record { is = lt; everywhere = λ reaction speaks. sym (together root.0 x root_is.is lt same reaction speaks) ∙ root_is.everywhere reaction speaks }

    root_class : (x : ℕ) → IsRoot frame.kernel.now x → get_or clocks.class_of x 0 ≡ 0
    root_class x is_root =
        let p = place x is_root.is in
        made.are.differ (get_or clocks.class_of x 0) 0 p.0 root p.1 made.are.root_is (p.2 ∙ roots_same x root.0 is_root root_is)

    numbers_at : (c d x y : ℕ) → 1 ≤ c → c < d → d < length clocks.guard → IsLeastOf clocks.class_of c x → IsLeastOf clocks.class_of d y
        → (get_or clocks.layer c 0 < get_or clocks.layer d 0) ⊎ ((get_or clocks.layer c 0 ≡ get_or clocks.layer d 0) × (x < y))
    numbers_at c d x y pos less lt least_x least_y =
        let a = first_of c (omega (arith, less, lt)) in
        let b = first_of d lt in
        let own_x = least_first c x a.0 pos a.1 least_x in
        let own_y = least_first d y b.0 (omega (arith, pos, less)) b.1 least_y in
        let layer_a = layer_of c a.0 a.1 in
        let layer_b = layer_of d b.0 b.1 in
        elim (made.are.later c d a.0 b.0 pos less a.1 b.1) [
          | inl before ↦ inl (omega (arith, before, layer_a, layer_b))
          | inr both ↦ inr (layer_a ∙ both.0 ∙ sym layer_b, omega (arith, both.1, own_x, own_y))
        ]

    pub clocks_are : AreClocks frame.kernel.now s.nodes clocks
    clocks_are = record {
      count = made.count;
      layers = ap length made.layer ∙ length-map made.firsts (λ (c : SigId). layer_in frame layers c.0) ∙ sym made.guard.count;
      conditions = subst (λ xs. AreInOrder frame.kernel.now xs) (sym made.conditions_are) order;
      classes = λ x lt. let p = place x lt in omega (arith, slice_get_within made.firsts (get_or clocks.class_of x 0) p.0 p.1, made.guard.count);
      members = λ class lt. let c = first_of class lt in least_member clocks.class_of class c.0.0 (let in_c = within class c.0 c.1 in omega (arith, in_c, made.count)) (class_at class c.0 c.1);
      held = λ class g at. (ref_at class g at).3.held;
      variables = λ class g at v d. let lt = (ref_at class g at).3.variables v d in omega (arith, lt, ap length made.conditions_are);
      functions = λ x g lt at.
          let own = guard_for x lt in
          let p = place x lt in
          let same : Some own.0 ≡ Some g = sym own.1 ∙ sym p.2 ∙ sym (made.guard.each (get_or clocks.class_of x 0) p.0 p.1) ∙ at in
          let refs : own.0 ≡ g = cc in
          subst (λ xs. IsClockFunction frame.kernel.now xs x (test s.nodes g)) (sym made.conditions_are) (is_clock x g lt (subst (λ r. IsGuard s.nodes frame conditions x r) refs own.2));
      differ = λ c d f g at_c at_d agree.
          let a = ref_at c f at_c in
          let b = ref_at d g at_d in
          let refs = one_reference s store f g a.3.held b.3.held agree in
          made.are.differ c d a.0 b.0 a.1 b.1 (a.2 ∙ ap Some refs ∙ sym b.2);
      layer = has_layer;
      roots = λ x lt. (class_root x lt, root_class x);
      numbers = numbers_at;
    }

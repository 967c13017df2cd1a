-- Where nodes hold the clock functions of a kernel's signals, they hold the guards of its clocks.
use Rattle.sig_deciding_laws.proofs.Common.{◌≡◌, ◌<◌, ◌≤◌, ◌⊎◌, inl, inr, ◌↔◌, ℕ, zero, suc, Bool, true, false, List, length, map, get_or, refl, sym, ap, ◌∙◌, subst, arith, Contains, None, Some, slice_get, slice_index, cases_lt, cases_order, length-map, SigId, Allows, IsClockFunction, KeepsTo, HasClocks, AreClocks, AreInOrder, ClocksView, IsLeastOf, guard_of, signal_id, EntersBy, HasLayer, IsRoot, IsSignal, Reaction, Speaks, Status, is_present, status_at, truth_of_status, one_layer, IsOrdered, Agree, Depends, with_truth, Holds, IsReduced, IsRefOf, test, Node, Ref, one_ref, truth_of-with_other, Kernel, Guard, at_contained, contains_at, slice_get_within, get_map, map_get, some_at, value_there, dec_lt, dec_both, dec_not, dec_each, first_below, searched_below}
use Rattle.sig_deciding_laws.proofs.ActorCodes.{dec_reference}
use Rattle.sig_deciding_laws.proofs.ClockFunctionsOfKernel.{kept, presence_functions, presence_of, presence_sees}
use Rattle.sig_deciding_laws.proofs.SortedLists.{listed}
use Rattle.sig_deciding_laws.proofs.Tables.{table, table_at, table_get, table_length}

allows_own : (status : Status) → Allows status (truth_of_status status)
allows_own None = tt
allows_own (Some b) = refl

-- some proposal is kept to by a reaction
proposal_of : (conditions : List SigId) (reaction : Reaction) → (proposal : List Bool) × KeepsTo conditions proposal reaction
proposal_of conditions reaction = (
  table truth (length conditions),
  λ v condition is.
      let own : get_or conditions v (signal_id 0) ≡ condition = value_there conditions v (signal_id 0) condition is in
      subst (Allows (status_at reaction condition.0)) (ap (λ (c : SigId). truth_of_status (status_at reaction c.0)) (sym own) ∙ table_at truth (length conditions) v false (slice_get_within conditions v condition is))
      (allows_own (status_at reaction condition.0)),
)
  where
    truth : ℕ → Bool
    truth v = truth_of_status (status_at reaction (get_or conditions v (signal_id 0)).0)

enters_as : (kernel : Kernel) (s t : ℕ) → ((reaction : Reaction) → Speaks kernel reaction → is_present reaction s ≡ is_present reaction t) → (round : ℕ) → EntersBy kernel round s → EntersBy kernel round t
enters_as kernel s t same zero enters = absurd enters
enters_as kernel s t same (suc round) enters = λ a b speaks_a speaks_b agree. sym (same a speaks_a) ∙ enters a b speaks_a speaks_b agree ∙ same b speaks_b

module _ (kernel : Kernel) (has : HasClocks kernel) (conditions : List SigId) (order : AreInOrder kernel conditions) (nodes : List Node) (reduced : IsReduced nodes)
    (held : (signal : ℕ) → IsSignal kernel signal → (r : Ref) × IsRefOf nodes (presence_of kernel has conditions order (signal_id signal)) r) where
  abbrev n : ℕ
  n = length kernel.signals

  abbrev presence : ℕ → Guard
  presence s = presence_of kernel has conditions order (signal_id s)

  -- ---- the reference and the layer of a signal

  abbrev pick : (s : ℕ) → Dec (s < n) → Ref
  pick s (yes within) = (held s within).0
  pick s (no none) = record { number = 0 }

  picked : (s : ℕ) → s < n → (d : Dec (s < n)) → IsRefOf nodes (presence s) (pick s d)
  picked s within (yes less) = (held s less).1
  picked s within (no none) = absurd (none within)

  pub ref : ℕ → Ref
  ref s = pick s (dec_lt s n)

  ref_is : (s : ℕ) → s < n → IsRefOf nodes (presence s) (ref s)
  unfolding ref
  ref_is s within = picked s within (dec_lt s n)

  abbrev pick_layer : (s : ℕ) → Dec (s < n) → ℕ
  pick_layer s (yes within) = (has.solved s within).0
  pick_layer s (no none) = 0

  picked_layer : (s : ℕ) → s < n → (d : Dec (s < n)) → HasLayer kernel s (pick_layer s d)
  picked_layer s within (yes less) = (has.solved s less).1
  picked_layer s within (no none) = absurd (none within)

  pub layer : ℕ → ℕ
  layer s = pick_layer s (dec_lt s n)

  layer_is : (s : ℕ) → s < n → HasLayer kernel s (layer s)
  unfolding layer
  layer_is s within = picked_layer s within (dec_lt s n)

  same_function : (s t : ℕ) → s < n → t < n → ref s ≡ ref t → (proposal : List Bool) → presence s proposal ≡ presence t proposal
  same_function s t within_s within_t same proposal = sym ((ref_is s within_s).function proposal) ∙ ap (λ r. test nodes r proposal) same ∙ (ref_is t within_t).function proposal

  same_ref_of : (s t : ℕ) → s < n → t < n → ((proposal : List Bool) → presence s proposal ≡ presence t proposal) → ref s ≡ ref t
  same_ref_of s t within_s within_t same =
      one_ref nodes reduced (ref s) (ref t) (ref_is s within_s).holds (ref_is t within_t).holds (λ proposal.
      (ref_is s within_s).function proposal ∙ same proposal ∙ sym ((ref_is t within_t).function proposal))

  same_presence : (s t : ℕ) → s < n → t < n → ref s ≡ ref t → (reaction : Reaction) → Speaks kernel reaction → is_present reaction s ≡ is_present reaction t
  same_presence s t within_s within_t same reaction speaks =
      let proposal = proposal_of conditions reaction in
      presence_functions kernel has conditions order s within_s proposal.0 reaction speaks proposal.1
      ∙ same_function s t within_s within_t same proposal.0
      ∙ sym (presence_functions kernel has conditions order t within_t proposal.0 reaction speaks proposal.1)

  same_layer : (s t : ℕ) → s < n → t < n → ref s ≡ ref t → layer s ≡ layer t
  same_layer s t within_s within_t same =
      one_layer kernel t (layer s) (layer t) (record {
        enters = enters_as kernel s t (same_presence s t within_s within_t same) (layer s) (layer_is s within_s).enters;
        first = λ round less enters. (layer_is s within_s).first round less (enters_as kernel t s (same_presence t s within_t within_s (sym same)) round enters);
      }) (layer_is t within_t)

  -- ---- roots

  root : ℕ
  root = has.root.0

  root_within : root < n
  unfolding root
  root_within = has.root.1.is

  root_from : (s : ℕ) → s < n → ref s ≡ ref root → IsRoot kernel s
  unfolding root
  root_from s within same = record { is = within; everywhere = λ reaction speaks. same_presence s root within root_within same reaction speaks ∙ has.root.1.everywhere reaction speaks }

  root_to : (s : ℕ) → s < n → IsRoot kernel s → ref s ≡ ref root
  unfolding root
  root_to s within is = same_ref_of s root within root_within (λ proposal.
      let reaction = kept kernel has conditions order proposal in is.everywhere reaction.0 reaction.1 ∙ sym (has.root.1.everywhere reaction.0 reaction.1))

  abbrev weigh : (s : ℕ) → Dec (ref s ≡ ref root) → ℕ
  weigh s (yes same) = 0
  weigh s (no apart) = suc (layer s)

  weight : ℕ → ℕ
  weight s = weigh s (dec_reference (ref s) (ref root))

  weighed : (s : ℕ) (d : Dec (ref s ≡ ref root)) → ((weigh s d ≡ 0) × (ref s ≡ ref root)) ⊎ ((weigh s d ≡ suc (layer s)) × (ref s ≡ ref root → ⊥))
  weighed s (yes same) = inl (refl, same)
  weighed s (no apart) = inr (refl, apart)

  weight_is : (s : ℕ) → ((weight s ≡ 0) × (ref s ≡ ref root)) ⊎ ((weight s ≡ suc (layer s)) × (ref s ≡ ref root → ⊥))
  unfolding weight
  weight_is s = weighed s (dec_reference (ref s) (ref root))

  -- ---- the first signal of each class

  abbrev IsLeader : ℕ → Type 0
  IsLeader a = (a < n) × ((t : ℕ) → t < a → ref t ≡ ref a → ⊥)

  dec_leader : (a : ℕ) → Dec (IsLeader a)
  dec_leader a = dec_both (dec_lt a n) (dec_each (λ t. t < a) (searched_below a) (λ t. ref t ≡ ref a → ⊥) (λ t _. dec_not (dec_reference (ref t) (ref a))))

  leader_of : (s : ℕ) → s < n → (t : ℕ) × IsLeader t × (ref t ≡ ref s)
  leader_of s within = at (first_below (λ t. ref t ≡ ref s) (λ t. dec_reference (ref t) (ref s)) (suc s)) where
    at : ((m : ℕ) × (ref m ≡ ref s) × ((k : ℕ) → k < m → ref k ≡ ref s → ⊥)) ⊎ ((k : ℕ) → k < suc s → ref k ≡ ref s → ⊥) → (t : ℕ) × IsLeader t × (ref t ≡ ref s)
    at (inl found) = (found.0, (below (cases_lt s found.0), λ t less same. found.2 t less (same ∙ found.1)), found.1) where
      below : (s < found.0) ⊎ (found.0 ≤ s) → found.0 < n
      below (inl more) = absurd (found.2 s more refl)
      below (inr most) = omega (arith, most, within)
    at (inr none) = absurd (none s (omega arith) refl)

  one_leader : (a b : ℕ) → IsLeader a → IsLeader b → ref a ≡ ref b → a ≡ b
  one_leader a b is_a is_b same = elim (cases_order a b) [
    | inl e ↦ e
    | inr apart ↦ elim apart [ inl less ↦ absurd (is_b.1 a less same) | inr more ↦ absurd (is_a.1 b more (sym same)) ]
  ]

  -- the order of classes
  abbrev R : ℕ → ℕ → Type 0
  R a b = (weight a < weight b) ⊎ ((weight a ≡ weight b) × (a < b))

  onward : (a b c : ℕ) → R a b → R b c → R a c
  onward a b c (inl less) (inl more) = inl (omega (arith, less, more))
  onward a b c (inl less) (inr more) = inl (omega (arith, less, more.0))
  onward a b c (inr less) (inl more) = inl (omega (arith, less.0, more))
  onward a b c (inr less) (inr more) = inr (omega (arith, less.0, more.0), omega (arith, less.1, more.1))

  compare : (a b : ℕ) → (a ≡ b) ⊎ (R a b ⊎ R b a)
  compare a b = at (cases_order (weight a) (weight b)) (cases_order a b) where
    at : ((weight a ≡ weight b) ⊎ ((weight a < weight b) ⊎ (weight b < weight a))) → ((a ≡ b) ⊎ ((a < b) ⊎ (b < a))) → (a ≡ b) ⊎ (R a b ⊎ R b a)
    at (inr (inl less)) numbers = inr (inl (inl less))
    at (inr (inr more)) numbers = inr (inr (inl more))
    at (inl same) (inl equal) = inl equal
    at (inl same) (inr (inl less)) = inr (inl (inr (same, less)))
    at (inl same) (inr (inr more)) = inr (inr (inr (sym same, more)))

  not_before : (a : ℕ) → R a a → ⊥
  not_before a (inl less) = omega (arith, less)
  not_before a (inr less) = omega (arith, less.1)

  leaders : (list : List ℕ) × IsOrdered R list × ((a : ℕ) → Contains list a ↔ IsLeader a)
  leaders =
      listed R IsLeader onward (λ a b _ _. compare a b) (table (λ k. k) n)
      (λ a is. contains_at (table (λ k. k) n) a a (table_get (λ k. k) n a is.0)) dec_leader

  pub firsts : List ℕ
  firsts = leaders.0

  leader_at : (i a : ℕ) → slice_get firsts i ≡ Some a → IsLeader a
  unfolding firsts
  leader_at i a at = (leaders.2 a).0 (contains_at firsts i a at)

  in_order : (i j a b : ℕ) → i < j → slice_get firsts i ≡ Some a → slice_get firsts j ≡ Some b → R a b
  unfolding firsts
  in_order i j a b = leaders.1 i j a b

  one_place : (i j a b : ℕ) → slice_get firsts i ≡ Some a → slice_get firsts j ≡ Some b → ref a ≡ ref b → i ≡ j
  one_place i j a b at_i at_j same = by (cases_order i j) where
    equal : a ≡ b
    equal = one_leader a b (leader_at i a at_i) (leader_at j b at_j) same

    by : ((i ≡ j) ⊎ ((i < j) ⊎ (j < i))) → i ≡ j
    by (inl e) = e
    by (inr (inl less)) = absurd (not_before a (subst (R a) (sym equal) (in_order i j a b less at_i at_j)))
    by (inr (inr more)) = absurd (not_before b (subst (R b) equal (in_order j i b a more at_j at_i)))

  -- ---- the class of each signal

  IsPlaceOf : ℕ → ℕ → Type 0
  IsPlaceOf s class = (t : ℕ) × (slice_get firsts class ≡ Some t) × (ref t ≡ ref s)

  place_of : (s : ℕ) → s < n → (class : ℕ) × IsPlaceOf s class
  unfolding IsPlaceOf firsts
  place_of s within =
      let leader = leader_of s within in
      let there : Contains firsts leader.0 = (leaders.2 leader.0).1 leader.1 in
      (there.0, (leader.0, at_contained firsts leader.0 there, leader.2))

  abbrev pick_class : (s : ℕ) → Dec (s < n) → ℕ
  pick_class s (yes within) = (place_of s within).0
  pick_class s (no none) = 0

  picked_class : (s : ℕ) → s < n → (d : Dec (s < n)) → IsPlaceOf s (pick_class s d)
  picked_class s within (yes less) = (place_of s less).1
  picked_class s within (no none) = absurd (none within)

  pub class : ℕ → ℕ
  class s = pick_class s (dec_lt s n)

  class_is : (s : ℕ) → s < n → (t : ℕ) × (slice_get firsts (class s) ≡ Some t) × (ref t ≡ ref s)
  unfolding class IsPlaceOf
  class_is s within = picked_class s within (dec_lt s n)

  class_from : (s i a : ℕ) → s < n → slice_get firsts i ≡ Some a → ref a ≡ ref s → class s ≡ i
  class_from s i a within at same = let own = class_is s within in one_place (class s) i own.0 a own.1 at (own.2 ∙ sym same)

  root_class : class root ≡ 0
  root_class = by (class_is root root_within) where
    by : ((t : ℕ) × (slice_get firsts (class root) ≡ Some t) × (ref t ≡ ref root)) → class root ≡ 0
    by (t, at, same) = place (cases_lt 0 (class root)) where
      leader : IsLeader t
      leader = leader_at (class root) t at

      light : weight t ≡ 0
      light = elim (weight_is t) [ inl is ↦ is.0 | inr heavy ↦ absurd (heavy.1 same) ]

      before : (a : ℕ) → R a t → ⊥
      before a (inl less) = omega (arith, less, light)
      before a (inr less) = elim (weight_is a) [
        | inl is ↦ leader.1 a less.1 (is.1 ∙ sym same)
        | inr heavy ↦ (let weighs = heavy.0 in omega (arith, weighs, less.0, light))
      ]

      place : (0 < class root) ⊎ (class root ≤ 0) → class root ≡ 0
      place (inr none) = omega (arith, none)
      place (inl more) =
          let first = some_at firsts 0 (omega (arith, more, slice_get_within firsts (class root) t at)) in
          absurd (before first.0 (in_order 0 (class root) first.0 t more first.1 at))

  -- ---- clocks

  abbrev pub clocks : ClocksView
  clocks = record { class_of = table class n; guard = map ref firsts; layer = map layer firsts; conditions = conditions }

  class_at : (s : ℕ) → s < n → slice_index clocks.class_of s ≡ class s
  class_at s within = sym (table_at class n s 0 within)

  guards_count : length clocks.guard ≡ length firsts
  guards_count = length-map firsts ref

  guard_at : (c : ℕ) (guard : Ref) → slice_get clocks.guard c ≡ Some guard → (t : ℕ) × (slice_get firsts c ≡ Some t) × (ref t ≡ guard)
  guard_at c guard at = map_get ref firsts c guard at

  -- the guard of a signal
  own_guard : (s : ℕ) (guard : Ref) → s < n → guard_of clocks s ≡ Some guard → ref s ≡ guard
  own_guard s guard within at =
      let of = guard_at (slice_index clocks.class_of s) guard at in
      let own = class_is s within in
      let e : Some of.0 ≡ Some own.0 = sym of.1 ∙ ap (slice_get firsts) (class_at s within) ∙ own.1 in
      let same : of.0 ≡ own.0 = cc in
      sym own.2 ∙ ap ref (sym same) ∙ of.2

  classes_within : (s : ℕ) → s < n → slice_index clocks.class_of s < length clocks.guard
  classes_within s within =
      let own = class_is s within in
      let less = slice_get_within firsts (class s) own.0 own.1 in
      omega (arith, class_at s within, guards_count, less)

  least_of : (c a : ℕ) → slice_get firsts c ≡ Some a → IsLeastOf clocks.class_of c a
  least_of c a at = record { within = omega (arith, count, leader.0); is = class_at a leader.0 ∙ class_from a c a leader.0 at refl; least = least } where
    leader : IsLeader a
    leader = leader_at c a at

    count : length clocks.class_of ≡ n
    count = table_length class n

    least : (other : ℕ) → other < length clocks.class_of → slice_index clocks.class_of other ≡ c → a ≤ other
    least other less is = by (cases_lt other a) where
      within : other < n
      within = omega (arith, less, count)

      same : ref other ≡ ref a
      same =
          let own = class_is other within in
          let e : Some own.0 ≡ Some a = sym own.1 ∙ ap (slice_get firsts) (sym (class_at other within) ∙ is) ∙ at in
          let it : own.0 ≡ a = cc in
          sym own.2 ∙ ap ref it

      by : (other < a) ⊎ (a ≤ other) → a ≤ other
      by (inl before) = absurd (leader.1 other before same)
      by (inr most) = most

  -- a least signal of a class is its leader
  least_is : (c s a : ℕ) → slice_get firsts c ≡ Some a → IsLeastOf clocks.class_of c s → s ≡ a
  least_is c s a at is =
      let own = least_of c a at in
      let one = is.least a own.within own.is in
      let other = own.least s is.within is.is in
      omega (arith, one, other)

  members : (c : ℕ) → c < length clocks.guard → (s : ℕ) × IsLeastOf clocks.class_of c s
  members c less = let found = some_at firsts c (omega (arith, less, guards_count)) in (found.0, least_of c found.0 found.1)

  guards_held : (c : ℕ) (guard : Ref) → slice_get clocks.guard c ≡ Some guard → Holds nodes guard
  guards_held c guard at = let of = guard_at c guard at in subst (Holds nodes) of.2 (ref_is of.0 (leader_at c of.0 of.1).0).holds

  sees_no_more : (s : ℕ) → s < n → (v : ℕ) → Depends (test nodes (ref s)) v → v < length conditions
  sees_no_more s within v (ts, differ) = by (cases_lt v (length conditions)) where
    by : (v < length conditions) ⊎ (length conditions ≤ v) → v < length conditions
    by (inl less) = less
    by (inr beyond) = absurd (differ (
        (ref_is s within).function (with_truth ts v false)
        ∙ presence_sees kernel has conditions order (signal_id s) (with_truth ts v false) (with_truth ts v true) (λ u less.
        truth_of-with_other ts v false u (omega (arith, less, beyond)) ∙ sym (truth_of-with_other ts v true u (omega (arith, less, beyond))))
        ∙ sym ((ref_is s within).function (with_truth ts v true))))

  variables : (c : ℕ) (guard : Ref) → slice_get clocks.guard c ≡ Some guard → (v : ℕ) → Depends (test nodes guard) v → v < length conditions
  variables c guard at v depends =
      let of = guard_at c guard at in
      sees_no_more of.0 (leader_at c of.0 of.1).0 v (subst (λ r. Depends (test nodes r) v) (sym of.2) depends)

  functions : (s : ℕ) (guard : Ref) → IsSignal kernel s → guard_of clocks s ≡ Some guard → IsClockFunction kernel conditions s (test nodes guard)
  functions s guard within at proposal reaction speaks keeps =
      presence_functions kernel has conditions order s within proposal reaction speaks keeps
      ∙ sym ((ref_is s within).function proposal)
      ∙ ap (λ r. test nodes r proposal) (own_guard s guard within at)

  differ : (c d : ℕ) (f g : Ref) → slice_get clocks.guard c ≡ Some f → slice_get clocks.guard d ≡ Some g → Agree (test nodes f) (test nodes g) → c ≡ d
  differ c d f g at_c at_d agree =
      let of_c = guard_at c f at_c in
      let of_d = guard_at d g at_d in
      one_place c d of_c.0 of_d.0 of_c.1 of_d.1 (of_c.2 ∙ one_ref nodes reduced f g (guards_held c f at_c) (guards_held d g at_d) agree ∙ sym of_d.2)

  layer_at : (c a : ℕ) → slice_get firsts c ≡ Some a → slice_index clocks.layer c ≡ layer a
  layer_at c a at = value_there clocks.layer c 0 (layer a) (get_map layer firsts c a at)

  layers : (s : ℕ) → IsSignal kernel s → HasLayer kernel s (slice_index clocks.layer (slice_index clocks.class_of s))
  layers s within =
      let own = class_is s within in
      let same : slice_index clocks.layer (slice_index clocks.class_of s) ≡ layer s =
      ap (slice_index clocks.layer) (class_at s within) ∙ layer_at (class s) own.0 own.1 ∙ same_layer own.0 s (leader_at (class s) own.0 own.1).0 within own.2 in
      subst (HasLayer kernel s) (sym same) (layer_is s within)

  root_place : (s : ℕ) → s < n → class s ≡ 0 → ref s ≡ ref root
  root_place s within none =
      let own = class_is s within in
      let first = class_is root root_within in
      let e : Some own.0 ≡ Some first.0 = sym own.1 ∙ ap (slice_get firsts) (none ∙ sym root_class) ∙ first.1 in
      let same : own.0 ≡ first.0 = cc in
      sym own.2 ∙ ap ref same ∙ first.2

  roots : (s : ℕ) → IsSignal kernel s → (slice_index clocks.class_of s ≡ 0) ↔ IsRoot kernel s
  roots s within = (
    (λ none. root_from s within (root_place s within (sym (class_at s within) ∙ none))),
    (λ is.
        let first = class_is root root_within in
        class_at s within ∙ class_from s (class root) first.0 within first.1 (first.2 ∙ sym (root_to s within is)) ∙ root_class),
  )

  -- no class but the first is that of the roots
  heavy : (c a : ℕ) → 1 ≤ c → slice_get firsts c ≡ Some a → weight a ≡ suc (layer a)
  heavy c a later at = elim (weight_is a) [
    | inr is ↦ is.0
    | inl is ↦ (
        let first = class_is root root_within in
        let same : c ≡ class root = one_place c (class root) a first.0 at first.1 (is.1 ∙ sym first.2) in
        absurd (omega (arith, later, same, root_class)))
  ]

  numbers : (c d s t : ℕ) → 1 ≤ c → c < d → d < length clocks.guard → IsLeastOf clocks.class_of c s → IsLeastOf clocks.class_of d t
      → (slice_index clocks.layer c < slice_index clocks.layer d) ⊎ ((slice_index clocks.layer c ≡ slice_index clocks.layer d) × (s < t))
  numbers c d s t later less within is_s is_t = by (some_at firsts c (omega (arith, less, within, guards_count))) (some_at firsts d (omega (arith, within, guards_count))) where
    by : ((a : ℕ) × (slice_get firsts c ≡ Some a)) → ((b : ℕ) × (slice_get firsts d ≡ Some b))
        → (slice_index clocks.layer c < slice_index clocks.layer d) ⊎ ((slice_index clocks.layer c ≡ slice_index clocks.layer d) × (s < t))
    by (a, at_c) (b, at_d) = at (in_order c d a b less at_c at_d) where
      weight_a : weight a ≡ suc (layer a)
      weight_a = heavy c a later at_c

      weight_b : weight b ≡ suc (layer b)
      weight_b = heavy d b (omega (arith, later, less)) at_d

      layer_c : slice_index clocks.layer c ≡ layer a
      layer_c = layer_at c a at_c

      layer_d : slice_index clocks.layer d ≡ layer b
      layer_d = layer_at d b at_d

      s_is : s ≡ a
      s_is = least_is c s a at_c is_s

      t_is : t ≡ b
      t_is = least_is d t b at_d is_t

      at : R a b → (slice_index clocks.layer c < slice_index clocks.layer d) ⊎ ((slice_index clocks.layer c ≡ slice_index clocks.layer d) × (s < t))
      at (inl lighter) = inl (omega (arith, weight_a, weight_b, layer_c, layer_d, lighter))
      at (inr same) = inr (omega (arith, weight_a, weight_b, layer_c, layer_d, same.0), omega (arith, s_is, t_is, same.1))

  pub are_clocks : AreClocks kernel nodes clocks
  are_clocks = record {
    count = table_length class n;
    layers = length-map firsts layer ∙ sym guards_count;
    conditions = order;
    classes = classes_within;
    members = members;
    held = guards_held;
    variables = variables;
    functions = functions;
    differ = differ;
    layer = layers;
    roots = roots;
    numbers = numbers;
  }

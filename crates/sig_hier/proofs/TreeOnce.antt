-- The text of the hierarchy of a kernel's clocks is one.
use Rattle.sig_hier.proofs.Common.{◌≡◌, ◌<◌, ◌≤◌, ◌⊎◌, inl, inr, ⊎_elim, ℕ, Bool, false, List, [], ◌∷◌, length, map, get_or, refl, sym, ap, ◌∙◌, subst, arith, Contains, zero, suc, ◌==◌, Option, None, Some, IsTrue, slice_get, if◌then◌else◌, flat_map, range_with_len, cases_order, ext_get_or, get_or-map-range_with_len, length-map-range_with_len, slice_get_past, IsClockFunction, HasClocks, AreClocks, ClocksView, IsLeastOf, HasLayer, IsRoot, IsSignal, one_layer, test, Node, Ref, IsTreeText, line_text, preorder, text_of, IsTree, IsWithin, Kernel, conditions_once, function_once, same_list, eq-eqb, at_contained, contains_at, slice_get-get_or, slice_get_within}

-- ---- the place of the first of some numbers that is this one

pub first : List ℕ → ℕ → ℕ
first [] c = 0
first (x ∷ xs) c = if x == c then 0 else suc (first xs c)

equal_is_not : (x c : ℕ) → (x ≡ c → ⊥) → (x == c) ≡ false
equal_is_not x c differ = grind arith

first_is : (xs : List ℕ) (c s : ℕ) → s < length xs → get_or xs s 0 ≡ c → ((other : ℕ) → other < length xs → get_or xs other 0 ≡ c → s ≤ other) → first xs c ≡ s
unfolding first
first_is [] c s lt is least = absurd (omega (arith, lt))
first_is (x ∷ xs) c zero lt is least = ap (λ (b : Bool). if b then 0 else suc (first xs c)) (eq-eqb x c is)
first_is (x ∷ xs) c (suc s) lt is least =
    ap (λ (b : Bool). if b then 0 else suc (first xs c)) (equal_is_not x c (λ same. let le : suc s ≤ 0 = least 0 (omega arith) same in omega (arith, le)))
    ∙ ap suc (first_is xs c s (omega (arith, lt)) is (λ other there same. let le : suc s ≤ suc other = least (suc other) (omega (arith, there)) same in omega (arith, le)))

-- ---- lists that are the same at each place

same_by_place : {X : Type 0} (xs ys : List X) → ((k : ℕ) → slice_get xs k ≡ slice_get ys k) → xs ≡ ys
same_by_place [] [] same = refl
same_by_place [] (y ∷ ys) same = let e : None ≡ Some y = same 0 in cc
same_by_place (x ∷ xs) [] same = let e : Some x ≡ None = same 0 in cc
same_by_place (x ∷ xs) (y ∷ ys) same =
    let e : Some x ≡ Some y = same 0 in
    let head : x ≡ y = cc in
    let rest = same_by_place xs ys (λ k. same (suc k)) in
    λ j. head j ∷ rest j

-- ---- the order of the classes

-- signals stand before one another: the roots first, and the others by layer, then by number
pub record IsLater (kernel : Kernel) (s t : ℕ) : Type 0 where
  pub one : ℕ
  pub other : ℕ
  pub has : HasLayer kernel s one
  pub other_has : HasLayer kernel t other
  pub less : (one < other) ⊎ ((one ≡ other) × (s < t))

abbrev IsBefore : Kernel → ℕ → ℕ → Type 0
IsBefore kernel s t = (IsRoot kernel t → ⊥) × (IsRoot kernel s ⊎ IsLater kernel s t)

one_way : (kernel : Kernel) (s t : ℕ) → IsBefore kernel s t → IsBefore kernel t s → ⊥
one_way kernel s t before behind = at before.1 behind.1 where
  later : IsLater kernel s t → IsLater kernel t s → ⊥
  later a b =
      let e : a.one ≡ b.other = one_layer kernel s a.one b.other a.has b.other_has in
      let f : a.other ≡ b.one = one_layer kernel t a.other b.one a.other_has b.has in
      ⊎_elim (λ less. ⊎_elim (λ more. omega (arith, e, f, less, more)) (λ more. omega (arith, e, f, less, more.0)) b.less)
      (λ less. ⊎_elim (λ more. omega (arith, e, f, less.0, more)) (λ more. omega (arith, less.1, more.1)) b.less) a.less

  at : (IsRoot kernel s ⊎ IsLater kernel s t) → (IsRoot kernel t ⊎ IsLater kernel t s) → ⊥
  at (inl is) other = behind.0 is
  at (inr is) (inl root) = before.0 root
  at (inr is) (inr other) = later is other

-- ---- the classes of one list of clocks

abbrev pub no_ref : Ref
no_ref = record { number = 0 }

module _ (kernel : Kernel) (nodes : List Node) (clocks : ClocksView) (are : AreClocks kernel nodes clocks) where
  abbrev pub class : ℕ → ℕ
  class signal = get_or clocks.class_of signal 0

  abbrev pub guard : ℕ → Ref
  guard c = get_or clocks.guard c no_ref

  pub guard_there : (c : ℕ) → c < length clocks.guard → slice_get clocks.guard c ≡ Some (guard c)
  guard_there c lt = slice_get-get_or clocks.guard c no_ref lt

  pub class_below : (signal : ℕ) → IsSignal kernel signal → class signal < length clocks.guard
  class_below signal is = are.classes signal is

  pub is_function : (signal : ℕ) → IsSignal kernel signal → IsClockFunction kernel clocks.conditions signal (test nodes (guard (class signal)))
  is_function signal is = are.functions signal (guard (get_or clocks.class_of signal 0)) is (guard_there (get_or clocks.class_of signal 0) (are.classes signal is))

  -- the least signal of a class
  abbrev pub least : ℕ → ℕ
  least c = first clocks.class_of c

  pub least_is : (c : ℕ) → c < length clocks.guard → IsLeastOf clocks.class_of c (least c)
  least_is c lt =
      let has = are.members c lt in
      subst (IsLeastOf clocks.class_of c) (sym (first_is clocks.class_of c has.0 has.1.within has.1.is has.1.least)) has.1

  pub least_signal : (c : ℕ) → c < length clocks.guard → IsSignal kernel (least c)
  least_signal c lt = let within = (least_is c lt).within in let count = are.count in omega (arith, within, count)

  pub least_class : (c : ℕ) → c < length clocks.guard → class (least c) ≡ c
  least_class c lt = (least_is c lt).is

  pub least_once : (c s : ℕ) → IsLeastOf clocks.class_of c s → least c ≡ s
  least_once c s is = first_is clocks.class_of c s is.within is.is is.least

  abbrev pub leasts : List ℕ
  leasts = map least (range_with_len 0 (length clocks.guard))

  pub count_leasts : length leasts ≡ length clocks.guard
  count_leasts = length-map-range_with_len least 0 (length clocks.guard)

  pub leasts_at : (c : ℕ) → c < length clocks.guard → get_or leasts c 0 ≡ least c
  leasts_at c lt = get_or-map-range_with_len least 0 (length clocks.guard) c c 0 lt (omega arith)

  leasts_get : (c x : ℕ) → slice_get leasts c ≡ Some x → (c < length clocks.guard) × (least c ≡ x)
  leasts_get c x is =
      let within : c < length clocks.guard = omega (arith, slice_get_within leasts c x is, count_leasts) in
      let there : slice_get leasts c ≡ Some (get_or leasts c 0) = slice_get-get_or leasts c 0 (omega (arith, within, count_leasts)) in
      let both : Some x ≡ Some (get_or leasts c 0) = sym is ∙ there in
      let same : x ≡ get_or leasts c 0 = cc in
      (within, sym (same ∙ leasts_at c within))

  pub leasts_ordered : (i j x y : ℕ) → i < j → slice_get leasts i ≡ Some x → slice_get leasts j ≡ Some y → IsBefore kernel x y
  leasts_ordered i j x y lt at_i at_j =
      let one = leasts_get i x at_i in
      let two = leasts_get j y at_j in
      subst (λ s. IsBefore kernel s y) one.1 (subst (IsBefore kernel (least i)) two.1 (before one.0 two.0 (cases_order i 0)))
    where
      none : j < length clocks.guard → IsRoot kernel (least j) → ⊥
      none within is =
          let nought : get_or clocks.class_of (least j) 0 ≡ 0 = (are.roots (least j) (least_signal j within)).1 is in
          let own : get_or clocks.class_of (least j) 0 ≡ j = least_class j within in
          omega (arith, nought, own, lt)

      before : i < length clocks.guard → j < length clocks.guard → ((i ≡ 0) ⊎ ((i < 0) ⊎ (0 < i))) → IsBefore kernel (least i) (least j)
      before within_i within_j (inl nought) =
          let own : get_or clocks.class_of (least i) 0 ≡ i = least_class i within_i in
          (none within_j, inl ((are.roots (least i) (least_signal i within_i)).0 (own ∙ nought)))
      before within_i within_j (inr (inl less)) = absurd (omega (arith, less))
      before within_i within_j (inr (inr more)) =
          let own_i : get_or clocks.class_of (least i) 0 ≡ i = least_class i within_i in
          let own_j : get_or clocks.class_of (least j) 0 ≡ j = least_class j within_j in
          let layer_i = are.layer (least i) (least_signal i within_i) in
          let layer_j = are.layer (least j) (least_signal j within_j) in (
            none within_j,
            inr (record {
              one = get_or clocks.layer i 0;
              other = get_or clocks.layer j 0;
              has = subst (λ c. HasLayer kernel (least i) (get_or clocks.layer c 0)) own_i layer_i;
              other_has = subst (λ c. HasLayer kernel (least j) (get_or clocks.layer c 0)) own_j layer_j;
              less = are.numbers i j (least i) (least j) (omega (arith, more)) lt within_j (least_is i within_i) (least_is j within_j);
            }),
          )

-- ---- two lists of clocks of one kernel

module _ (kernel : Kernel) (has : HasClocks kernel) (n m : List Node) (a b : ClocksView) (one : AreClocks kernel n a) (two : AreClocks kernel m b) where
  conditions : b.conditions ≡ a.conditions
  conditions = conditions_once kernel b.conditions a.conditions two.conditions one.conditions

  -- a signal's guards are one function
  same_guard : (signal : ℕ) → IsSignal kernel signal → test n (guard kernel n a one (class kernel n a one signal)) ≡ test m (guard kernel m b two (class kernel m b two signal))
  same_guard signal is = function_once kernel a.conditions has one.conditions signal (test n (guard kernel n a one (class kernel n a one signal))) (test m (guard kernel m b two (class kernel m b two signal)))
      (is_function kernel n a one signal is)
      (subst (λ cs. IsClockFunction kernel cs signal (test m (guard kernel m b two (class kernel m b two signal)))) conditions (is_function kernel m b two signal is))

  -- signals of one class there are of one class here
  same_class : (s t : ℕ) → IsSignal kernel s → IsSignal kernel t → class kernel n a one s ≡ class kernel n a one t → class kernel m b two s ≡ class kernel m b two t
  same_class s t is_s is_t same =
      let f = guard kernel m b two (class kernel m b two s) in
      let g = guard kernel m b two (class kernel m b two t) in
      let agree : test m f ≡ test m g = sym (same_guard s is_s) ∙ ap (λ c. test n (guard kernel n a one c)) same ∙ same_guard t is_t in
      two.differ (class kernel m b two s) (class kernel m b two t) f g (guard_there kernel m b two (class kernel m b two s) (class_below kernel m b two s is_s)) (guard_there kernel m b two (class kernel m b two t) (class_below kernel m b two t is_t))
      (λ truths. ap (λ (h : (List Bool → Bool)). h truths) agree)

module _ (kernel : Kernel) (has : HasClocks kernel) (n m : List Node) (a b : ClocksView) (one : AreClocks kernel n a) (two : AreClocks kernel m b) where
  -- a signal that is the least of its class there is so here
  leasts_within : (x : ℕ) → Contains (leasts kernel n a one) x → Contains (leasts kernel m b two) x
  leasts_within x there = at (leasts_get kernel n a one there.0 x (at_contained (leasts kernel n a one) x there)) where
    at : (there.0 < length a.guard) × (least kernel n a one there.0 ≡ x) → Contains (leasts kernel m b two) x
    at place =
        let is : IsSignal kernel x = subst (IsSignal kernel) place.1 (least_signal kernel n a one there.0 place.0) in
        let own : get_or a.class_of x 0 ≡ there.0 = subst (λ s. get_or a.class_of s 0 ≡ there.0) place.1 (least_class kernel n a one there.0 place.0) in
        let below = class_below kernel m b two x is in
        let full_a = one.count in
        let full_b = two.count in
        let found : least kernel m b two (class kernel m b two x) ≡ x = least_once kernel m b two (class kernel m b two x) x (record {
          within = omega (arith, is, full_b);
          is = refl;
          least = λ other lt same.
              let signal : IsSignal kernel other = omega (arith, lt, full_b) in
              let back : get_or a.class_of other 0 ≡ get_or a.class_of x 0 = same_class kernel has m n b a two one other x signal is same in
              subst (λ s. s ≤ other) place.1 ((least_is kernel n a one there.0 place.0).least other (omega (arith, signal, full_a)) (back ∙ own));
        }) in
        contains_at (leasts kernel m b two) (class kernel m b two x) x
        (slice_get-get_or (leasts kernel m b two) (class kernel m b two x) 0 (omega (arith, below, count_leasts kernel m b two)) ∙ ap Some (leasts_at kernel m b two (class kernel m b two x) below ∙ found))

module _ (kernel : Kernel) (has : HasClocks kernel) (n m : List Node) (a b : ClocksView) (one : AreClocks kernel n a) (two : AreClocks kernel m b) where
  same_leasts : leasts kernel n a one ≡ leasts kernel m b two
  same_leasts = same_list (IsBefore kernel) (one_way kernel) (leasts kernel n a one) (leasts kernel m b two) (leasts_ordered kernel n a one) (leasts_ordered kernel m b two)
      (leasts_within kernel has n m a b one two) (leasts_within kernel has m n b a two one)

  pub same_count : length a.guard ≡ length b.guard
  same_count = sym (count_leasts kernel n a one) ∙ ap length same_leasts ∙ count_leasts kernel m b two

  same_least : (c : ℕ) → c < length a.guard → least kernel n a one c ≡ least kernel m b two c
  same_least c lt = sym (leasts_at kernel n a one c lt) ∙ ap (λ xs. get_or xs c 0) same_leasts ∙ leasts_at kernel m b two c (subst (λ k. c < k) same_count lt)

  -- the least signal of a class there is of this class here
  least_here : (c : ℕ) → c < length a.guard → class kernel m b two (least kernel n a one c) ≡ c
  least_here c lt = ap (class kernel m b two) (same_least c lt) ∙ least_class kernel m b two c (subst (λ k. c < k) same_count lt)

  class_is : (s : ℕ) → IsSignal kernel s → class kernel n a one s ≡ class kernel m b two s
  class_is s is =
      let c = class kernel n a one s in
      let lt = class_below kernel n a one s is in
      sym (same_class kernel has n m a b one two s (least kernel n a one c) is (least_signal kernel n a one c lt) (sym (least_class kernel n a one c lt)) ∙ least_here c lt)

  pub classes : a.class_of ≡ b.class_of
  classes = ext_get_or 0 a.class_of b.class_of (one.count ∙ sym two.count) (λ s lt. let full = one.count in class_is s (omega (arith, lt, full)))

  guards : (c : ℕ) → c < length a.guard → test n (guard kernel n a one c) ≡ test m (guard kernel m b two c)
  guards c lt =
      let t = least kernel n a one c in
      ap (λ d. test n (guard kernel n a one d)) (sym (least_class kernel n a one c lt))
      ∙ same_guard kernel has n m a b one two t (least_signal kernel n a one c lt)
      ∙ ap (λ d. test m (guard kernel m b two d)) (least_here c lt)

  function_of : (c : ℕ) (f : Ref) → slice_get a.guard c ≡ Some f → test n f ≡ test m (guard kernel m b two c)
  function_of c f is =
      let lt : c < length a.guard = slice_get_within a.guard c f is in
      let both : Some f ≡ Some (guard kernel n a one c) = sym is ∙ guard_there kernel n a one c lt in
      let same : f ≡ guard kernel n a one c = cc in
      ap (test n) same ∙ guards c lt

  pub within_here : (c d : ℕ) → IsWithin n a.guard c d → IsWithin m b.guard c d
  within_here c d is = record {
    guard = guard kernel m b two c;
    other_guard = guard kernel m b two d;
    has = guard_there kernel m b two c (subst (λ k. c < k) same_count (slice_get_within a.guard c is.guard is.has));
    other_has = guard_there kernel m b two d (subst (λ k. d < k) same_count (slice_get_within a.guard d is.other_guard is.other_has));
    implies = λ truths holds.
        let from : IsTrue (test n is.guard truths) = subst (λ (f : (List Bool → Bool)). IsTrue (f truths)) (sym (function_of c is.guard is.has)) holds in
        subst (λ (f : (List Bool → Bool)). IsTrue (f truths)) (function_of d is.other_guard is.other_has) (is.implies truths from);
  }

-- ---- their trees

module _ (kernel : Kernel) (has : HasClocks kernel) (n m : List Node) (a b : ClocksView) (one : AreClocks kernel n a) (two : AreClocks kernel m b)
    (t u : List (Option ℕ)) (tree : IsTree n a t) (other : IsTree m b u) where
  below_here : (c : ℕ) → c < length a.guard → c < length b.guard
  below_here c lt = subst (λ k. c < k) (same_count kernel has n m a b one two) lt

  same_parent : (c : ℕ) → 0 < c → c < length a.guard → slice_get t c ≡ slice_get u c
  same_parent c some lt =
      let p = tree.parents c some lt in
      let q = other.parents c some (below_here c lt) in
      let low = p.is.last q.parent q.is.before (within_here kernel has m n b a two one c q.parent q.is.within) in
      let high = q.is.last p.parent p.is.before (within_here kernel has n m a b one two c p.parent p.is.within) in
      let same : p.parent ≡ q.parent = omega (arith, low, high) in
      p.has ∙ ap (λ k. Some (Some k)) same ∙ sym q.has

  pub same_tree : t ≡ u
  same_tree = same_by_place t u (λ k. at k (cases_order k 0) (cases_order k (length a.guard))) where
    past : (k : ℕ) → length a.guard ≤ k → slice_get t k ≡ slice_get u k
    past k le =
        let full = tree.count in
        let full' = other.count in
        let counts = same_count kernel has n m a b one two in
        slice_get_past t k (omega (arith, le, full)) ∙ sym (slice_get_past u k (omega (arith, le, full', counts)))

    at : (k : ℕ) → ((k ≡ 0) ⊎ ((k < 0) ⊎ (0 < k))) → ((k ≡ length a.guard) ⊎ ((k < length a.guard) ⊎ (length a.guard < k))) → slice_get t k ≡ slice_get u k
    at k (inl nought) place = ap (slice_get t) nought ∙ tree.root ∙ sym other.root ∙ ap (slice_get u) (sym nought)
    at k (inr (inl less)) place = absurd (omega (arith, less))
    at k (inr (inr more)) (inl same) = past k (omega (arith, same))
    at k (inr (inr more)) (inr (inl lt)) = same_parent k more lt
    at k (inr (inr more)) (inr (inr gt)) = past k (omega (arith, gt))

pub tree_text_once : (kernel : Kernel) (a b : List ℕ) → HasClocks kernel → IsTreeText kernel a → IsTreeText kernel b → a ≡ b
tree_text_once kernel a b has one other =
    let same_classes = classes kernel has one.nodes other.nodes one.clocks other.clocks one.are other.are in
    let same = same_tree kernel has one.nodes other.nodes one.clocks other.clocks one.are other.are one.tree other.tree one.is other.is in
    let texts : text_of kernel one.clocks one.tree ≡ text_of kernel other.clocks other.tree = λ j. flat_map (line_text kernel (same_classes j)) (preorder (same j)) in
    one.says ∙ texts ∙ sym other.says

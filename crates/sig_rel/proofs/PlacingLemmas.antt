-- A list that is put together one element after another shows that a kernel is triangular where it is whole, and
-- where nothing more may be placed and it is not whole, no list does.
use Rattle.sig_rel.proofs.Common.{◌≡◌, ◌<◌, ◌+◌, ◌++◌, ◌⊎◌, inl, inr, ℕ, zero, suc, Bool, true, false, not, List, [], ◌∷◌, length, get_or, take, Option, None, Some, refl, sym, ap, ◌∙◌, subst, arith, Contains, ◌&&◌, slice_get, slice_set, option_map, ◌==◌, list_all, and_parts, and_from, cases_Bool, cases_eq, eq-eqb, eqb-true, false≢true, ltb-true, not-true, or_cases, get_or-set_other, get_or-set_same, length-set, take-append-le, take_all, IsValid, defines, form_within, is_below, Equation, Form, Fun, Delay, When, WhenConst, Default, Sync, Event, Operand, Sig, Const, Kernel, is_condition, signals_among, at_contained, contains_at, contains_cons, contains_head, contains_later, contains_none, is_boolean, EntersAfter, HoldsAfter, StandsAfter, AreMarks, AreRulesOf, IsBegun, IsFreshWithin, IsPlaced, IsStuck, MayBePlaced, allows_top, has_class, has_operand, has_operand_of, has_truth_of, has_whole, governs, is_top_class, presence_ready, truth_ready, with_class, with_truth_of, Governs, HasClasses, HasOperandOf, HasTruths, IsClass, IsCounted, IsTop, IsTriangle, IsTriangular, MayHold, MayStand, form_at, operand_signals, tested, Element, Presence, Truth, Placed, Rules, ◌-◌, ◌*◌, if◌then◌else◌, lt-ltb, signal_of, is_ready, form_by, equation_for, get_or_from_slice_get, is_left, may_take, AreLeast, numbered_element, step_by, nat_lt, contains_last, or_left, or_right}
use Rattle.sig_rel.proofs.ClassLemmas.{least_own, least_within}
use Rattle.sig_rel.proofs.OnceDefined.{defined_once, within_at}
use Rattle.sig_rel.proofs.RuleLemmas.{all_at, all_from, governs_from, governs_true, operand_from, operand_true}
use Rattle.sig_rel.proofs.TriangleLemmas.{before_place, not_own, place_of_class}
use Rattle.sig_rel.proofs.UnknownLemmas.{boolean_within}
use Rattle.sig_rel.proofs.UsedLemmas.{one_least}

-- ---- elements of a list with one more

pub contains_more : {X : Type 0} (xs : List X) (x y : X) → Contains xs y → Contains (xs ++ x ∷ []) y
contains_more [] x y there = absurd (contains_none y there)
contains_more (z ∷ xs) x y there = elim (contains_cons z y xs there) [
  | inl is ↦ subst (λ w. Contains (w ∷ (xs ++ x ∷ [])) y) is (contains_head y (xs ++ x ∷ []))
  | inr later ↦ contains_later z y (xs ++ x ∷ []) (contains_more xs x y later)
]

pub among_more : {X : Type 0} (xs : List X) (x y : X) → Contains (xs ++ x ∷ []) y → Contains xs y ⊎ (y ≡ x)
among_more [] x y there = elim (contains_cons x y [] there) [ inl is ↦ inr is | inr none ↦ absurd (contains_none y none) ]
among_more (z ∷ xs) x y there = elim (contains_cons z y (xs ++ x ∷ []) there) [
  | inl is ↦ inl (subst (λ w. Contains (w ∷ xs) y) is (contains_head y xs))
  | inr later ↦ elim (among_more xs x y later) [ inl here ↦ inl (contains_later z y xs here) | inr is ↦ inr is ]
]

-- what stands in a list with one more
pub got_more : {X : Type 0} (xs : List X) (x : X) (k : ℕ) (y : X) → slice_get (xs ++ x ∷ []) k ≡ Some y → ((k < length xs) × (slice_get xs k ≡ Some y)) ⊎ ((k ≡ length xs) × (y ≡ x))
got_more [] x zero y at = inr (refl, cc)
got_more [] x (suc k) y at = absurd (let none : None ≡ Some y = at in cc)
got_more (z ∷ xs) x zero y at = inl (omega arith, at)
got_more (z ∷ xs) x (suc k) y at = elim (got_more xs x k y at) [ inl both ↦ inl (omega (arith, both.0), both.1) | inr both ↦ inr (ap suc both.0, both.1) ]

got_before : {X : Type 0} (xs : List X) (x : X) (k : ℕ) (y : X) → slice_get xs k ≡ Some y → slice_get (xs ++ x ∷ []) k ≡ Some y
got_before [] x k y at = absurd (let none : None ≡ Some y = at in cc)
got_before (z ∷ xs) x zero y at = at
got_before (z ∷ xs) x (suc k) y at = got_before xs x k y at

-- ---- the list with one more element

pub begun_more : (kernel : Kernel) (rules : Rules) (list : List Element) (element : Element) → IsBegun kernel rules list → (Contains list element → ⊥)
    → StandsAfter kernel rules.least.items rules.counted.items rules.defined.items list element → IsBegun kernel rules (list ++ element ∷ [])
begun_more kernel rules list element begun fresh stands = record {
  once = λ i j e at there. elim (got_more list element i e at) [
    | inl a ↦ elim (got_more list element j e there) [
      | inl b ↦ begun.once i j e a.1 b.1
      | inr b ↦ absurd (fresh (subst (Contains list) b.1 (contains_at list i e a.1)))
    ]
    | inr a ↦ elim (got_more list element j e there) [
      | inl b ↦ absurd (fresh (subst (Contains list) a.1 (contains_at list j e b.1)))
      | inr b ↦ a.0 ∙ sym b.0
    ]
  ];
  top = begun.top;
  within = begun.within;
  own = begun.own;
  first = got_before list element 0 (Presence begun.top) begun.first;
  is_top = begun.is_top;
  order = λ k e pos at. elim (got_more list element k e at) [
    | inl a ↦ subst (λ before. StandsAfter kernel rules.least.items rules.counted.items rules.defined.items before e) (sym (take-append-le k list (element ∷ []) (let lt = a.0 in omega arith))) (begun.order k e pos a.1)
    | inr a ↦ subst (λ before. StandsAfter kernel rules.least.items rules.counted.items rules.defined.items before e)
        (sym (take-append-le k list (element ∷ []) (let same = a.0 in omega arith) ∙ take_all k list (let same = a.0 in omega arith)))
        (subst (StandsAfter kernel rules.least.items rules.counted.items rules.defined.items list) (sym a.1) stands)
  ];
}

-- ---- marks

mark_set : (marks : List Bool) (i k : ℕ) → (get_or (slice_set marks i true) k false ≡ true) → (get_or marks k false ≡ true) ⊎ (k ≡ i)
mark_set marks i k is = elim (cases_eq k i) [ inl same ↦ inr same | inr apart ↦ inl (sym (get_or-set_other marks i k true false apart) ∙ is) ]

mark_kept : (marks : List Bool) (i k : ℕ) → i < length marks → (get_or marks k false ≡ true) → get_or (slice_set marks i true) k false ≡ true
mark_kept marks i k lt is = elim (cases_eq k i) [ inl same ↦ subst (λ m. get_or (slice_set marks i true) m false ≡ true) (sym same) (get_or-set_same marks i true false lt) | inr apart ↦ get_or-set_other marks i k true false apart ∙ is ]

pub presence_is : (a b : ℕ) → Presence a ≡ Presence b → a ≡ b
presence_is a b e = cc

pub truth_is : (a b : ℕ) → Truth a ≡ Truth b → a ≡ b
truth_is a b e = cc

pub apart_kinds : (a b : ℕ) → Presence a ≡ Truth b → ⊥
apart_kinds a b e = cc

pub marks_more : (n : ℕ) (old new : Placed) (element : Element) → AreMarks n old → signal_of element < n → new.list.items ≡ old.list.items ++ element ∷ []
    → new.classes.items ≡ with_class old.classes.items element → new.truths.items ≡ with_truth_of old.truths.items element → AreMarks n new
marks_more n old new (Presence c) marks lt list classes truths =
    let within : c < length old.classes.items = let e = marks.class_count in omega (arith, lt, e) in
    record {
      class_count = ap length classes ∙ length-set old.classes.items c true ∙ marks.class_count;
      truth_count = ap length truths ∙ marks.truth_count;
      classes = λ k. (
        λ is. subst (λ xs. Contains xs (Presence k)) (sym list) (elim (mark_set old.classes.items c k (ap (λ xs. get_or xs k false) (sym classes) ∙ is)) [
          | inl before ↦ contains_more old.list.items (Presence c) (Presence k) ((marks.classes k).0 before)
          | inr same ↦ subst (λ m. Contains (old.list.items ++ Presence c ∷ []) (Presence m)) (sym same) (contains_last old.list.items (Presence c))
        ]),
        λ there. ap (λ xs. get_or xs k false) classes ∙ elim (among_more old.list.items (Presence c) (Presence k) (subst (λ xs. Contains xs (Presence k)) list there)) [
          | inl before ↦ mark_kept old.classes.items c k within ((marks.classes k).1 before)
          | inr same ↦ subst (λ m. get_or (slice_set old.classes.items c true) m false ≡ true) (sym (presence_is k c same)) (get_or-set_same old.classes.items c true false within)
        ],
      );
      truths = λ k. (
        λ is. subst (λ xs. Contains xs (Truth k)) (sym list) (contains_more old.list.items (Presence c) (Truth k) ((marks.truths k).0 (ap (λ xs. get_or xs k false) (sym truths) ∙ is))),
        λ there. ap (λ xs. get_or xs k false) truths ∙ elim (among_more old.list.items (Presence c) (Truth k) (subst (λ xs. Contains xs (Truth k)) list there)) [
          | inl before ↦ (marks.truths k).1 before
          | inr same ↦ absurd (apart_kinds c k (sym same))
        ],
      );
    }
marks_more n old new (Truth s) marks lt list classes truths =
    let within : s < length old.truths.items = let e = marks.truth_count in omega (arith, lt, e) in
    record {
      class_count = ap length classes ∙ marks.class_count;
      truth_count = ap length truths ∙ length-set old.truths.items s true ∙ marks.truth_count;
      classes = λ k. (
        λ is. subst (λ xs. Contains xs (Presence k)) (sym list) (contains_more old.list.items (Truth s) (Presence k) ((marks.classes k).0 (ap (λ xs. get_or xs k false) (sym classes) ∙ is))),
        λ there. ap (λ xs. get_or xs k false) classes ∙ elim (among_more old.list.items (Truth s) (Presence k) (subst (λ xs. Contains xs (Presence k)) list there)) [
          | inl before ↦ (marks.classes k).1 before
          | inr same ↦ absurd (apart_kinds k s same)
        ],
      );
      truths = λ k. (
        λ is. subst (λ xs. Contains xs (Truth k)) (sym list) (elim (mark_set old.truths.items s k (ap (λ xs. get_or xs k false) (sym truths) ∙ is)) [
          | inl before ↦ contains_more old.list.items (Truth s) (Truth k) ((marks.truths k).0 before)
          | inr same ↦ subst (λ m. Contains (old.list.items ++ Truth s ∷ []) (Truth m)) (sym same) (contains_last old.list.items (Truth s))
        ]),
        λ there. ap (λ xs. get_or xs k false) truths ∙ elim (among_more old.list.items (Truth s) (Truth k) (subst (λ xs. Contains xs (Truth k)) list there)) [
          | inl before ↦ mark_kept old.truths.items s k within ((marks.truths k).1 before)
          | inr same ↦ subst (λ m. get_or (slice_set old.truths.items s true) m false ≡ true) (sym (truth_is k s same)) (get_or-set_same old.truths.items s true false within)
        ],
      );
    }

-- ---- what is ready

one_from : (P : ℕ → Type 0) (a z : ℕ) → P a → Contains (a ∷ []) z → P z
one_from P a z pa there = elim (contains_cons a z [] there) [ inl is ↦ subst P (sym is) pa | inr none ↦ absurd (contains_none z none) ]

two_from : (P : ℕ → Type 0) (a b z : ℕ) → P a → P b → Contains (a ∷ b ∷ []) z → P z
two_from P a b z pa pb there = elim (contains_cons a z (b ∷ []) there) [ inl is ↦ subst P (sym is) pa | inr later ↦ one_from P b z pb later ]

module _ (kernel : Kernel) (least : List ℕ) (placed : Placed) (marks : AreMarks (length kernel.signals) placed) where
  abbrev HasClass : ℕ → Type 0
  HasClass x = Contains placed.list.items (Presence (get_or least x 0))

  abbrev HasTruth : ℕ → Type 0
  HasTruth x = is_boolean kernel x ≡ true → Contains placed.list.items (Truth x)

  pub class_says : (x : ℕ) → has_class least placed x ≡ true → HasClass x
  class_says x is = (marks.classes (get_or least x 0)).0 is

  class_from : (x : ℕ) → HasClass x → has_class least placed x ≡ true
  class_from x there = (marks.classes (get_or least x 0)).1 there

  truth_says : (x : ℕ) → has_truth_of kernel placed x ≡ true → HasTruth x
  truth_says x is boolean = elim (or_cases (not (is_boolean kernel x)) (get_or placed.truths.items x false) is) [
    | inl other ↦ absurd (false≢true (sym (not-true (is_boolean kernel x) other) ∙ boolean))
    | inr mark ↦ (marks.truths x).0 mark
  ]

  truth_from : (x : ℕ) → HasTruth x → has_truth_of kernel placed x ≡ true
  truth_from x there = elim (cases_Bool (is_boolean kernel x)) [
    | inl boolean ↦ or_right (not (is_boolean kernel x)) (get_or placed.truths.items x false) ((marks.truths x).1 (there boolean))
    | inr other ↦ or_left (not (is_boolean kernel x)) (get_or placed.truths.items x false) (ap not other)
  ]

  whole_says : (x : ℕ) → has_whole kernel least placed x ≡ true → HasClass x × HasTruth x
  whole_says x is = let parts = and_parts (has_class least placed x) (has_truth_of kernel placed x) is in (class_says x parts.0, truth_says x parts.1)

  whole_from : (x : ℕ) → HasClass x → HasTruth x → has_whole kernel least placed x ≡ true
  whole_from x class truth = and_from (has_class least placed x) (has_truth_of kernel placed x) (class_from x class) (truth_from x truth)

  pub presence_says : (class : ℕ) (form : Form) → Governs least class form → presence_ready kernel least placed form ≡ true → HasClasses least placed.list.items (operand_signals form) × HasTruths kernel placed.list.items (tested form)
  presence_says class (When y x b) governs is =
      let parts = and_parts (has_class least placed x.0) (has_whole kernel least placed b.0) is in
      let whole = whole_says b.0 parts.1 in
      ((λ z there. two_from HasClass x.0 b.0 z (class_says x.0 parts.0) whole.0 there), (λ z there. one_from HasTruth b.0 z whole.1 there))
  presence_says class (WhenConst y c b) governs is =
      let whole = whole_says b.0 is in
      ((λ z there. one_from HasClass b.0 z whole.0 there), (λ z there. one_from HasTruth b.0 z whole.1 there))
  presence_says class (Default y u v) governs is =
      let parts = and_parts (has_class least placed u.0) (has_class least placed v.0) is in
      ((λ z there. two_from HasClass u.0 v.0 z (class_says u.0 parts.0) (class_says v.0 parts.1) there), (λ z there. absurd (contains_none z there)))
  presence_says class _ governs is = absurd governs

  presence_from : (form : Form) → HasClasses least placed.list.items (operand_signals form) → HasTruths kernel placed.list.items (tested form) → presence_ready kernel least placed form ≡ true
  presence_from (When y x b) classes truths = and_from (has_class least placed x.0) (has_whole kernel least placed b.0) (class_from x.0 (classes x.0 (contains_head x.0 (b.0 ∷ []))))
      (whole_from b.0 (classes b.0 (contains_later x.0 b.0 (b.0 ∷ []) (contains_head b.0 []))) (truths b.0 (contains_head b.0 [])))
  presence_from (WhenConst y c b) classes truths = whole_from b.0 (classes b.0 (contains_head b.0 [])) (truths b.0 (contains_head b.0 []))
  presence_from (Default y u v) classes truths = and_from (has_class least placed u.0) (has_class least placed v.0) (class_from u.0 (classes u.0 (contains_head u.0 (v.0 ∷ []))))
      (class_from v.0 (classes v.0 (contains_later u.0 v.0 (v.0 ∷ []) (contains_head v.0 []))))
  presence_from _ classes truths = refl

  operands_say : (operands : List Operand) → list_all (has_operand kernel least placed) operands ≡ true → (z : ℕ) → Contains (signals_among operands) z → HasClass z × HasTruth z
  operands_say [] is z there = absurd (contains_none z there)
  operands_say (Sig x ∷ operands) is z there =
      let parts = and_parts (has_whole kernel least placed x.0) (list_all (has_operand kernel least placed) operands) is in
      elim (contains_cons x.0 z (signals_among operands) there) [
        | inl same ↦ subst (λ n. HasClass n × HasTruth n) (sym same) (whole_says x.0 parts.0)
        | inr later ↦ operands_say operands parts.1 z later
      ]
  operands_say (Const c ∷ operands) is z there = operands_say operands (and_parts true (list_all (has_operand kernel least placed) operands) is).1 z there

  operands_from : (operands : List Operand) → HasClasses least placed.list.items (signals_among operands) → HasTruths kernel placed.list.items (signals_among operands) → list_all (has_operand kernel least placed) operands ≡ true
  operands_from [] classes truths = refl
  operands_from (Sig x ∷ operands) classes truths =
      and_from (has_whole kernel least placed x.0) (list_all (has_operand kernel least placed) operands)
      (whole_from x.0 (classes x.0 (contains_head x.0 (signals_among operands))) (truths x.0 (contains_head x.0 (signals_among operands))))
      (operands_from operands (λ z there. classes z (contains_later x.0 z (signals_among operands) there)) (λ z there. truths z (contains_later x.0 z (signals_among operands) there)))
  operands_from (Const c ∷ operands) classes truths = operands_from operands classes truths

  abbrev HasBoth : ℕ → Type 0
  HasBoth z = HasClass z × HasTruth z

  pub both_said : (form : Form) → truth_ready kernel least placed form ≡ true → (z : ℕ) → Contains (operand_signals form) z → HasBoth z
  both_said (Fun y op operands) is z there = operands_say operands is z there
  both_said (Delay y x c) is z there = one_from HasBoth x.0 z (whole_says x.0 is) there
  both_said (When y x b) is z there = let parts = and_parts (has_whole kernel least placed x.0) (has_whole kernel least placed b.0) is in two_from HasBoth x.0 b.0 z (whole_says x.0 parts.0) (whole_says b.0 parts.1) there
  both_said (WhenConst y c b) is z there = one_from HasBoth b.0 z (whole_says b.0 is) there
  both_said (Default y u v) is z there = let parts = and_parts (has_whole kernel least placed u.0) (has_whole kernel least placed v.0) is in two_from HasBoth u.0 v.0 z (whole_says u.0 parts.0) (whole_says v.0 parts.1) there
  both_said (Sync x y) is z there = let parts = and_parts (has_whole kernel least placed x.0) (has_whole kernel least placed y.0) is in two_from HasBoth x.0 y.0 z (whole_says x.0 parts.0) (whole_says y.0 parts.1) there
  both_said (Event y x) is z there = one_from HasBoth x.0 z (whole_says x.0 is) there

  both_from : (form : Form) → HasClasses least placed.list.items (operand_signals form) → HasTruths kernel placed.list.items (operand_signals form) → truth_ready kernel least placed form ≡ true
  both_from (Fun y op operands) classes truths = operands_from operands classes truths
  both_from (Delay y x c) classes truths = whole_from x.0 (classes x.0 (contains_head x.0 [])) (truths x.0 (contains_head x.0 []))
  both_from (When y x b) classes truths = and_from (has_whole kernel least placed x.0) (has_whole kernel least placed b.0)
      (whole_from x.0 (classes x.0 (contains_head x.0 (b.0 ∷ []))) (truths x.0 (contains_head x.0 (b.0 ∷ []))))
      (whole_from b.0 (classes b.0 (contains_later x.0 b.0 (b.0 ∷ []) (contains_head b.0 []))) (truths b.0 (contains_later x.0 b.0 (b.0 ∷ []) (contains_head b.0 []))))
  both_from (WhenConst y c b) classes truths = whole_from b.0 (classes b.0 (contains_head b.0 [])) (truths b.0 (contains_head b.0 []))
  both_from (Default y u v) classes truths = and_from (has_whole kernel least placed u.0) (has_whole kernel least placed v.0)
      (whole_from u.0 (classes u.0 (contains_head u.0 (v.0 ∷ []))) (truths u.0 (contains_head u.0 (v.0 ∷ []))))
      (whole_from v.0 (classes v.0 (contains_later u.0 v.0 (v.0 ∷ []) (contains_head v.0 []))) (truths v.0 (contains_later u.0 v.0 (v.0 ∷ []) (contains_head v.0 []))))
  both_from (Sync x y) classes truths = and_from (has_whole kernel least placed x.0) (has_whole kernel least placed y.0)
      (whole_from x.0 (classes x.0 (contains_head x.0 (y.0 ∷ []))) (truths x.0 (contains_head x.0 (y.0 ∷ []))))
      (whole_from y.0 (classes y.0 (contains_later x.0 y.0 (y.0 ∷ []) (contains_head y.0 []))) (truths y.0 (contains_later x.0 y.0 (y.0 ∷ []) (contains_head y.0 []))))
  both_from (Event y x) classes truths = whole_from x.0 (classes x.0 (contains_head x.0 [])) (truths x.0 (contains_head x.0 []))

  -- what is left is fresh, and what is fresh was not placed
  pub left_fresh : (element : Element) → signal_of element < length kernel.signals → is_left kernel least placed element ≡ true → IsFreshWithin placed element
  left_fresh (Presence class) lt left = (
    let e = marks.class_count in let l : class < length kernel.signals = lt in omega (arith, e, l),
    not-true (get_or placed.classes.items class false) (and_parts (get_or least class 0 == class) (not (get_or placed.classes.items class false)) left).1,
  )
  left_fresh (Truth signal) lt left = (
    let e = marks.truth_count in let l : signal < length kernel.signals = lt in omega (arith, e, l),
    not-true (get_or placed.truths.items signal false) (and_parts (is_boolean kernel signal && has_class least placed signal) (not (get_or placed.truths.items signal false)) left).1,
  )

  pub fresh_within : (element : Element) → IsFreshWithin placed element → signal_of element < length kernel.signals
  fresh_within (Presence class) fresh = let e = marks.class_count in let lt = fresh.0 in omega (arith, e, lt)
  fresh_within (Truth signal) fresh = let e = marks.truth_count in let lt = fresh.0 in omega (arith, e, lt)

  pub not_listed : (element : Element) → IsFreshWithin placed element → Contains placed.list.items element → ⊥
  not_listed (Presence class) fresh there = false≢true (sym fresh.1 ∙ (marks.classes class).1 there)
  not_listed (Truth signal) fresh there = false≢true (sym fresh.1 ∙ (marks.truths signal).1 there)

-- ---- steps

element_of_class : (count class : ℕ) → class < count → numbered_element count class ≡ Presence class
element_of_class count class lt = ap (λ (b : Bool). if b then Presence class else Truth (class - count)) (lt-ltb class count lt)

element_of_truth : (count signal : ℕ) → numbered_element count (count + signal) ≡ Truth signal
element_of_truth count signal = by (nat_lt (count + signal) count) refl where
  by : (b : Bool) → nat_lt (count + signal) count ≡ b → numbered_element count (count + signal) ≡ Truth signal
  by true is = absurd (let lt = ltb-true (count + signal) count is in omega (arith, lt))
  by false is = ap (λ (b : Bool). if b then Presence (count + signal) else Truth (count + signal - count)) is ∙ ap Truth (let e : count + signal - count ≡ signal = omega arith in e)

-- where no step by the tables may be taken, nothing more may be placed
pub is_stuck : (kernel : Kernel) (rules : Rules) (placed : Placed) → ((place : ℕ) → place < 2 * length kernel.signals → may_take kernel rules.least.items placed (step_by rules (numbered_element (length kernel.signals) place)) ≡ false) → IsStuck kernel rules placed
is_stuck kernel rules placed none (Presence class) lt =
    subst (λ e. may_take kernel rules.least.items placed (step_by rules e) ≡ false) (element_of_class (length kernel.signals) class lt) (none class (let l : class < length kernel.signals = lt in omega (arith, l)))
is_stuck kernel rules placed none (Truth signal) lt =
    subst (λ e. may_take kernel rules.least.items placed (step_by rules e) ≡ false) (element_of_truth (length kernel.signals) signal) (none (length kernel.signals + signal) (let l : signal < length kernel.signals = lt in omega (arith, l)))

-- the row of a table that has a number
pub row_there : (rows : List (Option ℕ)) (k number : ℕ) → get_or rows k None ≡ Some number → slice_get rows k ≡ Some (Some number)
row_there [] k number is = absurd (let none : None ≡ Some number = is in cc)
row_there (row ∷ rows) zero number is = ap Some is
row_there (row ∷ rows) (suc k) number is = row_there rows k number is

pub past : {X : Type 0} (xs : List X) (k : ℕ) → slice_get xs k ≡ None → k < length xs → ⊥
past [] k is lt = omega (arith, lt)
past (x ∷ xs) zero is lt = let some : Some x ≡ None = is in cc
past (x ∷ xs) (suc k) is lt = past xs k is (omega (arith, lt))

form_of : (kernel : Kernel) (number : ℕ) (form : Form) → form_at kernel number ≡ Some form → (equation : Equation) × (slice_get kernel.equations number ≡ Some equation) × (equation.form ≡ form)
form_of kernel number form at = by (slice_get kernel.equations number) refl at where
  by : (o : Option Equation) → slice_get kernel.equations number ≡ o → option_map (λ (e : Equation). e.form) o ≡ Some form → (equation : Equation) × (slice_get kernel.equations number ≡ Some equation) × (equation.form ≡ form)
  by None there is = absurd (let no : None ≡ Some form = is in cc)
  by (Some equation) there is = (equation, there, cc)

-- a class that is governed is one
pub governed_class : (kernel : Kernel) (valid : IsValid kernel) (least : List ℕ) (are_least : AreLeast kernel least) (class number : ℕ) (form : Form) → form_at kernel number ≡ Some form → Governs least class form → IsClass kernel least class
governed_class kernel valid least are_least class number form at governs = let e = form_of kernel number form at in by form (subst (λ f. form_within (length kernel.signals) f ≡ true) e.2 (within_at kernel valid number e.0 e.1)) governs where
  of_target : (y : ℕ) → y < length kernel.signals → get_or least y 0 ≡ class → IsClass kernel least class
  of_target y lt is = subst (IsClass kernel least) is (least_within kernel least are_least y lt, least_own kernel least are_least y lt)

  by : (form : Form) → form_within (length kernel.signals) form ≡ true → Governs least class form → IsClass kernel least class
  by (When y x b) within governs = of_target y.0 (ltb-true y.0 (length kernel.signals) (and_parts (is_below (length kernel.signals) y) _ within).0) governs
  by (WhenConst y c b) within governs = of_target y.0 (ltb-true y.0 (length kernel.signals) (and_parts (is_below (length kernel.signals) y) _ within).0) governs
  by (Default y u v) within governs = of_target y.0 (ltb-true y.0 (length kernel.signals) (and_parts (is_below (length kernel.signals) y) _ within).0) governs
  by _ within governs = absurd governs

module _ (kernel : Kernel) (valid : IsValid kernel) (rules : Rules) (are : AreRulesOf kernel rules) where
  abbrev least : List ℕ
  least = rules.least.items

  -- the form that is counted for a class, by the table
  pub counted_form : (class number : ℕ) (form : Form) → slice_get rules.counted.items class ≡ Some (Some number) → form_at kernel number ≡ Some form → IsCounted kernel least class number form × (HasOperandOf least class form → ⊥)
  counted_form class number form there at =
      let is = are.is_counted class number there in
      let both : Some is.0 ≡ Some form = sym is.1.at ∙ at in
      let same : is.0 ≡ form = cc in
      (subst (IsCounted kernel least class number) same is.1, subst (λ f. HasOperandOf least class f → ⊥) same is.2)

  -- ---- tops

  pub top_from : (class : ℕ) → is_top_class kernel least class ≡ true → (get_or least class 0 ≡ class) × IsTop kernel least class
  top_from class is =
      let parts = and_parts (get_or least class 0 == class) (list_all (allows_top least class) kernel.equations) is in (
        eqb-true (get_or least class 0) class parts.0,
        λ number form at governs_it.
            let e = form_of kernel number form at in
            subst (λ f. Governs least class f → HasOperandOf least class f) e.2 (λ inside.
            elim (or_cases (not (governs least class e.0.form)) (has_operand_of least class e.0.form) (all_at (allows_top least class) kernel.equations number e.0 parts.1 e.1)) [
              | inl outside ↦ absurd (false≢true (sym (not-true (governs least class e.0.form) outside) ∙ governs_from least class e.0.form inside))
              | inr own ↦ operand_true least class e.0.form own
            ]) governs_it,
      )

  top_test : (class : ℕ) → IsClass kernel least class → IsTop kernel least class → is_top_class kernel least class ≡ true
  top_test class is top = and_from (get_or least class 0 == class) (list_all (allows_top least class) kernel.equations) (eq-eqb (get_or least class 0) class is.1)
      (all_from (allows_top least class) kernel.equations (λ k equation at. elim (cases_Bool (governs least class equation.form)) [
        | inl inside ↦ or_right (not (governs least class equation.form)) (has_operand_of least class equation.form)
            (operand_from least class equation.form (top k equation.form (ap (option_map (λ (e : Equation). e.form)) at) (governs_true least class equation.form inside)))
        | inr outside ↦ or_left (not (governs least class equation.form)) (has_operand_of least class equation.form) (ap not outside)
      ]))

  own_list : IsTriangular kernel → (list : List Element) × IsTriangle kernel least list
  own_list (other, is, (list, tri)) = (list, subst (λ l. IsTriangle kernel l list) (one_least kernel other least is are.are_least) tri)

  pub no_top : ((class : ℕ) → class < length kernel.signals → is_top_class kernel least class ≡ false) → IsTriangular kernel → ⊥
  no_top none shown =
      let own = own_list shown in
      let is = place_of_class kernel least own.0 own.1 0 own.1.top own.1.first in
      false≢true (sym (none own.1.top is.0) ∙ top_test own.1.top is own.1.is_top)

  pub begun_first : (top : ℕ) → top < length kernel.signals → is_top_class kernel least top ≡ true → (list : List Element) → list ≡ Presence top ∷ [] → IsBegun kernel rules list
  begun_first top lt is list only = subst (IsBegun kernel rules) (sym only) (record {
    once = λ i j e at there. one_place_of i j e at there;
    top = top;
    within = lt;
    own = (top_from top is).0;
    first = refl;
    is_top = (top_from top is).1;
    order = λ k e pos at. absurd (none_later k e pos at);
  }) where
    one_place_of : (i j : ℕ) (e : Element) → slice_get (Presence top ∷ []) i ≡ Some e → slice_get (Presence top ∷ []) j ≡ Some e → i ≡ j
    one_place_of zero zero e at there = refl
    one_place_of zero (suc j) e at there = absurd (let none : None ≡ Some e = there in cc)
    one_place_of (suc i) j e at there = absurd (let none : None ≡ Some e = at in cc)

    none_later : (k : ℕ) (e : Element) → 0 < k → slice_get (Presence top ∷ []) k ≡ Some e → ⊥
    none_later zero e pos at = omega (arith, pos)
    none_later (suc k) e pos at = let none : None ≡ Some e = at in cc

  -- ---- what is placed stands behind what decides it

  module _ (placed : Placed) (is : IsPlaced kernel rules placed) where
    enters_after : (class : ℕ) → is_ready kernel least placed (Presence class) (form_by kernel (get_or rules.counted.items class None)) ≡ true → EntersAfter kernel least rules.counted.items placed.list.items class
    enters_after class ready = by (get_or rules.counted.items class None) refl ready where
      with_form : (number : ℕ) → slice_get rules.counted.items class ≡ Some (Some number) → (o : Option Form) → form_at kernel number ≡ o → is_ready kernel least placed (Presence class) o ≡ true → EntersAfter kernel least rules.counted.items placed.list.items class
      with_form number there None at ready = absurd (false≢true ready)
      with_form number there (Some form) at ready =
          let parts = and_parts (governs least class form) (presence_ready kernel least placed form) ready in
          let says = presence_says kernel least placed is.marks class form (governs_true least class form parts.0) parts.1 in
          record { number = number; form = form; is_counted = there; at = at; classes = says.0; tests = says.1 }

      by : (o : Option ℕ) → get_or rules.counted.items class None ≡ o → is_ready kernel least placed (Presence class) (form_by kernel o) ≡ true → EntersAfter kernel least rules.counted.items placed.list.items class
      by None there ready = absurd (false≢true ready)
      by (Some number) there ready = with_form number (row_there rules.counted.items class number there) (form_at kernel number) refl ready

    enters_from : (class : ℕ) → IsClass kernel least class → EntersAfter kernel least rules.counted.items placed.list.items class → get_or placed.classes.items class false ≡ false → may_take kernel least placed (step_by rules (Presence class)) ≡ true
    enters_from class of after unset =
        let counted = counted_form class after.number after.form after.is_counted after.at in
        and_from (is_left kernel least placed (Presence class)) (is_ready kernel least placed (Presence class) (form_by kernel (get_or rules.counted.items class None)))
        (and_from (get_or least class 0 == class) (not (get_or placed.classes.items class false)) (eq-eqb (get_or least class 0) class of.1) (ap not unset))
        (ap (λ o. is_ready kernel least placed (Presence class) (form_by kernel o)) (get_or_from_slice_get rules.counted.items class (Some after.number) None after.is_counted)
        ∙ ap (is_ready kernel least placed (Presence class)) after.at
        ∙ and_from (governs least class after.form) (presence_ready kernel least placed after.form) (governs_from least class after.form counted.0.governs) (presence_from kernel least placed is.marks after.form after.classes after.tests))

    holds_after : (signal : ℕ) → is_left kernel least placed (Truth signal) ≡ true → is_ready kernel least placed (Truth signal) (form_by kernel (get_or rules.defined.items signal None)) ≡ true → HoldsAfter kernel least rules.defined.items placed.list.items signal
    holds_after signal left ready =
        let parts = and_parts (is_boolean kernel signal && has_class least placed signal) (not (get_or placed.truths.items signal false)) left in
        let first = and_parts (is_boolean kernel signal) (has_class least placed signal) parts.0 in
        record {
          boolean = first.0;
          class = class_says kernel least placed is.marks signal first.1;
          classes = λ number form there at z among. (both_said kernel least placed is.marks form (ready_form number form there at) z among).0;
          truths = λ number form there at z among. (both_said kernel least placed is.marks form (ready_form number form there at) z among).1;
        } where
          ready_form : (number : ℕ) (form : Form) → slice_get rules.defined.items signal ≡ Some (Some number) → form_at kernel number ≡ Some form → truth_ready kernel least placed form ≡ true
          ready_form number form there at =
              sym (ap (λ o. is_ready kernel least placed (Truth signal) (form_by kernel o)) (get_or_from_slice_get rules.defined.items signal (Some number) None there) ∙ ap (is_ready kernel least placed (Truth signal)) at) ∙ ready

    holds_from : (signal : ℕ) → HoldsAfter kernel least rules.defined.items placed.list.items signal → get_or placed.truths.items signal false ≡ false → may_take kernel least placed (step_by rules (Truth signal)) ≡ true
    holds_from signal after unset =
        and_from (is_left kernel least placed (Truth signal)) (is_ready kernel least placed (Truth signal) (form_by kernel (get_or rules.defined.items signal None)))
        (and_from (is_boolean kernel signal && has_class least placed signal) (not (get_or placed.truths.items signal false))
        (and_from (is_boolean kernel signal) (has_class least placed signal) after.boolean (class_from kernel least placed is.marks signal after.class)) (ap not unset))
        (by (get_or rules.defined.items signal None) refl) where
          with_form : (number : ℕ) → slice_get rules.defined.items signal ≡ Some (Some number) → (o : Option Form) → form_at kernel number ≡ o → is_ready kernel least placed (Truth signal) o ≡ true
          with_form number there None at = refl
          with_form number there (Some form) at = both_from kernel least placed is.marks form (after.classes number form there at) (after.truths number form there at)

          by : (o : Option ℕ) → get_or rules.defined.items signal None ≡ o → is_ready kernel least placed (Truth signal) (form_by kernel o) ≡ true
          by None there = refl
          by (Some number) there = with_form number (row_there rules.defined.items signal number there) (form_at kernel number) refl

    -- an element that may be placed is fresh, and stands behind what decides it
    parts : (element : Element) → MayBePlaced kernel rules placed element → (is_left kernel least placed element ≡ true) × (is_ready kernel least placed element (form_by kernel (equation_for rules element)) ≡ true)
    parts element may = and_parts (is_left kernel least placed element) (is_ready kernel least placed element (form_by kernel (equation_for rules element))) may.1

    pub may_stand : (element : Element) → MayBePlaced kernel rules placed element → StandsAfter kernel least rules.counted.items rules.defined.items placed.list.items element
    may_stand (Presence class) may = enters_after class (parts (Presence class) may).1
    may_stand (Truth signal) may = let both = parts (Truth signal) may in holds_after signal both.0 both.1

    pub fresh_there : (element : Element) → MayBePlaced kernel rules placed element → IsFreshWithin placed element
    fresh_there element may = left_fresh kernel least placed is.marks element may.0 (parts element may).0

    pub placed_more : (new : Placed) (element : Element) → MayBePlaced kernel rules placed element → new.list.items ≡ placed.list.items ++ element ∷ []
        → new.classes.items ≡ with_class placed.classes.items element → new.truths.items ≡ with_truth_of placed.truths.items element → IsPlaced kernel rules new
    placed_more new element may list classes truths = record {
      begun = subst (IsBegun kernel rules) (sym list) (begun_more kernel rules placed.list.items element is.begun (not_listed kernel least placed is.marks element (fresh_there element may)) (may_stand element may));
      marks = marks_more (length kernel.signals) placed new element is.marks may.0 list classes truths;
    }

    -- ---- a whole list

    abbrev list : List Element
    list = placed.list.items

    first_is_top : (element : Element) → slice_get list 0 ≡ Some element → Presence is.begun.top ≡ element
    first_is_top element at = let both : Some (Presence is.begun.top) ≡ Some element = sym is.begun.first ∙ at in cc

    listed_class : (k class : ℕ) → slice_get list k ≡ Some (Presence class) → IsClass kernel least class
    listed_class zero class at = subst (IsClass kernel least) (presence_is is.begun.top class (first_is_top (Presence class) at)) (is.begun.within, is.begun.own)
    listed_class (suc k) class at =
        let after = is.begun.order (suc k) (Presence class) (omega arith) at in
        governed_class kernel valid least are.are_least class after.number after.form after.at (counted_form class after.number after.form after.is_counted after.at).0.governs

    listed_boolean : (k signal : ℕ) → slice_get list k ≡ Some (Truth signal) → is_boolean kernel signal ≡ true
    listed_boolean zero signal at = absurd (apart_kinds is.begun.top signal (first_is_top (Truth signal) at))
    listed_boolean (suc k) signal at = let after = is.begun.order (suc k) (Truth signal) (omega arith) at in after.boolean

    defined_here : (before : List Element) (signal : ℕ) → HoldsAfter kernel least rules.defined.items before signal → is_condition kernel signal ≡ false → (equation : Equation) → Contains kernel.equations equation → defines signal equation ≡ true
        → HasClasses least before (operand_signals equation.form) × HasTruths kernel before (operand_signals equation.form)
    defined_here before signal after free equation among defined_it =
        let number = are.all_defined signal after.boolean free in
        let own = are.is_defined signal number.0 number.1 in
        let place = at_contained kernel.equations equation among in
        let same = defined_once kernel valid signal number.0 among.0 own.0 equation own.1 place own.2 defined_it in
        let at : form_at kernel number.0 ≡ Some equation.form = ap (option_map (λ (e : Equation). e.form)) (ap (slice_get kernel.equations) same ∙ place) in
        (after.classes number.0 equation.form number.1 at, after.truths number.0 equation.form number.1 at)

    may_by : (before : List Element) (element : Element) → StandsAfter kernel least rules.counted.items rules.defined.items before element → MayStand kernel least before element
    may_by before (Presence class) after = record {
      number = after.number;
      form = after.form;
      counted = (counted_form class after.number after.form after.is_counted after.at).0;
      classes = after.classes;
      tests = after.tests;
    }
    may_by before (Truth signal) after = record {
      class = after.class;
      classes = λ free equation among defined_it. (defined_here before signal after free equation among defined_it).0;
      truths = λ free equation among defined_it. (defined_here before signal after free equation among defined_it).1;
    }

    pub whole_list : ((signal : ℕ) → signal < length kernel.signals → has_whole kernel least placed signal ≡ true) → IsTriangle kernel least list
    whole_list whole = record {
      classes = λ class. (
        λ there. listed_class there.0 class (at_contained list (Presence class) there),
        λ of. subst (λ c. Contains list (Presence c)) of.1 (whole_says kernel least placed is.marks class (whole class of.0)).0,
      );
      truths = λ signal. (
        λ there. listed_boolean there.0 signal (at_contained list (Truth signal) there),
        λ boolean. (whole_says kernel least placed is.marks signal (whole signal (boolean_within kernel signal boolean))).1 boolean,
      );
      once = is.begun.once;
      top = is.begun.top;
      first = is.begun.first;
      is_top = is.begun.is_top;
      order = λ k element pos at. may_by (take k list) element (is.begun.order k element pos at);
    }

    -- ---- a list that is stuck

    module _ (stuck : IsStuck kernel rules placed) (other : List Element) (tri : IsTriangle kernel least other) where
      -- there is one top
      same_top : is.begun.top ≡ tri.top
      same_top = by there.0 (at_contained other (Presence is.begun.top) there) where
        there : Contains other (Presence is.begun.top)
        there = (tri.classes is.begun.top).1 (is.begun.within, is.begun.own)

        by : (k : ℕ) → slice_get other k ≡ Some (Presence is.begun.top) → is.begun.top ≡ tri.top
        by zero at = let both : Some (Presence is.begun.top) ≡ Some (Presence tri.top) = sym at ∙ tri.first in presence_is is.begun.top tri.top (let e : Presence is.begun.top ≡ Presence tri.top = cc in e)
        by (suc k) at =
            let may = tri.order (suc k) (Presence is.begun.top) (omega arith) at in
            absurd (not_own kernel least other tri (suc k) is.begun.top at may (is.begun.is_top may.number may.form may.counted.at may.counted.governs))

      class_placed : (k class : ℕ) → slice_get other (suc k) ≡ Some (Presence class) → ((element : Element) → Contains (take (suc k) other) element → Contains list element) → Contains list (Presence class)
      class_placed k class at before = by (get_or placed.classes.items class false) refl where
        by : (b : Bool) → get_or placed.classes.items class false ≡ b → Contains list (Presence class)
        by true set = (is.marks.classes class).0 set
        by false unset =
            let may = tri.order (suc k) (Presence class) (omega arith) at in
            let of = place_of_class kernel least other tri (suc k) class at in
            let there = are.all_counted class may.number may.form of may.counted (not_own kernel least other tri (suc k) class at may) in
            absurd (false≢true (sym (stuck (Presence class) of.0) ∙ enters_from class of (record {
              number = may.number;
              form = may.form;
              is_counted = there;
              at = may.counted.at;
              classes = λ x among. before (Presence (get_or least x 0)) (may.classes x among);
              tests = λ x among boolean. before (Truth x) (may.tests x among boolean);
            }) unset))

      truth_placed : (k signal : ℕ) → slice_get other (suc k) ≡ Some (Truth signal) → ((element : Element) → Contains (take (suc k) other) element → Contains list element) → Contains list (Truth signal)
      truth_placed k signal at before = by (get_or placed.truths.items signal false) refl where
        may : MayHold kernel least (take (suc k) other) signal
        may = tri.order (suc k) (Truth signal) (omega arith) at

        boolean : is_boolean kernel signal ≡ true
        boolean = (tri.truths signal).0 (contains_at other (suc k) (Truth signal) at)

        own_form : (number : ℕ) (form : Form) → slice_get rules.defined.items signal ≡ Some (Some number) → form_at kernel number ≡ Some form
            → (equation : Equation) × Contains kernel.equations equation × (defines signal equation ≡ true) × (is_condition kernel signal ≡ false) × (equation.form ≡ form)
        own_form number form there at_form =
            let own = are.is_defined signal number there in
            let both : Some own.0.form ≡ Some form = sym (ap (option_map (λ (e : Equation). e.form)) own.1) ∙ at_form in
            (own.0, contains_at kernel.equations number own.0 own.1, own.2, own.4, cc)

        by : (b : Bool) → get_or placed.truths.items signal false ≡ b → Contains list (Truth signal)
        by true set = (is.marks.truths signal).0 set
        by false unset = absurd (false≢true (sym (stuck (Truth signal) (boolean_within kernel signal boolean)) ∙ holds_from signal (record {
          boolean = boolean;
          class = before (Presence (get_or least signal 0)) may.class;
          classes = λ number form there at_form x among.
              let own = own_form number form there at_form in
              before (Presence (get_or least x 0)) (may.classes own.3 own.0 own.1 own.2 x (subst (λ f. Contains (operand_signals f) x) (sym own.4) among));
          truths = λ number form there at_form x among b.
              let own = own_form number form there at_form in
              before (Truth x) (may.truths own.3 own.0 own.1 own.2 x (subst (λ f. Contains (operand_signals f) x) (sym own.4) among) b);
        }) unset))

      placed_below : (m k : ℕ) (element : Element) → k < m → slice_get other k ≡ Some element → Contains list element
      placed_below zero k element lt at = absurd (omega (arith, lt))
      placed_below (suc m) zero element lt at =
          let both : Some (Presence tri.top) ≡ Some element = sym tri.first ∙ at in
          let e : Presence tri.top ≡ element = cc in
          subst (Contains list) (ap Presence same_top ∙ e) (contains_at list 0 (Presence is.begun.top) is.begun.first)
      placed_below (suc m) (suc k) (Presence class) lt at = class_placed k class at (λ element among. let before = before_place (suc k) other element among in placed_below m before.0 element (let lb = before.1 in omega (arith, lt, lb)) before.2)
      placed_below (suc m) (suc k) (Truth signal) lt at = truth_placed k signal at (λ element among. let before = before_place (suc k) other element among in placed_below m before.0 element (let lb = before.1 in omega (arith, lt, lb)) before.2)

      all_placed : (element : Element) → Contains other element → Contains list element
      all_placed element there = placed_below (suc there.0) there.0 element (omega arith) (at_contained other element there)

      all_whole : (signal : ℕ) → signal < length kernel.signals → has_whole kernel least placed signal ≡ true
      all_whole signal lt = whole_from kernel least placed is.marks signal
          (all_placed (Presence (get_or least signal 0)) ((tri.classes (get_or least signal 0)).1 (least_within kernel least are.are_least signal lt, least_own kernel least are.are_least signal lt)))
          (λ boolean. all_placed (Truth signal) ((tri.truths signal).1 boolean))

    -- where nothing more may be placed and something is missing, no list shows the kernel triangular
    pub not_triangular : IsStuck kernel rules placed → (signal : ℕ) → signal < length kernel.signals → has_whole kernel least placed signal ≡ false → IsTriangular kernel → ⊥
    not_triangular stuck signal lt missing shown = let own = own_list shown in false≢true (sym missing ∙ all_whole stuck own.0 own.1 signal lt)

-- Parents of classes, and why each class of a kernel but the root's has one.
use Rattle.sig_hier.proofs.Common.{◌≡◌, ℕ, ◌-◌, ◌<◌, ◌≤◌, ◌^◌, Bool, true, List, length, None, Some, Option, refl, ap, sym, ◌∙◌, subst, inl, inr, arith, get_or, slice_get, slice_index_or, cases_lt, get_or_from_slice_get, slice_get-get_or, some_reaction, HasClocks, AreClocks, ClocksView, Implies, test, Node, Ref, AreParents, HasParent, HaveKernel, IsParent, IsParentIfAny, IsTree, IsWithin, IsValid, Kernel}
use Rattle.sig_hier.proofs.CountLemmas.{count_within}

abbrev pub guard_at : List Ref → ℕ → Ref
guard_at guards class = get_or guards class (record { number = 0 })

pub within_at : (nodes : List Node) (guards : List Ref) (class other : ℕ) → class < length guards → other < length guards
    → Implies nodes (guard_at guards class) (guard_at guards other) → IsWithin nodes guards class other
within_at nodes guards class other lt other_lt implies = record {
  guard = guard_at guards class;
  other_guard = guard_at guards other;
  has = slice_get-get_or guards class (record { number = 0 }) lt;
  other_has = slice_get-get_or guards other (record { number = 0 }) other_lt;
  implies = implies;
}

at_within : (nodes : List Node) (guards : List Ref) (class other : ℕ) → IsWithin nodes guards class other
    → Implies nodes (guard_at guards class) (guard_at guards other)
at_within nodes guards class other w =
    let P : Ref → Type 0 = λ g. Implies nodes (guard_at guards class) g in
    let Q : Ref → Type 0 = λ f. Implies nodes f w.other_guard in
    subst P (sym (get_or_from_slice_get guards other w.other_guard (record { number = 0 }) w.other_has))
    (subst Q (sym (get_or_from_slice_get guards class w.guard (record { number = 0 }) w.has)) w.implies)

-- no class from one on is a parent
abbrev pub NoneFrom : List Node → List Ref → ℕ → ℕ → Type 0
NoneFrom nodes guards class from = (k : ℕ) → from ≤ k → k < class → IsWithin nodes guards class k → ⊥

-- the last class that is tried and contains the class is its parent
pub parent_found : (nodes : List Node) (guards : List Ref) (class from : ℕ) → 0 < from → from ≤ class → class < length guards → NoneFrom nodes guards class from
    → Implies nodes (guard_at guards class) (guard_at guards (from - 1)) → IsParent nodes guards class (from - 1)
parent_found nodes guards class from positive le lt none implies = record {
  before = omega arith;
  within = within_at nodes guards class (from - 1) lt (omega arith) implies;
  last = λ k k_lt w. elim (cases_lt (from - 1) k) [ inl above ↦ absurd (none k (omega arith) k_lt w) | inr below ↦ below ];
}

-- one more class is tried
pub none_more : (nodes : List Node) (guards : List Ref) (class from : ℕ) → 0 < from → NoneFrom nodes guards class from
    → (Implies nodes (guard_at guards class) (guard_at guards (from - 1)) → ⊥) → NoneFrom nodes guards class (from - 1)
none_more nodes guards class from positive none refuted k le lt w =
    elim (cases_lt (from - 1) k) [
      | inl above ↦ none k (omega arith) lt w
      | inr below ↦
          let e : k ≡ from - 1 = omega arith in
          let P : ℕ → Type 0 = λ n. Implies nodes (guard_at guards class) (guard_at guards n) in
          refuted (subst P e (at_within nodes guards class k w))
    ]

-- there are no more classes than signals
pub few_classes : (kernel : Kernel) (nodes : List Node) (clocks : ClocksView) → IsValid kernel → AreClocks kernel nodes clocks → length clocks.guard ≤ 2 ^ 32
few_classes kernel nodes clocks valid are =
    let le = count_within (length clocks.guard) clocks.class_of (λ class lt. let m = are.members class lt in (m.0, m.1.within, m.1.is)) in
    let count = are.count in
    let most = valid.parts.signals in
    omega (arith, le)

-- the guard of the roots is true at all truths, since each proposal is kept to by some reaction, which has the roots
root_is_true : (kernel : Kernel) (nodes : List Node) (clocks : ClocksView) → HasClocks kernel → AreClocks kernel nodes clocks
    → (guard : Ref) → slice_get clocks.guard 0 ≡ Some guard → (truths : List Bool) → test nodes guard truths ≡ true
root_is_true kernel nodes clocks has are guard is truths =
    let root = has.root.1 in
    let zero : slice_index_or clocks.class_of has.root.0 0 ≡ 0 = (are.roots has.root.0 root.is).1 root in
    let P : ℕ → Type 0 = λ n. slice_get clocks.guard n ≡ Some guard in
    let some = some_reaction kernel clocks.conditions has are.conditions truths in
    sym (are.functions has.root.0 guard root.is (subst P (sym zero) is) truths some.0 some.1 some.2) ∙ root.everywhere some.0 some.1

pub some_class : (kernel : Kernel) (nodes : List Node) (clocks : ClocksView) → HasClocks kernel → AreClocks kernel nodes clocks → 0 < length clocks.guard
some_class kernel nodes clocks has are = let lt = are.classes has.root.0 has.root.1.is in omega (arith, lt)

root_within : (kernel : Kernel) (nodes : List Node) (clocks : ClocksView) → HasClocks kernel → AreClocks kernel nodes clocks
    → (class : ℕ) → class < length clocks.guard → IsWithin nodes clocks.guard class 0
root_within kernel nodes clocks has are class lt =
    let some = some_class kernel nodes clocks has are in
    within_at nodes clocks.guard class 0 lt some
    (λ truths holds. root_is_true kernel nodes clocks has are (guard_at clocks.guard 0) (slice_get-get_or clocks.guard 0 (record { number = 0 }) some) truths)

no_parent : (nodes : List Node) (guards : List Ref) (entry : Option ℕ) → IsParentIfAny nodes guards 0 entry → entry ≡ None
no_parent nodes guards None is = refl
no_parent nodes guards (Some parent) is = let lt = is.before in absurd (omega (arith, lt))

parent_there : (nodes : List Node) (guards : List Ref) (tree : List (Option ℕ)) (class : ℕ) (entry : Option ℕ) → 0 < class → IsWithin nodes guards class 0
    → slice_get tree class ≡ Some entry → IsParentIfAny nodes guards class entry → HasParent nodes guards tree class
parent_there nodes guards tree class None lt within has is = absurd (is 0 lt within)
parent_there nodes guards tree class (Some parent) lt within has is = record { parent = parent; has = has; is = is }

pub parents_are_tree : (nodes : List Node) (clocks : ClocksView) (tree : List (Option ℕ)) → HaveKernel nodes clocks
    → AreParents nodes clocks.guard (length clocks.guard) tree → IsTree nodes clocks tree
parents_are_tree nodes clocks tree (kernel, valid, has, are) parents =
    let some = some_class kernel nodes clocks has are in
    let counted = parents.counted in
    record {
      count = counted;
      root = slice_get-get_or tree 0 None (omega arith) ∙ ap Some (no_parent nodes clocks.guard (slice_index_or tree 0 None) (parents.each 0 some));
      parents = λ class positive lt. parent_there nodes clocks.guard tree class (slice_index_or tree class None) positive
          (root_within kernel nodes clocks has are class lt) (slice_get-get_or tree class None (omega arith)) (parents.each class lt);
    }

-- In a preorder a class stands as often as its parent does, and so once.
use Rattle.sig_hier.proofs.Common.{◌≡◌, ℕ, zero, suc, ◌+◌, ◌<◌, ◌≤◌, Bool, true, false, cond, List, [], ◌∷◌, length, filter, None, Some, Option, inl, inr, refl, ap, sym, ◌∙◌, subst, arith, eqb, eq-eqb, slice_index_or, sum_by, flat_map, range_with_len, cases_Bool, cases_lt, ne_eqb, sum_by-append, sum_by-cons, get_or_from_slice_get, ClocksView, Node, children, is_parent, preorder_from, IsTree, Line}

-- 1 where a number is another one
abbrev one_at : ℕ → ℕ → ℕ
one_at c k = cond (eqb c k) 1 0

-- how often a class stands in lines
abbrev pub times : ℕ → List Line → ℕ
times c lines = sum_by (λ line. one_at c line.class) lines

sum_by-flat_map : {A : Type 0} (w : A → ℕ) (f : ℕ → List A) (xs : List ℕ) → sum_by w (flat_map f xs) ≡ sum_by (λ x. sum_by w (f x)) xs
sum_by-flat_map w f [] = refl
sum_by-flat_map w f (x ∷ xs) =
    sum_by-append w (f x) (flat_map f xs) ∙ ap (λ n. sum_by w (f x) + n) (sum_by-flat_map w f xs) ∙ sym (sum_by-cons (λ y. sum_by w (f y)) x xs)

sum_by-both : (f g h : ℕ → ℕ) → ((x : ℕ) → f x ≡ g x + h x) → (xs : List ℕ) → sum_by f xs ≡ sum_by g xs + sum_by h xs
sum_by-both f g h each [] = refl
sum_by-both f g h each (x ∷ xs) =
    omega (arith, each x, sum_by-both f g h each xs, sum_by-cons f x xs, sum_by-cons g x xs, sum_by-cons h x xs)

sum_by-none : (f : ℕ → ℕ) → ((x : ℕ) → f x ≡ 0) → (xs : List ℕ) → sum_by f xs ≡ 0
sum_by-none f each [] = refl
sum_by-none f each (x ∷ xs) = omega (arith, each x, sum_by-none f each xs, sum_by-cons f x xs)

one_at_itself : (c : ℕ) → one_at c c ≡ 1
one_at_itself c = ap (λ b. cond b 1 0) (eq-eqb c c refl)

one_at_other : (c k : ℕ) → (c ≡ k → ⊥) → one_at c k ≡ 0
one_at_other c k differ = ap (λ b. cond b 1 0) (ne_eqb c k differ)

kept_cons : (w : ℕ → ℕ) (q : ℕ → Bool) (x : ℕ) (xs : List ℕ) (b : Bool) → q x ≡ b → sum_by w (filter q (x ∷ xs)) ≡ cond b (w x) 0 + sum_by w (filter q xs)
kept_cons w q x xs true is = rw is (sum_by-cons w x (filter q xs))
kept_cons w q x xs false is = rw is (omega arith)

-- an element that is not the number makes no difference
skipped : (c a : ℕ) (xs : List ℕ) (q : ℕ → Bool) → (c ≡ a → ⊥) → sum_by (one_at c) (filter q (a ∷ xs)) ≡ sum_by (one_at c) (filter q xs)
skipped c a xs q differ =
    let none = one_at_other c a differ in
    elim (cases_Bool (q a)) [
      | inl kept ↦ let e = kept_cons (one_at c) q a xs true kept in omega (arith, e, none)
      | inr left ↦ let e = kept_cons (one_at c) q a xs false left in omega (arith, e)
    ]

-- a number before a range is not among what is kept of it
before_range : (c a m : ℕ) (q : ℕ → Bool) → c < a → sum_by (one_at c) (filter q (range_with_len a m)) ≡ 0
before_range c a zero q lt = refl
before_range c a (suc m) q lt =
    skipped c a (range_with_len (a + 1) m) q (λ e. omega (arith, e)) ∙ before_range c (a + 1) m q (omega arith)

first_kept : (c m : ℕ) (q : ℕ → Bool) (b : Bool) → q c ≡ b → sum_by (one_at c) (filter q (range_with_len c (suc m))) ≡ cond b 1 0
first_kept c m q true is =
    let e = kept_cons (one_at c) q c (range_with_len (c + 1) m) true is in
    omega (arith, e, one_at_itself c, before_range c (c + 1) m q (omega arith))
first_kept c m q false is =
    let e = kept_cons (one_at c) q c (range_with_len (c + 1) m) false is in
    omega (arith, e, before_range c (c + 1) m q (omega arith))

-- a number of a range stands once in what is kept of it, if it is kept
in_range : (c a m : ℕ) (q : ℕ → Bool) (b : Bool) → q c ≡ b → a ≤ c → c < a + m → sum_by (one_at c) (filter q (range_with_len a m)) ≡ cond b 1 0
in_range c a zero q b is le lt = absurd (omega arith)
in_range c a (suc m) q b is le lt =
    elim (cases_lt a c) [
      | inl below ↦ skipped c a (range_with_len (a + 1) m) q (λ e. omega (arith, e)) ∙ in_range c (a + 1) m q b is (omega arith) (omega arith)
      | inr above ↦
          let e : c ≡ a = omega arith in
          let P : ℕ → Type 0 = λ n. sum_by (one_at c) (filter q (range_with_len n (suc m))) ≡ cond b 1 0 in
          subst P e (first_kept c m q b is)
    ]

module _ (tree : List (Option ℕ)) where
  -- how often a class stands in the lines below each of some classes
  abbrev sum_below : ℕ → ℕ → ℕ → List ℕ → ℕ
  sum_below c levels level classes = sum_by (λ j. times c (preorder_from levels tree level j)) classes

  step : (c levels level k : ℕ) → times c (preorder_from (suc levels) tree level k) ≡ one_at c k + sum_below c levels (level + 1) (children tree k)
  step c levels level k =
      sum_by-cons (λ line. one_at c line.class) (record { level = level; class = k }) (flat_map (preorder_from levels tree (level + 1)) (children tree k))
      ∙ ap (λ n. one_at c k + n) (sum_by-flat_map (λ line. one_at c line.class) (preorder_from levels tree (level + 1)) (children tree k))

  among_children : (c k : ℕ) (entry : Option ℕ) → c < length tree → slice_index_or tree c None ≡ entry
      → sum_by (one_at c) (children tree k) ≡ cond (is_parent entry k) 1 0
  among_children c k entry lt is =
      in_range c 0 (length tree) (λ other. is_parent (slice_index_or tree other None) k) (is_parent entry k) (ap (λ o. is_parent o k) is) (omega arith) (omega arith)

  -- a class with a parent stands where it is begun with, and wherever its parent does
  listed : (c p : ℕ) → c < length tree → slice_index_or tree c None ≡ Some p → (levels level k : ℕ)
      → times c (preorder_from (suc levels) tree level k) ≡ one_at c k + times p (preorder_from levels tree level k)
  listed c p lt is zero level k =
      let none = sum_by-none (λ j. times c (preorder_from 0 tree (level + 1) j)) (λ j. refl) (children tree k) in
      omega (arith, step c 0 level k, none)
  listed c p lt is (suc levels) level k =
      let both = sum_by-both (λ j. times c (preorder_from (suc levels) tree (level + 1) j)) (one_at c) (λ j. times p (preorder_from levels tree (level + 1) j))
      (λ j. listed c p lt is levels (level + 1) j) (children tree k) in
      omega (arith, step c (suc levels) level k, both, among_children c k (Some p) lt is, step p levels level k)

  -- a class with no parent stands where it is begun with alone
  unlisted : (c : ℕ) → c < length tree → slice_index_or tree c None ≡ None → (levels level k : ℕ)
      → times c (preorder_from (suc levels) tree level k) ≡ one_at c k
  unlisted c lt is zero level k =
      let none = sum_by-none (λ j. times c (preorder_from 0 tree (level + 1) j)) (λ j. refl) (children tree k) in
      omega (arith, step c 0 level k, none)
  unlisted c lt is (suc levels) level k =
      let both = sum_by-both (λ j. times c (preorder_from (suc levels) tree (level + 1) j)) (one_at c) (λ j. 0)
      (λ j. omega (arith, unlisted c lt is levels (level + 1) j)) (children tree k) in
      let none = sum_by-none (λ j. 0) (λ j. refl) (children tree k) in
      omega (arith, step c (suc levels) level k, both, none, among_children c k None lt is)

  once_from : (root : slice_index_or tree 0 None ≡ None) → ((c : ℕ) → 0 < c → c < length tree → (p : ℕ) × (slice_index_or tree c None ≡ Some p) × (p < c))
      → (levels c : ℕ) → c < levels → c < length tree → times c (preorder_from levels tree 0 0) ≡ 1
  once_from root parents zero c lt within = absurd (omega arith)
  once_from root parents (suc levels) zero lt within = unlisted 0 within root levels 0 0
  once_from root parents (suc levels) (suc c) lt within =
      let parent = parents (suc c) (omega arith) within in
      let less = parent.2 in
      let above = once_from root parents levels parent.0 (omega arith) (omega arith) in
      let none = one_at_other (suc c) 0 (λ e. omega (arith, e)) in
      omega (arith, listed (suc c) parent.0 within parent.1 levels 0 0, above, none)

pub once : (nodes : List Node) (clocks : ClocksView) (tree : List (Option ℕ)) → IsTree nodes clocks tree → (class : ℕ) → class < length tree
    → times class (preorder_from (length tree) tree 0 0) ≡ 1
once nodes clocks tree is class lt =
    let count = is.count in
    once_from tree (get_or_from_slice_get tree 0 None None is.root)
    (λ c positive within. let h = is.parents c positive (omega arith) in
    (h.parent, get_or_from_slice_get tree c (Some h.parent) None h.has, h.is.before))
    (length tree) class lt lt

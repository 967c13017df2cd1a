-- The variables of many functions: masks of blocks, and lists that grow block by block.
use Rattle.sig_dd.proofs.Common.{◌≡◌, ℕ, suc, ◌+◌, ◌*◌, ◌<◌, ◌≤◌, ◌↔◌, Bool, true, false, List, [], ◌∷◌, ◌++◌, ◌⊎◌, inl, inr, Option, None, Some, IfSome, length, get_or, set, get_or-set_same, get_or-set_other, slice_get, refl, sym, ◌∙◌, ap, subst, arith, IsTrue, Contains, false≢true, cases_eq, cases_lt, length_push, get_or_append_left, get_or_default, get_or_push, Contains-push, Contains-push_cases, Contains-append_left, IsStrictlyIncreasing, max, bit_at, bit_or, bit_at_or, bit_at-lt, bit_at-zero, Tests, Holds, node_of, diagram, IsReduced, Ref, Node, HasBit, IsMask, AreMasks, IsTestedBelow, IsSupport, added}
use Rattle.sig_dd.proofs.Canonical.{same_ref}
use Rattle.sig_dd.proofs.Variables.{constant_tests, node_tests, tests_node, low_below, high_below, Depends-Tests, Tests-Depends}

-- the greater of two bits is 1 where one of them is
max_one : (x y m : ℕ) → m ≡ max x y → x < 2 → y < 2 → m ≡ 1 → (x ≡ 1) ⊎ (y ≡ 1)
max_one x y m e lx ly is = elim (cases_eq x 1) [ inl h ↦ inl h | inr ne ↦ inr (omega arith) ]

one_max : (x y m : ℕ) → m ≡ max x y → x < 2 → y < 2 → (x ≡ 1) ⊎ (y ≡ 1) → m ≡ 1
one_max x y m e lx ly (inl h) = omega arith
one_max x y m e lx ly (inr h) = omega arith

pub or_bit : (a b place : ℕ) → HasBit (bit_or a b) place → HasBit a place ⊎ HasBit b place
or_bit a b place has = max_one (bit_at a place) (bit_at b place) (bit_at (bit_or a b) place) (bit_at_or a b place) (bit_at-lt a place) (bit_at-lt b place) has

pub bit_or_one : (a b place : ℕ) → HasBit a place ⊎ HasBit b place → HasBit (bit_or a b) place
bit_or_one a b place has = one_max (bit_at a place) (bit_at b place) (bit_at (bit_or a b) place) (bit_at_or a b place) (bit_at-lt a place) (bit_at-lt b place) has

pub no_bit : (place : ℕ) → HasBit 0 place → ⊥
no_bit place has = let none = bit_at-zero place in let zero_one : 0 ≡ 1 = sym none ∙ has in omega (arith, zero_one)

module _ (nodes : List Node) (reduced : IsReduced nodes) (r : Ref) (held : Holds nodes r) where
  -- a constant has no variable
  pub mask_none : (block : ℕ) → None ≡ node_of nodes r → IsMask nodes block r 0
  mask_none block is place lt = (
    (λ has. absurd (no_bit place has)),
    (λ tests. absurd (constant_tests nodes reduced r held is (block * 64 + place) tests)),
  )

  -- a node has its own and those of its children
  pub mask_more : (block : ℕ) (n : Node) → Some n ≡ node_of nodes r → (own low high : ℕ) → ((place : ℕ) → place < 64 → HasBit own place ↔ (n.variable ≡ block * 64 + place))
      → IsMask nodes block n.low low → IsMask nodes block n.high high → IsMask nodes block r (bit_or (bit_or own low) high)
  mask_more block n is own low high tells in_low in_high place lt = (
    (λ has. tests_node nodes reduced r held n is (block * 64 + place)
        (elim (or_bit (bit_or own low) high place has) [
          | inr h ↦ inr (inr ((in_high place lt).0 h))
          | inl front ↦ elim (or_bit own low place front) [
            | inl o ↦ inl (sym ((tells place lt).0 o))
            | inr l ↦ inr (inl ((in_low place lt).0 l))
          ]
        ])),
    (λ tests. bit_or_one (bit_or own low) high place
        (elim (node_tests nodes reduced r held n is (block * 64 + place) tests) [
          | inl same ↦ inl (bit_or_one own low place (inl ((tells place lt).1 (sym same))))
          | inr (inl l) ↦ inl (bit_or_one own low place (inr ((in_low place lt).1 l)))
          | inr (inr h) ↦ inr ((in_high place lt).1 h)
        ])),
  )

  -- one more reference was looked at for the greatest block
  pub blocks_more : (blocks own new : ℕ) → blocks ≤ new → own ≤ new → ((s : Ref) → s.number < r.number → (v : ℕ) → Tests (diagram nodes s) v → v < blocks * 64) → IfSome (node_of nodes r) (λ n. n.variable < own * 64)
      → (s : Ref) → s.number < r.number + 1 → (v : ℕ) → Tests (diagram nodes s) v → v < new * 64
  blocks_more blocks own new most own_most before past s lt v tests = elim (cases_lt s.number r.number) [
    | inl below ↦ let less = before s below v tests in omega (arith, less)
    | inr not_below ↦ here (node_of nodes r) refl (subst (λ (q : Ref). Tests (diagram nodes q) v) (same_ref s r (omega arith)) tests)
  ]
    where
      within : (n : Node) → Some n ≡ node_of nodes r → n.variable < own * 64
      within n is = subst (λ (o : Option Node). IfSome o (λ n. n.variable < own * 64)) (sym is) past

      here : (o : Option Node) → o ≡ node_of nodes r → Tests (diagram nodes r) v → v < new * 64
      here None is t = absurd (constant_tests nodes reduced r held is v t)
      here (Some n) is t = elim (node_tests nodes reduced r held n is v t) [
        | inl same ↦ let less = within n is in omega (arith, less, same)
        | inr (inl l) ↦ let less = before n.low (low_below nodes reduced r held n is) v l in omega (arith, less)
        | inr (inr h) ↦ let less = before n.high (high_below nodes reduced r held n is) v h in omega (arith, less)
      ]

-- one more mask
pub masks_push : (nodes : List Node) (block : ℕ) (masks : List ℕ) → AreMasks nodes block masks → (r : Ref) → r.number ≡ length masks → (mask : ℕ) → IsMask nodes block r mask → AreMasks nodes block (masks ++ mask ∷ [])
masks_push nodes block masks before r is mask next s lt =
    let size = length_push masks mask in
    elim (cases_lt s.number (length masks)) [
      | inl below ↦ subst (IsMask nodes block s) (sym (get_or_append_left masks (mask ∷ []) 0 s.number below)) (before s below)
      | inr not_below ↦
          let here : s.number ≡ r.number = omega (arith, size) in
          subst (IsMask nodes block s) (sym (get_or_push masks mask 0 s.number (sym (here ∙ is)))) (subst (λ (q : Ref). IsMask nodes block q mask) (sym (same_ref s r here)) next)
    ]

-- a greater variable at the end
increasing_push : (xs : List ℕ) (v : ℕ) → IsStrictlyIncreasing xs → ((u : ℕ) → Contains xs u → u < v) → IsStrictlyIncreasing (xs ++ v ∷ [])
increasing_push xs v increasing below k lt =
    let size = length_push xs v in
    elim (cases_lt (suc k) (length xs)) [
      | inl inside ↦
          let first = get_or_append_left xs (v ∷ []) 0 k (omega arith) in
          let second = get_or_append_left xs (v ∷ []) 0 (k + 1) (omega arith) in
          let less = increasing k (omega arith) in
          omega (arith, first, second, less)
      | inr not_inside ↦
          let first = get_or_append_left xs (v ∷ []) 0 k (omega (arith, size)) in
          let second = get_or_push xs v 0 (k + 1) (omega (arith, size)) in
          let less = below (get_or xs k 0) (k, omega (arith, size), get_or_default xs k (get_or xs k 0) 0 (omega (arith, size))) in
          omega (arith, first, second, less)
    ]

-- one more variable was looked at
pub tested_more : (nodes : List Node) (bound : ℕ) (r : Ref) (list : List ℕ) (chosen : Bool) → IsTestedBelow nodes bound r list → (IsTrue chosen ↔ Tests (diagram nodes r) bound) → IsTestedBelow nodes (bound + 1) r (added list bound chosen)
tested_more nodes bound r list true before tells = record {
  increasing = increasing_push list bound before.increasing (λ u has. ((before.exact u).0 has).0);
  exact = λ v. (
    (λ has. elim (Contains-push_cases list bound v has) [
      | inl old ↦ let was = (before.exact v).0 old in (omega (arith, was.0), was.1)
      | inr same ↦ (omega (arith, same), subst (Tests (diagram nodes r)) same (tells.0 refl))
    ]),
    (λ is. elim (cases_eq bound v) [
      | inl same ↦ subst (Contains (list ++ bound ∷ [])) same (Contains-push list bound)
      | inr differ ↦ Contains-append_left list (bound ∷ []) v ((before.exact v).1 (let less = is.0 in omega (arith, less), is.1))
    ]),
  );
}
tested_more nodes bound r list false before tells = record {
  increasing = before.increasing;
  exact = λ v. (
    (λ has. let was = (before.exact v).0 has in (omega (arith, was.0), was.1)),
    (λ is. elim (cases_eq bound v) [
      | inl same ↦ absurd (false≢true (tells.1 (subst (Tests (diagram nodes r)) (sym same) is.1)))
      | inr differ ↦ (before.exact v).1 (let less = is.0 in omega (arith, less), is.1)
    ]),
  );
}

-- all variables were looked at
pub supported : (nodes : List Node) → IsReduced nodes → (bound : ℕ) (r : Ref) (held : Holds nodes r) → ((v : ℕ) → Tests (diagram nodes r) v → v < bound) → (list : List ℕ) → IsTestedBelow nodes bound r list → IsSupport nodes r list
supported nodes reduced bound r held within list tested = record {
  increasing = tested.increasing;
  exact = λ v. (
    (λ has. Depends-Tests nodes reduced r held v ((tested.exact v).0 has).1),
    (λ depends. let tests = Tests-Depends nodes reduced r held v depends in (tested.exact v).1 (within v tests, tests)),
  );
}

-- a block was added to one more list
pub block_more : (nodes : List Node) (bound : ℕ) (roots : List Ref) (lists : List (List ℕ)) (n : ℕ) (new : List ℕ) → n < length lists
    → ((i : ℕ) (r : Ref) → i < n → slice_get roots i ≡ Some r → IsTestedBelow nodes bound r (get_or lists i []))
    → ((r : Ref) → slice_get roots n ≡ Some r → IsTestedBelow nodes bound r new)
    → (i : ℕ) (r : Ref) → i < n + 1 → slice_get roots i ≡ Some r → IsTestedBelow nodes bound r (get_or (set lists n new) i [])
block_more nodes bound roots lists n new lt before here i r less get = elim (cases_eq i n) [
  | inl same ↦
      let read : get_or (set lists n new) i [] ≡ new = ap (λ k. get_or (set lists n new) k []) same ∙ get_or-set_same lists n new [] lt in
      subst (IsTestedBelow nodes bound r) (sym read) (here r (ap (slice_get roots) (sym same) ∙ get))
  | inr differ ↦ subst (IsTestedBelow nodes bound r) (sym (get_or-set_other lists n i new [] differ)) (before i r (omega (arith, less, differ)) get)
]

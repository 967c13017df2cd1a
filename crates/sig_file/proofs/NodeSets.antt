-- A set of nodes with one more.
use Rattle.sig_file.proofs.Common.{◌≡◌, ◌++◌, ◌∷◌, ◌∙◌, ◌||◌, [], ℕ, Bool, true, false, List, ap, sym, refl, cond, eqb, eqb-true, ne_eqb, list_any, is_node, ImageNode, node_cmp, list_any-append, arith, ltb-true}
use Rattle.std.specs.Cmp.{both_tied}
use Rattle.std.proofs.lemmas.Bool.{eqb-false}
use Rattle.std.proofs.Common.{Equal, Greater, Less}
use Rattle.std.specs.Ordering.{is_eq, nat_cmp}
use Rattle.std.specs.Prelude.{nat_lt}

-- equal numbers compare so
nat_tied : (x y : ℕ) → eqb x y ≡ is_eq (nat_cmp x y)
nat_tied x y = by (nat_lt x y) refl
  where
    level : (b : Bool) → b ≡ is_eq (cond b Equal Greater)
    level true = refl
    level false = refl

    by : (b : Bool) → nat_lt x y ≡ b → eqb x y ≡ is_eq (cond b Less (cond (eqb x y) Equal Greater))
    by true e = let lt = ltb-true x y e in ne_eqb x y (λ s. omega (arith, s))
    by false e = level (eqb x y)

turned_by : (x y : ℕ) (b c : Bool) → eqb x y ≡ b → eqb y x ≡ c → b ≡ c
turned_by x y true true e f = refl
turned_by x y true false e f = absurd (eqb-false y x f (sym (eqb-true x y e)))
turned_by x y false true e f = absurd (eqb-false x y e (sym (eqb-true y x f)))
turned_by x y false false e f = refl

turned : (x y : ℕ) → eqb x y ≡ eqb y x
turned x y = turned_by x y (eqb x y) (eqb y x) refl refl

-- nodes that compare so are the same
tied : (a b : ImageNode) → is_node b.variable b.low b.high a ≡ is_eq (node_cmp a b)
tied a b =
    both_tied _ _ _ _ (turned b.variable a.variable ∙ nat_tied a.variable b.variable)
    (both_tied _ _ _ _ (turned b.low a.low ∙ nat_tied a.low b.low) (turned b.high a.high ∙ nat_tied a.high b.high))

one_more : (b c there : Bool) → b ≡ c → cond c true there ≡ (there || (b || false))
one_more true true true e = refl
one_more true true false e = refl
one_more false false true e = refl
one_more false false false e = refl
one_more true false there e = cc
one_more false true there e = cc

-- a node is one of these and one more
pub set_with : (nodes : List ImageNode) (node n : ImageNode) (there : Bool) → there ≡ list_any (is_node n.variable n.low n.high) nodes
    → cond (is_eq (node_cmp node n)) true there ≡ list_any (is_node n.variable n.low n.high) (nodes ++ node ∷ [])
set_with nodes node n there e =
    one_more (is_node n.variable n.low n.high node) (is_eq (node_cmp node n)) there (tied node n)
    ∙ ap (λ (t : Bool). t || (is_node n.variable n.low n.high node || false)) e
    ∙ sym (list_any-append (is_node n.variable n.low n.high) nodes (node ∷ []))

-- A tree without places, of leaves without places, can be given the places of any leaves that are
-- those: lists, constants and expressions.
use Rattle.sig_print.proofs.Common.{◌≡◌, ℕ, zero, suc, ◌≤◌, ◌++◌, List, [], ◌∷◌, refl, sym, ap, ◌∙◌, subst, codes, Option, None, Some, inl, inr, map, Span, Constant, Int, Bool, Param, Expression, Named, Number, Truth, Unary, Binary, Delay, Cell, Terminal, Leaf, leaf, name_leaf, number, word, truth_word, unary_terminal, binary_terminal, default_level, mixed_level, delay_level, primary_level, operand_level, left_level, right_level, level_of, Limits, Each, Further, Separated, Listed, Between, IsConstant, IsInit, IsOptionalInit, IsOptionalOne, Enclosed, IsBare, IsAtLevel, no_place, unplaced_leaf, unplaced_leaves, unplaced_name, unplaced_constant, unplaced_init, unplaced_expression}
use Rattle.sig_tree.specs.Terminals.{mark}
use Rattle.sig_print.proofs.ReadExpressions.{level_unplaced}

-- no leaves
pub none_new : (new : List Leaf) → unplaced_leaves new ≡ [] → new ≡ []
none_new [] e = refl
none_new (m ∷ new) e = cc

-- a leaf in front
pub head_new : (new : List Leaf) (l : Leaf) (a : List Leaf) → unplaced_leaves new ≡ l ∷ a
    → (at : Span) × (g : List Leaf) × (new ≡ leaf l.terminal at ∷ g) × (unplaced_leaves g ≡ a)
head_new [] l a e = cc
head_new (m ∷ new) l a e =
    let first : unplaced_leaf m ≡ l = cc in
    let rest : unplaced_leaves new ≡ a = cc in
    (m.at, new, ap (λ (k : Leaf). leaf k.terminal m.at ∷ new) first, rest)

-- one leaf
pub one_new : (new : List Leaf) (l : Leaf) → unplaced_leaves new ≡ l ∷ [] → (at : Span) × (new ≡ leaf l.terminal at ∷ [])
one_new new l e =
    let h = head_new new l [] e in
    (h.0, h.2 ∙ ap (λ g. leaf l.terminal h.0 ∷ g) (none_new h.1 h.3))

-- leaves and others
pub split_new : (new a b : List Leaf) → unplaced_leaves new ≡ a ++ b
    → (f g : List Leaf) × (new ≡ f ++ g) × (unplaced_leaves f ≡ a) × (unplaced_leaves g ≡ b)
split_new new [] b e = ([], new, refl, refl, e)
split_new [] (l ∷ a) b e = cc
split_new (m ∷ new) (l ∷ a) b e =
    let first : unplaced_leaf m ≡ l = cc in
    let rest : unplaced_leaves new ≡ a ++ b = cc in
    let r = split_new new a b rest in
    (m ∷ r.0, r.1, ap (λ x. m ∷ x) r.2, ap (λ k. k ∷ unplaced_leaves r.0) first ∙ ap (λ x. l ∷ x) r.3, r.4)

pub cons_same : {A : Type 0} (x y : A) (xs ys : List A) → x ≡ y → xs ≡ ys → x ∷ xs ≡ y ∷ ys
cons_same x y xs ys e f = ap (λ z. z ∷ xs) e ∙ ap (λ zs. y ∷ zs) f

module _ {A : Type 0} (Is : A → List Leaf → Type 0) (un : A → A)
    (place : (x : A) (new : List Leaf) → Is (un x) (unplaced_leaves new) → (y : A) × (un y ≡ un x) × Is y new) where
  pub place_each : (xs : List A) (new : List Leaf) → Each Is (map un xs) (unplaced_leaves new) → (ys : List A) × (map un ys ≡ map un xs) × Each Is ys new
  place_each [] new h = ([], refl, none_new new h)
  place_each (x ∷ xs) new (front, back, e, is, rest) =
      let s = split_new new front back e in
      let y = place x s.0 (subst (Is (un x)) (sym s.3) is) in
      let r = place_each xs s.1 (subst (Each Is (map un xs)) (sym s.4) rest) in
      (y.0 ∷ r.0, cons_same (un y.0) (un x) (map un r.0) (map un xs) y.1 r.1, (s.0, s.1, s.2, y.2, r.2))

  pub place_further : (terminal : Terminal) (xs : List A) (new : List Leaf) → Further Is terminal (map un xs) (unplaced_leaves new) → (ys : List A) × (map un ys ≡ map un xs) × Further Is terminal ys new
  place_further terminal [] new h = ([], refl, none_new new h)
  place_further terminal (x ∷ xs) new (at, front, back, e, is, rest) =
      let t = head_new new (leaf terminal at) (front ++ back) e in
      let s = split_new t.1 front back t.3 in
      let y = place x s.0 (subst (Is (un x)) (sym s.3) is) in
      let r = place_further terminal xs s.1 (subst (Further Is terminal (map un xs)) (sym s.4) rest) in (
        y.0 ∷ r.0,
        cons_same (un y.0) (un x) (map un r.0) (map un xs) y.1 r.1,
        (t.0, s.0, s.1, t.2 ∙ ap (λ l. leaf terminal t.0 ∷ l) s.2, y.2, r.2),
      )

  pub place_separated : (terminal : Terminal) (xs : List A) (new : List Leaf) → Separated Is terminal (map un xs) (unplaced_leaves new) → (ys : List A) × (map un ys ≡ map un xs) × Separated Is terminal ys new
  place_separated terminal [] new h = absurd h
  place_separated terminal (x ∷ xs) new (front, back, e, is, rest) =
      let s = split_new new front back e in
      let y = place x s.0 (subst (Is (un x)) (sym s.3) is) in
      let r = place_further terminal xs s.1 (subst (Further Is terminal (map un xs)) (sym s.4) rest) in
      (y.0 ∷ r.0, cons_same (un y.0) (un x) (map un r.0) (map un xs) y.1 r.1, (s.0, s.1, s.2, y.2, r.2))

  listed_from : (terminal : Terminal) (ys : List A) (new : List Leaf) → Separated Is terminal ys new → Listed Is terminal ys new
  listed_from terminal [] new h = absurd h
  listed_from terminal (y ∷ ys) new h = h

  pub place_listed : (terminal : Terminal) (xs : List A) (new : List Leaf) → Listed Is terminal (map un xs) (unplaced_leaves new) → (ys : List A) × (map un ys ≡ map un xs) × Listed Is terminal ys new
  place_listed terminal [] new h = ([], refl, none_new new h)
  place_listed terminal (x ∷ xs) new h =
      let r = place_separated terminal (x ∷ xs) new h in
      (r.0, r.1, listed_from terminal r.0 new r.2)

pub place_between : (opening closing : Terminal) (Is : List Leaf → Type 0) (new : List Leaf) → Between opening closing Is (unplaced_leaves new)
    → Between opening closing (λ inside. Is (unplaced_leaves inside)) new
place_between opening closing Is new (o, c, inside, e, is) =
    let t = head_new new (leaf opening o) (inside ++ leaf closing c ∷ []) e in
    let s = split_new t.1 inside (leaf closing c ∷ []) t.3 in
    let k = one_new s.1 (leaf closing c) s.4 in
    (t.0, k.0, s.0, t.2 ∙ ap (λ l. leaf opening t.0 ∷ l) (s.2 ∙ ap (λ l. s.0 ++ l) k.1), subst Is (sym s.3) is)

pub place_constant : (c : Constant) (new : List Leaf) → IsConstant (unplaced_constant c) (unplaced_leaves new) → (d : Constant) × (unplaced_constant d ≡ unplaced_constant c) × IsConstant d new
place_constant (Int value at) new (inl (n, is, e)) = let k = one_new new (leaf (number n) no_place) e in (Int value k.0, refl, inl (n, is, k.1))
place_constant (Int value at) new (inr (n, digits, is, e)) =
    let t = head_new new (leaf (mark (codes "-")) no_place) (leaf (number n) digits ∷ []) e in
    let k = one_new t.1 (leaf (number n) digits) t.3 in
    (Int value t.0, refl, inr (n, k.0, is, t.2 ∙ ap (λ l. leaf (mark (codes "-")) t.0 ∷ l) k.1))
place_constant (Bool holds at) new e = let k = one_new new (leaf (truth_word holds) no_place) e in (Bool holds k.0, refl, k.1)
place_constant (Param n) new e = let k = one_new new (name_leaf (unplaced_name n)) e in (Param (record { text = n.text; at = k.0 }), refl, k.1)

pub place_init : (c : Constant) (new : List Leaf) → IsInit (unplaced_constant c) (unplaced_leaves new) → (d : Constant) × (unplaced_constant d ≡ unplaced_constant c) × IsInit d new
place_init c new (at, rest, e, is) =
    let t = head_new new (leaf (word (codes "init")) at) rest e in
    let r = place_constant c t.1 (subst (IsConstant (unplaced_constant c)) (sym t.3) is) in
    (r.0, r.1, (t.0, t.1, t.2, r.2))

pub place_optional : (o : Option Constant) (new : List Leaf) → IsOptionalInit (unplaced_init o) (unplaced_leaves new) → (p : Option Constant) × (unplaced_init p ≡ unplaced_init o) × IsOptionalInit p new
place_optional None new h = (None, refl, none_new new h)
place_optional (Some c) new h = let r = place_init c new h in (Some r.0, ap (λ d. Some d) r.1, r.2)

place_one : (new : List Leaf) → IsOptionalOne (unplaced_leaves new) → IsOptionalOne new
place_one new (inl e) = inl (none_new new e)
place_one new (inr (at, e)) = let k = one_new new (leaf (number 1) at) e in inr (k.0, k.1)

module _ (limits : Limits) where
  place_enclosed : (e : Expression) → ((depth : ℕ) (new : List Leaf) → IsBare limits (unplaced_expression e) depth (unplaced_leaves new)
      → (f : Expression) × (unplaced_expression f ≡ unplaced_expression e) × IsBare limits f depth new)
      → (parentheses wanted depth : ℕ) (new : List Leaf) → Enclosed limits (level_of (unplaced_expression e)) (IsBare limits (unplaced_expression e)) parentheses wanted depth (unplaced_leaves new)
      → (f : Expression) × (unplaced_expression f ≡ unplaced_expression e) × Enclosed limits (level_of f) (IsBare limits f) parentheses wanted depth new
  place_enclosed e bare zero wanted depth new h =
      let r = bare depth new h.1 in
      (r.0, r.1, (subst (λ level. wanted ≤ level) (ap level_of (sym r.1) ∙ level_unplaced r.0) h.0, r.2))
  place_enclosed e bare (suc n) wanted depth new h =
      let b = place_between (mark (codes "(")) (mark (codes ")")) (Enclosed limits (level_of (unplaced_expression e)) (IsBare limits (unplaced_expression e)) n default_level (suc depth)) new h.1 in
      let r = place_enclosed e bare n default_level (suc depth) b.2 b.4 in
      (r.0, r.1, (h.0, (b.0, b.1, b.2, b.3, r.2)))

  place_stands : (e : Expression) → ((depth : ℕ) (new : List Leaf) → IsBare limits (unplaced_expression e) depth (unplaced_leaves new)
      → (f : Expression) × (unplaced_expression f ≡ unplaced_expression e) × IsBare limits f depth new)
      → (wanted depth : ℕ) (new old : List Leaf) → unplaced_leaves new ≡ old → IsAtLevel limits wanted depth (unplaced_expression e) old
      → (f : Expression) × (unplaced_expression f ≡ unplaced_expression e) × IsAtLevel limits wanted depth f new
  place_stands e bare wanted depth new old same h =
      let g = subst (IsAtLevel limits wanted depth (unplaced_expression e)) (sym same) h in
      let r = place_enclosed e bare g.0 wanted depth new g.1 in
      (r.0, r.1, (g.0, r.2))

  place_bare : (e : Expression) (depth : ℕ) (new : List Leaf) → IsBare limits (unplaced_expression e) depth (unplaced_leaves new)
      → (f : Expression) × (unplaced_expression f ≡ unplaced_expression e) × IsBare limits f depth new
  place_bare (Named n) depth new e = let k = one_new new (name_leaf (unplaced_name n)) e in (Named (record { text = n.text; at = k.0 }), refl, k.1)
  place_bare (Number value at) depth new e = let k = one_new new (leaf (number value) no_place) e in (Number value k.0, refl, k.1)
  place_bare (Truth holds at) depth new e = let k = one_new new (leaf (truth_word holds) no_place) e in (Truth holds k.0, refl, k.1)
  place_bare (Unary op operand at) depth new (may, rest, e, h) =
      let t = head_new new (leaf (unary_terminal op) no_place) rest e in
      let r = place_stands operand (λ d l i. place_bare operand d l i) (operand_level op) (suc depth) t.1 rest t.3 h in
      (Unary op r.0 t.0, ap (λ f. Unary op f no_place) r.1, (may, t.1, t.2, r.2))
  place_bare (Binary op left right at) depth new (front, back, e, h, k) =
      let s = split_new new front (leaf (binary_terminal op) no_place ∷ back) e in
      let t = head_new s.1 (leaf (binary_terminal op) no_place) back s.4 in
      let a = place_stands left (λ d l i. place_bare left d l i) (left_level op) depth s.0 front s.3 h in
      let b = place_stands right (λ d l i. place_bare right d l i) (right_level op) depth t.1 back t.3 k in (
        Binary op a.0 b.0 t.0,
        ap (λ f. Binary op f (unplaced_expression b.0) no_place) a.1 ∙ ap (λ f. Binary op (unplaced_expression left) f no_place) b.1,
        (s.0, t.1, s.2 ∙ ap (λ l. s.0 ++ l) t.2, a.2, b.2),
      )
  place_bare (Delay operand init at) depth new (front, middle, back, e, h, k, i) =
      let s = split_new new front (leaf (mark (codes "$")) no_place ∷ (middle ++ back)) e in
      let t = head_new s.1 (leaf (mark (codes "$")) no_place) (middle ++ back) s.4 in
      let u = split_new t.1 middle back t.3 in
      let a = place_stands operand (λ d l i. place_bare operand d l i) delay_level depth s.0 front s.3 h in
      let o = place_optional init u.1 (subst (IsOptionalInit (unplaced_init init)) (sym u.4) i) in (
        Delay a.0 o.0 t.0,
        ap (λ f. Delay f (unplaced_init o.0) no_place) a.1 ∙ ap (λ p. Delay (unplaced_expression operand) p no_place) o.1,
        (s.0, u.0, u.1, s.2 ∙ ap (λ l. s.0 ++ l) (t.2 ∙ ap (λ l. leaf (mark (codes "$")) t.0 ∷ l) u.2), a.2, place_one u.0 (subst IsOptionalOne (sym u.3) k), o.2),
      )
  place_bare (Cell operand held init at) depth new (front, middle, back, e, h, k, i) =
      let s = split_new new front (leaf (word (codes "cell")) no_place ∷ (middle ++ back)) e in
      let t = head_new s.1 (leaf (word (codes "cell")) no_place) (middle ++ back) s.4 in
      let u = split_new t.1 middle back t.3 in
      let a = place_stands operand (λ d l i. place_bare operand d l i) mixed_level depth s.0 front s.3 h in
      let b = place_stands held (λ d l i. place_bare held d l i) primary_level depth u.0 middle u.3 k in
      let c = place_init init u.1 (subst (IsInit (unplaced_constant init)) (sym u.4) i) in (
        Cell a.0 b.0 c.0 t.0,
        ap (λ f. Cell f (unplaced_expression b.0) (unplaced_constant c.0) no_place) a.1
            ∙ ap (λ f. Cell (unplaced_expression operand) f (unplaced_constant c.0) no_place) b.1
            ∙ ap (λ d. Cell (unplaced_expression operand) (unplaced_expression held) d no_place) c.1,
        (s.0, u.0, u.1, s.2 ∙ ap (λ l. s.0 ++ l) (t.2 ∙ ap (λ l. leaf (word (codes "cell")) t.0 ∷ l) u.2), a.2, b.2, c.2),
      )

  pub place_expression : (wanted depth : ℕ) (e : Expression) (new : List Leaf) → IsAtLevel limits wanted depth (unplaced_expression e) (unplaced_leaves new)
      → (f : Expression) × (unplaced_expression f ≡ unplaced_expression e) × IsAtLevel limits wanted depth f new
  place_expression wanted depth e new h = place_stands e (λ d l i. place_bare e d l i) wanted depth new (unplaced_leaves new) refl h

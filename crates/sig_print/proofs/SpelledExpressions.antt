-- The words of constants and expressions that the grammar has for spelled leaves are printable.
use Rattle.sig_print.proofs.Common.{ℕ, zero, suc, ◌≤◌, List, [], ◌∷◌, sym, subst, Option, None, Some, inl, inr, pos, neg_ℤ, greatest_number, Spaced, IsPrintable, Constant, Int, Bool, Param, Expression, Named, Number, Truth, Unary, Binary, Delay, Cell, Terminal, Leaf, default_level, mixed_level, delay_level, primary_level, operand_level, left_level, right_level, level_of, Limits, Each, Further, Separated, Listed, Between, IsConstant, IsInit, IsOptionalInit, Enclosed, Stands, IsBare, IsAtLevel, further, separated, integer_words, constant_words, init_words, optional_init_words, fitted, bare_words, expression_words, flat_map}
use Rattle.sig_print.proofs.Printable.{ArePrintable, both, AreGood, front_good, back_good, name_good, number_good, truth_good, unary_good, binary_good, init_good, minus, dollar, one_good, cell_good, fitted_good}

module _ {A : Type 0} (Is : A → List Leaf → Type 0) (words : A → List Spaced) (good : (x : A) (ls : List Leaf) → AreGood ls → Is x ls → ArePrintable (words x)) where
  pub each_good : (xs : List A) (ls : List Leaf) → AreGood ls → Each Is xs ls → ArePrintable (flat_map words xs)
  each_good [] ls are h = tt
  each_good (x ∷ xs) ls are (front, back, e, is, rest) =
      let parts = subst AreGood e are in
      both (words x) _ (good x front (front_good front back parts) is) (each_good xs back (back_good front back parts) rest)

  pub further_good : (terminal : Terminal) (separator : Spaced) → IsPrintable separator → (xs : List A) (ls : List Leaf) → AreGood ls → Further Is terminal xs ls → ArePrintable (further words separator xs)
  further_good terminal separator fine [] ls are h = tt
  further_good terminal separator fine (x ∷ xs) ls are (at, front, back, e, is, rest) =
      let parts = (subst AreGood e are).1 in
      (fine, both (words x) _ (good x front (front_good front back parts) is) (further_good terminal separator fine xs back (back_good front back parts) rest))

  pub separated_good : (terminal : Terminal) (separator : Spaced) → IsPrintable separator → (xs : List A) (ls : List Leaf) → AreGood ls → Separated Is terminal xs ls → ArePrintable (separated words separator xs)
  separated_good terminal separator fine [] ls are h = tt
  separated_good terminal separator fine (x ∷ xs) ls are (front, back, e, is, rest) =
      let parts = subst AreGood e are in
      both (words x) _ (good x front (front_good front back parts) is) (further_good terminal separator fine xs back (back_good front back parts) rest)

  pub listed_good : (terminal : Terminal) (separator : Spaced) → IsPrintable separator → (xs : List A) (ls : List Leaf) → AreGood ls → Listed Is terminal xs ls → ArePrintable (separated words separator xs)
  listed_good terminal separator fine [] ls are h = tt
  listed_good terminal separator fine (x ∷ xs) ls are h = separated_good terminal separator fine (x ∷ xs) ls are h

-- what stands between two leaves
pub inside_good : (opening closing : Terminal) (Is : List Leaf → Type 0) (ls : List Leaf) → AreGood ls → Between opening closing Is ls → (inside : List Leaf) × AreGood inside × Is inside
inside_good opening closing Is ls are (opened, closed, inside, e, is) = (inside, front_good inside _ (subst AreGood e are).1, is)

minus_good : (n : ℕ) → n ≤ greatest_number → ArePrintable (integer_words (neg_ℤ (pos n)))
minus_good zero small = (number_good 0 small, tt)
minus_good (suc n) small = (minus, (number_good (suc n) small, tt))

pub constant_good : (constant : Constant) (ls : List Leaf) → AreGood ls → IsConstant constant ls → ArePrintable (constant_words constant)
constant_good (Int value at) ls are (inl (n, is, e)) = subst (λ v. ArePrintable (integer_words v)) (sym is) (number_good n (subst AreGood e are).0, tt)
constant_good (Int value at) ls are (inr (n, digits, is, e)) = subst (λ v. ArePrintable (integer_words v)) (sym is) (minus_good n (subst AreGood e are).1.0)
constant_good (Bool holds at) ls are e = (truth_good holds, tt)
constant_good (Param n) ls are e = (name_good n.text (subst AreGood e are).0, tt)

pub init_words_good : (constant : Constant) (ls : List Leaf) → AreGood ls → IsInit constant ls → ArePrintable (init_words constant)
init_words_good constant ls are (at, rest, e, is) = (init_good, constant_good constant rest (subst AreGood e are).1 is)

pub optional_good : (init : Option Constant) (ls : List Leaf) → AreGood ls → IsOptionalInit init ls → ArePrintable (optional_init_words init)
optional_good None ls are h = tt
optional_good (Some constant) ls are h = init_words_good constant ls are h

module _ (limits : Limits) where
  enclosed : (level : ℕ) (Is : ℕ → List Leaf → Type 0) (parentheses wanted depth : ℕ) (ls : List Leaf) → AreGood ls → Enclosed limits level Is parentheses wanted depth ls
      → (d : ℕ) × (inside : List Leaf) × AreGood inside × Is d inside
  enclosed level Is zero wanted depth ls are h = (depth, ls, are, h.1)
  enclosed level Is (suc n) wanted depth ls are h =
      let i = inside_good _ _ (Enclosed limits level Is n default_level (suc depth)) ls are h.1 in
      enclosed level Is n default_level (suc depth) i.0 i.1 i.2

  stands : (level : ℕ) (Is : ℕ → List Leaf → Type 0) (wanted depth : ℕ) (ls : List Leaf) → AreGood ls → Stands limits level Is wanted depth ls
      → (d : ℕ) × (inside : List Leaf) × AreGood inside × Is d inside
  stands level Is wanted depth ls are h = enclosed level Is h.0 wanted depth ls are h.1

  bare_good : (e : Expression) (depth : ℕ) (ls : List Leaf) → AreGood ls → IsBare limits e depth ls → ArePrintable (bare_words e)
  bare_good (Named n) depth ls are e = (name_good n.text (subst AreGood e are).0, tt)
  bare_good (Number value at) depth ls are e = (number_good value (subst AreGood e are).0, tt)
  bare_good (Truth holds at) depth ls are e = (truth_good holds, tt)
  bare_good (Unary op operand at) depth ls are (may, rest, e, h) =
      let s = stands (level_of operand) (IsBare limits operand) (operand_level op) (suc depth) rest (subst AreGood e are).1 h in
      (unary_good op, fitted_good (operand_level op) (level_of operand) _ (bare_good operand s.0 s.1 s.2 s.3))
  bare_good (Binary op left right at) depth ls are (front, back, e, h, k) =
      let parts = subst AreGood e are in
      let s = stands (level_of left) (IsBare limits left) (left_level op) depth front (front_good front _ parts) h in
      let t = stands (level_of right) (IsBare limits right) (right_level op) depth back (back_good front _ parts).1 k in
      both (fitted (left_level op) (level_of left) (bare_words left)) _ (fitted_good (left_level op) (level_of left) _ (bare_good left s.0 s.1 s.2 s.3))
      (binary_good op, fitted_good (right_level op) (level_of right) _ (bare_good right t.0 t.1 t.2 t.3))
  bare_good (Delay operand init at) depth ls are (front, middle, back, e, h, k, i) =
      let parts = subst AreGood e are in
      let s = stands (level_of operand) (IsBare limits operand) delay_level depth front (front_good front _ parts) h in
      both (fitted delay_level (level_of operand) (bare_words operand)) _ (fitted_good delay_level (level_of operand) _ (bare_good operand s.0 s.1 s.2 s.3))
      (dollar, (one_good, optional_good init back (back_good middle back (back_good front _ parts).1) i))
  bare_good (Cell operand held init at) depth ls are (front, middle, back, e, h, k, i) =
      let parts = subst AreGood e are in
      let others = (back_good front _ parts).1 in
      let s = stands (level_of operand) (IsBare limits operand) mixed_level depth front (front_good front _ parts) h in
      let t = stands (level_of held) (IsBare limits held) primary_level depth middle (front_good middle back others) k in
      both (fitted mixed_level (level_of operand) (bare_words operand)) _ (fitted_good mixed_level (level_of operand) _ (bare_good operand s.0 s.1 s.2 s.3)) (
        cell_good,
        both (fitted primary_level (level_of held) (bare_words held)) _ (fitted_good primary_level (level_of held) _ (bare_good held t.0 t.1 t.2 t.3))
            (init_words_good init back (back_good middle back others) i),
      )

  pub expression_good : (wanted depth : ℕ) (e : Expression) (ls : List Leaf) → AreGood ls → IsAtLevel limits wanted depth e ls → ArePrintable (expression_words wanted e)
  expression_good wanted depth e ls are h =
      let s = stands (level_of e) (IsBare limits e) wanted depth ls are h in
      fitted_good wanted (level_of e) _ (bare_good e s.0 s.1 s.2 s.3)

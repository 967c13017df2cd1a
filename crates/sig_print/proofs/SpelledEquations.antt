-- The words of definitions, clock equations and bodies that the grammar has for spelled leaves are printable.
use Rattle.sig_print.proofs.Common.{ℕ, suc, List, [], ◌∷◌, sym, subst, codes, inl, inr, Name, Constant, Expression, RightSide, Computed, Called, Equations, Together, Defines, Equal, Bodies, no_body, more_bodies, Leaf, mark_terminal, default_level, Limits, Separated, Listed, IsConstant, IsExpression, IsName, IsLeft, AreConstants, IsRight, IsClockEquation, IsBody, AreBodies, AreFurtherBodies, separated, names_words, left_words, constant_words, constants_words, expression_words, right_words, body_words, bodies_words, further_bodies_words, name, mark}
use Rattle.sig_print.proofs.Printable.{ArePrintable, both, AreGood, front_good, back_good, name_good, opens, closes, opens_brace, closes_brace, comma, defines, same, opens_body, closes_body, bar}
use Rattle.sig_print.proofs.SpelledExpressions.{separated_good, listed_good, inside_good, constant_good, expression_good}

pub name_words_good : (n : Name) (ls : List Leaf) → AreGood ls → IsName n ls → ArePrintable (name n ∷ [])
name_words_good n ls are e = (name_good n.text (subst AreGood e are).0, tt)

pub names_good : (names : List Name) (ls : List Leaf) → AreGood ls → Separated IsName (mark_terminal (codes ",")) names ls → ArePrintable (names_words names)
names_good names ls are h = separated_good IsName (λ n. name n ∷ []) name_words_good (mark_terminal (codes ",")) (mark (codes ",")) comma names ls are h

left_from : (names : List Name) → ArePrintable (names_words names) → ArePrintable (left_words names)
left_from [] good = (opens, (closes, tt))
left_from (n ∷ []) good = good
left_from (n ∷ m ∷ names) good = (opens, both (names_words (n ∷ m ∷ names)) _ good (closes, tt))

constants_from : (constants : List Constant) → ArePrintable (separated constant_words (mark (codes ",")) constants) → ArePrintable (constants_words constants)
constants_from [] good = tt
constants_from (c ∷ cs) good = (opens_brace, both (separated constant_words (mark (codes ",")) (c ∷ cs)) _ good (closes_brace, tt))

constants_good : (constants : List Constant) (ls : List Leaf) → AreGood ls → AreConstants constants ls → ArePrintable (constants_words constants)
constants_good constants ls are (inl (e, f)) = subst (λ cs. ArePrintable (constants_words cs)) (sym e) tt
constants_good constants ls are (inr h) =
    let i = inside_good _ _ (Listed IsConstant (mark_terminal (codes ",")) constants) ls are h in
    constants_from constants (listed_good IsConstant constant_words constant_good (mark_terminal (codes ",")) (mark (codes ",")) comma constants i.0 i.1 i.2)

module _ (limits : Limits) where
  left_good : (depth : ℕ) (names : List Name) (ls : List Leaf) → AreGood ls → IsLeft limits depth names ls → ArePrintable (left_words names)
  left_good depth names ls are (inl (n, e, is)) = subst (λ ns. ArePrintable (left_words ns)) (sym e) (name_words_good n ls are is)
  left_good depth names ls are (inr h) =
      let i = inside_good _ _ (Separated IsName (mark_terminal (codes ",")) names) ls are h.1 in
      left_from names (names_good names i.0 i.1 i.2)

  right_good : (depth : ℕ) (right : RightSide) (ls : List Leaf) → AreGood ls → IsRight limits depth right ls → ArePrintable (right_words right)
  right_good depth (Computed e) ls are h = expression_good limits default_level depth e ls are h
  right_good depth (Called n constants arguments) ls are (front, back, e, h, k) =
      let parts = subst AreGood e are in
      let i = inside_good _ _ (Listed (IsExpression limits depth) (mark_terminal (codes ",")) arguments) back (back_good front back parts.1) k in (
        name_good n.text parts.0,
        both (constants_words constants) _ (constants_good constants front (front_good front back parts.1) h) (
          opens,
          both (separated (expression_words default_level) (mark (codes ",")) arguments) _
              (listed_good (IsExpression limits depth) (expression_words default_level) (expression_good limits default_level depth) (mark_terminal (codes ",")) (mark (codes ",")) comma arguments i.0 i.1 i.2)
              (closes, tt),
        ),
      )

  operands_good : (depth : ℕ) (operands : List Expression) (ls : List Leaf) → AreGood ls → IsClockEquation limits depth operands ls → ArePrintable (separated (expression_words default_level) (mark (codes "^=")) operands)
  operands_good depth (e ∷ f ∷ others) ls are h =
      separated_good (IsExpression limits depth) (expression_words default_level) (expression_good limits default_level depth) (mark_terminal (codes "^=")) (mark (codes "^=")) same (e ∷ f ∷ others) ls are h.0
  operands_good depth _ ls are h = absurd h

  mutual
    pub body_good : (body : Equations) (depth : ℕ) (ls : List Leaf) → AreGood ls → IsBody limits body depth ls → ArePrintable (body_words body)
    body_good (Together bodies) depth ls are h =
        let i = inside_good _ _ (AreBodies limits bodies (suc depth)) ls are h.1 in
        (opens_body, both (bodies_words bodies) _ (bodies_good bodies (suc depth) i.0 i.1 i.2) (closes_body, tt))
    body_good (Defines names right) depth ls are (at, front, back, e, h, k, few) =
        let parts = subst AreGood e are in
        both (left_words names) _ (left_good depth names front (front_good front _ parts) h) (defines, right_good depth right back (back_good front _ parts).1 k)
    body_good (Equal operands) depth ls are h = operands_good depth operands ls are h

    bodies_good : (bodies : Bodies) (depth : ℕ) (ls : List Leaf) → AreGood ls → AreBodies limits bodies depth ls → ArePrintable (bodies_words bodies)
    bodies_good no_body depth ls are h = tt
    bodies_good (more_bodies body rest) depth ls are (front, back, e, h, k) =
        let parts = subst AreGood e are in
        both (body_words body) _ (body_good body depth front (front_good front back parts) h) (further_bodies_good rest depth back (back_good front back parts) k)

    further_bodies_good : (bodies : Bodies) (depth : ℕ) (ls : List Leaf) → AreGood ls → AreFurtherBodies limits bodies depth ls → ArePrintable (further_bodies_words bodies)
    further_bodies_good no_body depth ls are h = tt
    further_bodies_good (more_bodies body rest) depth ls are (at, front, back, e, h, k) =
        let parts = (subst AreGood e are).1 in
        (bar, both (body_words body) _ (body_good body depth front (front_good front back parts) h) (further_bodies_good rest depth back (back_good front back parts) k))

-- The leaves of canonical words, their places left out, are those of the tree, its places left out:
-- definitions, clock equations and bodies.
use Rattle.sig_print.proofs.Common.{◌≡◌, ℕ, suc, ◌+◌, ◌++◌, List, [], ◌∷◌, refl, ap, ◌∙◌, codes, inl, inr, map, arith, sum_by, fold, Mark, Name, Constant, Expression, RightSide, Computed, Called, Equations, Together, Defines, Equal, Bodies, no_body, more_bodies, Leaf, leaf, name_leaf, mark_terminal, default_level, Limits, operators, right_operators, Separated, Listed, IsConstant, IsExpression, IsName, IsLeft, AreConstants, IsRight, IsDefinition, IsClockEquation, IsBody, AreBodies, AreFurtherBodies, no_place, unplaced_name, unplaced_constant, unplaced_expression, unplaced_right, unplaced_equations, unplaced_bodies, separated, names_words, left_words, constant_words, constants_words, expression_words, right_words, body_words, bodies_words, further_bodies_words, name, mark, on_new_line}
use Rattle.sig_print.proofs.ReadExpressions.{spoken, spoken_append, separated_read, listed_read, between_read, constant_read, operators_unplaced, expression_read}

pub names_read : (names : List Name) (ls : List Leaf) → Separated IsName (mark_terminal (codes ",")) names ls
    → Separated IsName (mark_terminal (codes ",")) (map unplaced_name names) (spoken (names_words names))
names_read names ls h = separated_read IsName IsName unplaced_name (λ n. name n ∷ []) (λ n l e. refl) (mark_terminal (codes ",")) (mark (codes ",")) (λ ws. refl) names ls h

constants_read : (constants : List Constant) (ls : List Leaf) → AreConstants constants ls → AreConstants (map unplaced_constant constants) (spoken (constants_words constants))
constants_read [] ls h = inl (refl, refl)
constants_read (c ∷ cs) ls (inl (e, f)) = cc
constants_read (c ∷ cs) ls (inr h) =
    inr (between_read (mark_terminal (codes "{")) (mark_terminal (codes "}")) (mark (codes "{")) (mark (codes "}")) (λ ws. refl) (λ ws. refl)
    (Listed IsConstant (mark_terminal (codes ",")) (map unplaced_constant (c ∷ cs))) (separated constant_words (mark (codes ",")) (c ∷ cs))
    (listed_read IsConstant IsConstant unplaced_constant constant_words constant_read (mark_terminal (codes ",")) (mark (codes ",")) (λ ws. refl) (c ∷ cs) h.2 h.4))

operators_from : (es : List Expression) (n : ℕ) → fold (λ k e. k + operators e) n (map unplaced_expression es) ≡ fold (λ k e. k + operators e) n es
operators_from [] n = refl
operators_from (e ∷ es) n = operators_from es (n + operators (unplaced_expression e)) ∙ ap (λ k. fold (λ k e. k + operators e) (n + k) es) (operators_unplaced e)

pub operators_all : (es : List Expression) → sum_by operators (map unplaced_expression es) ≡ sum_by operators es
operators_all es = operators_from es 0

pub right_operators_unplaced : (right : RightSide) → right_operators (unplaced_right right) ≡ right_operators right
right_operators_unplaced (Computed e) = operators_unplaced e
right_operators_unplaced (Called n constants arguments) = operators_all arguments

module _ (limits : Limits) where
  left_read : (depth : ℕ) (names : List Name) (ls : List Leaf) → IsLeft limits depth names ls → IsLeft limits depth (map unplaced_name names) (spoken (left_words names))
  left_read depth [] ls (inl (n, e, is)) = cc
  left_read depth [] ls (inr h) = absurd h.1.4
  left_read depth (n ∷ []) ls h = inl (unplaced_name n, refl, refl)
  left_read depth (n ∷ m ∷ names) ls (inl (k, e, is)) = cc
  left_read depth (n ∷ m ∷ names) ls (inr (may, h)) =
      inr (
        may,
        between_read (mark_terminal (codes "(")) (mark_terminal (codes ")")) (mark (codes "(")) (mark (codes ")")) (λ ws. refl) (λ ws. refl)
            (Separated IsName (mark_terminal (codes ",")) (map unplaced_name (n ∷ m ∷ names))) (names_words (n ∷ m ∷ names)) (names_read (n ∷ m ∷ names) h.2 h.4),
      )

  right_read : (depth : ℕ) (right : RightSide) (ls : List Leaf) → IsRight limits depth right ls → IsRight limits depth (unplaced_right right) (spoken (right_words right))
  right_read depth (Computed e) ls h = expression_read limits default_level depth e ls h
  right_read depth (Called n constants arguments) ls (front, back, e, h, k) =
      let words = separated (expression_words default_level) (mark (codes ",")) arguments in (
        spoken (constants_words constants),
        spoken (mark (codes "(") ∷ (words ++ mark (codes ")") ∷ [])),
        ap (λ l. name_leaf (unplaced_name n) ∷ l) (spoken_append (constants_words constants) (mark (codes "(") ∷ (words ++ mark (codes ")") ∷ []))),
        constants_read constants front h,
        between_read (mark_terminal (codes "(")) (mark_terminal (codes ")")) (mark (codes "(")) (mark (codes ")")) (λ ws. refl) (λ ws. refl)
            (Listed (IsExpression limits depth) (mark_terminal (codes ",")) (map unplaced_expression arguments)) words
            (listed_read (IsExpression limits depth) (IsExpression limits depth) unplaced_expression (expression_words default_level) (expression_read limits default_level depth)
            (mark_terminal (codes ",")) (mark (codes ",")) (λ ws. refl) arguments k.2 k.4),
      )

  definition_read : (depth : ℕ) (names : List Name) (right : RightSide) (ls : List Leaf) → IsDefinition limits depth names right ls
      → IsDefinition limits depth (map unplaced_name names) (unplaced_right right) (spoken (left_words names ++ mark (codes ":=") ∷ right_words right))
  definition_read depth names right ls (at, front, back, e, h, k, few) = (
    no_place,
    spoken (left_words names),
    spoken (right_words right),
    spoken_append (left_words names) (mark (codes ":=") ∷ right_words right),
    left_read depth names front h,
    right_read depth right back k,
    λ yes. let n = few yes in omega (arith, right_operators_unplaced right),
  )

  clock_read : (depth : ℕ) (operands : List Expression) (ls : List Leaf) → IsClockEquation limits depth operands ls
      → IsClockEquation limits depth (map unplaced_expression operands) (spoken (separated (expression_words default_level) (mark (codes "^=")) operands))
  clock_read depth (e ∷ f ∷ others) ls (h, few) = (
    separated_read (IsExpression limits depth) (IsExpression limits depth) unplaced_expression (expression_words default_level) (expression_read limits default_level depth)
        (mark_terminal (codes "^=")) (mark (codes "^=")) (λ ws. refl) (e ∷ f ∷ others) ls h,
    λ yes. let n = few yes in omega (arith, operators_all (e ∷ f ∷ others)),
  )
  clock_read depth _ ls h = absurd h

  mutual
    pub body_read : (body : Equations) (depth : ℕ) (ls : List Leaf) → IsBody limits body depth ls → IsBody limits (unplaced_equations body) depth (spoken (body_words body))
    body_read (Together bodies) depth ls (may, h) = (
      may,
      between_read (mark_terminal (codes "(|")) (mark_terminal (codes "|)")) (on_new_line Mark (codes "(|")) (on_new_line Mark (codes "|)")) (λ ws. refl) (λ ws. refl)
          (AreBodies limits (unplaced_bodies bodies) (suc depth)) (bodies_words bodies) (bodies_read bodies (suc depth) h.2 h.4),
    )
    body_read (Defines names right) depth ls h = definition_read depth names right ls h
    body_read (Equal operands) depth ls h = clock_read depth operands ls h

    bodies_read : (bodies : Bodies) (depth : ℕ) (ls : List Leaf) → AreBodies limits bodies depth ls → AreBodies limits (unplaced_bodies bodies) depth (spoken (bodies_words bodies))
    bodies_read no_body depth ls h = refl
    bodies_read (more_bodies body rest) depth ls (front, back, e, h, k) = (
      spoken (body_words body),
      spoken (further_bodies_words rest),
      spoken_append (body_words body) (further_bodies_words rest),
      body_read body depth front h,
      further_bodies_read rest depth back k,
    )

    further_bodies_read : (bodies : Bodies) (depth : ℕ) (ls : List Leaf) → AreFurtherBodies limits bodies depth ls → AreFurtherBodies limits (unplaced_bodies bodies) depth (spoken (further_bodies_words bodies))
    further_bodies_read no_body depth ls h = refl
    further_bodies_read (more_bodies body rest) depth ls (at, front, back, e, h, k) = (
      no_place,
      spoken (body_words body),
      spoken (further_bodies_words rest),
      ap (λ l. leaf (mark_terminal (codes "|")) no_place ∷ l) (spoken_append (body_words body) (further_bodies_words rest)),
      body_read body depth front h,
      further_bodies_read rest depth back k,
    )

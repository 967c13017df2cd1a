-- Bodies from their parts.
use mathlib.Core.Former.{Count}
use Rattle.sig_parse.proofs.Common.{◌≡◌, ◌++◌, ◌≤◌, ◌<◌, ℕ, suc, List, ◌∷◌, codes, length, map, sum_by, refl, sym, ap, ◌∙◌, subst, append_assoc, arith, Vec, Global, Span, Name, Body, All, All', Row_of-Body, end_of-Body, more_of-Body, items-the_row-Body, items_hidden-the_row-Body-0, Expression, RightSide, Equations, Defines, equations_of, bodies_of, Leaf, leaf, mark, both_limits, operators, right_operators, Further, Separated, Listed, IsExpression, IsLeft, IsRight, IsClockEquation, IsBody, AreBodies, AreFurtherBodies, State, Reads, Covers, IsLeaf}
use Rattle.sig_parse.proofs.CoveredParts.{seen_as, between_marks}

-- a left side, `:=` and a right side
pub definition : (names : List Name) (right : RightSide) (depth : ℕ) (at : Span) (begun : State) {s t u v : State}
    → s ≡ record { leaves = begun.leaves; operators = 0 }
    → Reads (IsLeft both_limits depth names) 0 s t → Reads (IsLeaf (mark (codes ":=")) at) 0 t u
    → Reads (IsRight both_limits depth right) (right_operators right) u v
    → Covers (IsBody both_limits (Defines names right) depth) begun v
definition names right depth at begun {s} {t} {u} {v} fresh r q p =
    let none : s.operators ≡ 0 = ap (λ (x : State). x.operators) fresh in
    let few : v.operators ≤ 512 = p.few (q.few (r.few (omega arith))) in
    record {
      front = r.front ++ leaf (mark (codes ":=")) at ∷ p.front;
      split = sym (ap (λ (x : State). x.leaves) fresh) ∙ r.split
          ∙ ap (λ ls. r.front ++ ls) (q.split ∙ ap (λ ls. ls ++ u.leaves) q.is ∙ ap (λ ls. leaf (mark (codes ":=")) at ∷ ls) p.split)
          ∙ sym (append_assoc r.front (leaf (mark (codes ":=")) at ∷ p.front) v.leaves);
      is = (at, r.front, p.front, refl, r.is, p.is, λ _. omega (arith, few, r.counted, q.counted, p.counted));
    }

-- two or more operands
pub clock_equation_of : (depth : ℕ) (operands : List Expression) (leaves : List Leaf) → 2 ≤ length operands
    → Separated (IsExpression both_limits depth) (mark (codes "^=")) operands leaves → sum_by operators operands ≤ 512
    → IsClockEquation both_limits depth operands leaves
clock_equation_of depth (e ∷ f ∷ others) leaves two h few = (h, λ _. few)
clock_equation_of depth _ leaves two h few = absurd (omega arith)

pub clock_equation : (depth : ℕ) (operands : List Expression) {s t : State} → s.operators ≡ 0 → 2 ≤ length operands
    → Reads (Separated (IsExpression both_limits depth) (mark (codes "^=")) operands) (sum_by operators operands) s t
    → Covers (IsClockEquation both_limits depth operands) s t
clock_equation depth operands {s} {t} none two r =
    let few : t.operators ≤ 512 = r.few (omega arith) in
    record {
      front = r.front;
      split = r.split;
      is = clock_equation_of depth operands r.front two r.is (omega (arith, few, r.counted));
    }

-- the bodies of a vector as those of a tree
further_row : (n : _) (row : Row_of-Body n) (depth : ℕ) (leaves : List Leaf)
    → Further (λ body ls. IsBody both_limits body depth ls) (mark (codes "|")) (map equations_of (items-the_row-Body n row)) leaves
    → AreFurtherBodies both_limits (bodies_of row) depth leaves
further_row n end_of-Body depth leaves h = h
further_row n (more_of-Body body rest) depth leaves h = (h.0, h.1, h.2, h.3, h.4, further_row _ rest depth h.2 h.5)

bodies_row : (n : _) (row : Row_of-Body n) (depth : ℕ) (leaves : List Leaf)
    → Listed (λ body ls. IsBody both_limits body depth ls) (mark (codes "|")) (map equations_of (items-the_row-Body n row)) leaves
    → AreBodies both_limits (bodies_of row) depth leaves
bodies_row n end_of-Body depth leaves h = h
bodies_row n (more_of-Body body rest) depth leaves h = (h.0, h.1, h.2, h.3, further_row _ rest depth h.1 h.4)

abbrev row_in : Body → (n : Count) × Row_of-Body n
row_in (All' _ row) = (_, row)
row_in _ = (_, end_of-Body)

abbrev pub ListedBodies : ℕ → List Equations → List Leaf → Type 0
ListedBodies depth bodies leaves = Listed (λ body ls. IsBody both_limits body depth ls) (mark (codes "|")) bodies leaves

pub together : (bodies : Vec Body Global) (depth inner : ℕ) (opened closed : Span) {s t u v : State} → depth < 64 → inner ≡ suc depth
    → Covers (IsLeaf (mark (codes "(|")) opened) s t → Covers (ListedBodies inner (map equations_of bodies.items)) t u → Covers (IsLeaf (mark (codes "|)")) closed) u v
    → Covers (IsBody both_limits (equations_of (All bodies)) depth) s v
together bodies depth inner opened closed {s} {t} {u} {v} lt is_inner before r behind =
    seen_as (IsBody both_limits (equations_of (All bodies)) depth)
    (λ front h. (
      (λ _. lt),
      (
        h.0,
        h.1,
        h.2,
        h.3,
        bodies_row (row_in (All bodies)).0 (row_in (All bodies)).1 (suc depth) h.2
            (subst (λ (bs : List Body). ListedBodies (suc depth) (map equations_of bs) h.2) (sym (items_hidden-the_row-Body-0 bodies))
            (subst (λ (d : ℕ). ListedBodies d (map equations_of bodies.items) h.2) is_inner h.4)),
      ),
    ))
    (between_marks (mark (codes "(|")) (mark (codes "|)")) (ListedBodies inner (map equations_of bodies.items)) opened closed before r behind)

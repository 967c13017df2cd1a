-- No translation makes the signals fewer.
use Rattle.sig_flat.proofs.Common.{◌≡◌, ◌≤◌, ◌+◌, ◌<◌, ℕ, suc, ℤ, List, ◌∷◌, Option, None, length, map, drop, get_or, sym, ap, ◌∙◌, arith, drop-cons, length-append, Kind, SigId, Span, BinOp, FlatExpression, Binary, Cell, FlatEquation, Equal, flat_expression_of, flat_equation_of, FlatExpr, FlatEq, Site, Made, Translated, Together, with_own, translate, operands_from, with_flat_equation, with_flat_equations}
use Rattle.sig_flat.proofs.WhatIsLeft.{behind}
use Rattle.sig_flat.proofs.AddedBehind.{Grows, then, own_grows, binary_grows, cell_grows, translate_grows, operands_grow, all_syncs_grow, equation_grows, equations_grow}

no_less : {a b : Made} → Grows a b → length a.signals ≤ length b.signals
no_less {a} {b} g = let e : length b.signals ≡ length a.signals + length g.more = ap length g.is ∙ length-append a.signals g.more in omega arith

pub own_no_less : (left : Option ℕ) (site : Site) (kind : Kind) (at : Span) (made : Made) → length made.signals ≤ length (with_own left site kind at made).signals
own_no_less left site kind at made = no_less (own_grows left site kind at made)

pub translate_no_less : (left : Option ℕ) (site : Site) (e : FlatExpression) (made : Made) → length made.signals ≤ length (translate left site e made).made.signals
translate_no_less left site e made = no_less (translate_grows left site e made)

-- what the first of two operands makes is no more than what both and their operator make
pub binary_no_less : (left : Option ℕ) (site : Site) (op : BinOp) (first second : FlatExpression) (at : Span) (made : Made)
    → length (translate None site first made).made.signals ≤ length (translate left site (Binary op first second at) made).made.signals
binary_no_less left site op first second at made = let u : Translated = translate None site first made in
    no_less (then (translate_grows None site second u.made) (binary_grows left site op at u (translate None site second u.made)))

pub cell_no_less : (left : Option ℕ) (site : Site) (operand held : FlatExpression) (init : ℤ) (at : Span) (made : Made)
    → length (translate None site operand made).made.signals ≤ length (translate left site (Cell operand held init at) made).made.signals
cell_no_less left site operand held init at made = let x : Translated = translate None site operand made in
    no_less (then (translate_grows None site held x.made) (cell_grows left site init at x (translate None site held x.made)))

pub operands_no_less : (site : Site) (es : List FlatExpression) (made : Made) → length made.signals ≤ length (operands_from site es made).made.signals
operands_no_less site es made = no_less (operands_grow site es made)

pub equation_no_less : (equation : FlatEquation) (made : Made) → length made.signals ≤ length (with_flat_equation equation made).signals
equation_no_less equation made = no_less (equation_grows equation made)

pub equations_no_less : (equations : List FlatEquation) (made : Made) → length made.signals ≤ length (with_flat_equations equations made).signals
equations_no_less equations made = no_less (equations_grow equations made)

-- what the operands of a clock equation make is no more than what the equation makes
pub equal_no_less : (es : List FlatExpression) (prefix : List ℕ) (made : Made)
    → length (operands_from (record { cluster = 0; prefix = prefix }) es made).made.signals ≤ length (with_flat_equation (Equal es prefix) made).signals
equal_no_less es prefix made =
    let together : Together = operands_from (record { cluster = 0; prefix = prefix }) es made in
    no_less (all_syncs_grow together.signals together.made)

-- what one of those left makes is no more than what all make
pub operand_left : (site : Site) (es : List FlatExpr) (i : ℕ) (e : FlatExpr) (signals : List (SigId × Span)) (made initial : Made) → i < length es → e ≡ get_or es i e
    → behind signals (operands_from site (map flat_expression_of (drop i es)) made) ≡ operands_from site (map flat_expression_of es) initial
    → length (translate None site (flat_expression_of e) made).made.signals ≤ length (operands_from site (map flat_expression_of es) initial).made.signals
operand_left site es i e signals made initial below here is =
    let left : drop i es ≡ e ∷ drop (suc i) es = drop-cons es i e below ∙ ap (λ x. x ∷ drop (suc i) es) (sym here) in
    let after : Made = (translate None site (flat_expression_of e) made).made in
    let more : length after.signals ≤ length (operands_from site (map flat_expression_of (drop (suc i) es)) after).made.signals =
    operands_no_less site (map flat_expression_of (drop (suc i) es)) after in
    let same : length (operands_from site (map flat_expression_of (drop (suc i) es)) after).made.signals ≡ length (operands_from site (map flat_expression_of es) initial).made.signals =
    ap (λ (xs : List FlatExpr). length (operands_from site (map flat_expression_of xs) made).made.signals) (sym left) ∙ ap (λ (t : Together). length t.made.signals) is in
    omega arith

pub equation_left : (es : List FlatEq) (i : ℕ) (e : FlatEq) (made initial : Made) → i < length es → e ≡ get_or es i e
    → with_flat_equations (map flat_equation_of (drop i es)) made ≡ with_flat_equations (map flat_equation_of es) initial
    → length (with_flat_equation (flat_equation_of e) made).signals ≤ length (with_flat_equations (map flat_equation_of es) initial).signals
equation_left es i e made initial below here is =
    let left : drop i es ≡ e ∷ drop (suc i) es = drop-cons es i e below ∙ ap (λ x. x ∷ drop (suc i) es) (sym here) in
    let after : Made = with_flat_equation (flat_equation_of e) made in
    let more : length after.signals ≤ length (with_flat_equations (map flat_equation_of (drop (suc i) es)) after).signals =
    equations_no_less (map flat_equation_of (drop (suc i) es)) after in
    let same : length (with_flat_equations (map flat_equation_of (drop (suc i) es)) after).signals ≡ length (with_flat_equations (map flat_equation_of es) initial).signals =
    ap (λ (xs : List FlatEq). length (with_flat_equations (map flat_equation_of xs) made).signals) (sym left) ∙ ap (λ (m : Made). length m.signals) is in
    omega arith

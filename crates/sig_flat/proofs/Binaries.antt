-- An operator of two operands, from what its operands are.
use Rattle.sig_flat.proofs.Common.{◌≡◌, ℕ, Option, None, Some, refl, ap, ◌∙◌, Span, BinOp, Default, FlatExpr, FlatExpression, Binary, flat_expression_of, Site, Made, Translated, binary, translate, translated, Term}

-- what was made for the second operand is what the operator adds to
first_made : (left : Option ℕ) (site : Site) (op : BinOp) (at : Span) (u : Term) (a b : Made) (v : Translated) → binary left site op at (translated u a) v ≡ binary left site op at (translated u b) v
first_made left site Default at u a b v = refl
first_made left site _ at u a b v = refl

of_both : Option ℕ → Site → BinOp → Span → FlatExpression → Translated → Translated
of_both left site op at second x = binary left site op at x (translate None site second x.made)

whole : (left : Option ℕ) (site : Site) (op : BinOp) (first second : FlatExpression) (at : Span) (made : Made) → of_both left site op at second (translate None site first made) ≡ translate left site (Binary op first second at) made
unfolding of_both
whole None site op first second at made = refl
whole (Some left) site op first second at made = refl

pub binary_is : (left : Option ℕ) (site : Site) (op : BinOp) (first second x y : FlatExpr) (at : Span) (u v : Term) (made a b : Made) (result : Translated)
    → x ≡ first → y ≡ second → translated u a ≡ translate None site (flat_expression_of x) made → translated v b ≡ translate None site (flat_expression_of y) a
    → result ≡ binary left site op at (translated u b) (translated v b)
    → result ≡ translate left site (Binary op (flat_expression_of first) (flat_expression_of second) at) made
unfolding of_both
binary_is left site op first second x y at u v made a b result x_is y_is first_is second_is is =
    is ∙ first_made left site op at u b a (translated v b)
    ∙ ap (λ w. binary left site op at (translated u a) w) second_is
    ∙ ap (of_both left site op at (flat_expression_of y)) first_is
    ∙ whole left site op (flat_expression_of x) (flat_expression_of y) at made
    ∙ ap (λ e. translate left site (Binary op (flat_expression_of e) (flat_expression_of y) at) made) x_is
    ∙ ap (λ e. translate left site (Binary op (flat_expression_of first) (flat_expression_of e) at) made) y_is

-- Bodies in a vector, as the definitions see them.
use mathlib.Core.Former.{Count}
use Rattle.sig_print.proofs.Common.{◌≡◌, ◌++◌, [], ◌∷◌, refl, ap, ◌∙◌, map, codes, Vec, Global, Mark, Body, All', Row_of-Body, end_of-Body, more_of-Body, items-the_row-Body, items_hidden-the_row-Body-0, equations_of, bodies_of, body_words, bodies_words, further_bodies_words, body_list_words, further, on_new_line}
use Rattle.sig_tree.specs.declared.process.Body.{All}

further_row : (n : _) (row : Row_of-Body n) → further_bodies_words (bodies_of row) ≡ further body_words (on_new_line Mark (codes "|")) (map equations_of (items-the_row-Body n row))
further_row n end_of-Body = refl
further_row n (more_of-Body body rest) = ap (λ ws. on_new_line Mark (codes "|") ∷ (body_words (equations_of body) ++ ws)) (further_row _ rest)

row_words : (n : _) (row : Row_of-Body n) → bodies_words (bodies_of row) ≡ body_list_words (map equations_of (items-the_row-Body n row))
row_words n end_of-Body = refl
row_words n (more_of-Body body rest) = ap (λ ws. body_words (equations_of body) ++ ws) (further_row _ rest)

abbrev row_in : Body → (n : Count) × Row_of-Body n
row_in (All' _ row) = (_, row)
row_in _ = (_, end_of-Body)

pub together_words : (bodies : Vec Body Global) → body_words (equations_of (All bodies))
    ≡ on_new_line Mark (codes "(|") ∷ (body_list_words (map equations_of bodies.items) ++ on_new_line Mark (codes "|)") ∷ [])
together_words bodies = ap (λ ws. on_new_line Mark (codes "(|") ∷ (ws ++ on_new_line Mark (codes "|)") ∷ []))
    (row_words (row_in (All bodies)).0 (row_in (All bodies)).1 ∙ ap (λ bs. body_list_words (map equations_of bs)) (items_hidden-the_row-Body-0 bodies))

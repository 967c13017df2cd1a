-- The first place of a text in a list.
use Rattle.std.specs.Prelude.{◌∷◌}
use Rattle.sig_scope.specs.Prelude.{ℕ, suc, List, [], cond, Option, None, Some, option_map, bytes_eq}

abbrev pub place_of : List (List ℕ) → List ℕ → Option ℕ
place_of [] text = None
place_of (t ∷ texts) text = cond (bytes_eq t text) (Some 0) (option_map suc (place_of texts text))

-- Declarations that are found by their names.
use Rattle.sig_scope.proofs.Common.{◌≡◌, ℕ, List, Some, length, get_or, ◌<◌, arith, length-map, Declared, place_of, declaration_in, declarations_in, texts_in, read_mapped}
use Rattle.sig_scope.proofs.FirstPlaces.{within}

pub within_declared : (names : List (List ℕ)) (ds : List Declared) (t : List ℕ) (i : ℕ) → names ≡ texts_in (declarations_in ds) → Some i ≡ place_of names t → i < length ds
within_declared names ds t i n e =
    let below : i < length (declarations_in ds) = within (λ d. d.name.text) names (declarations_in ds) t i n e in
    let same : length (declarations_in ds) ≡ length ds = length-map ds declaration_in in
    omega arith

pub read_declared : (ds : List Declared) (i : ℕ) (x : Declared) → i < length ds → x ≡ get_or ds i x → declaration_in x ≡ get_or (declarations_in ds) i (declaration_in x)
read_declared ds i x h e = read_mapped declaration_in ds i x h e

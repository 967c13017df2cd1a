-- Sets of names.
use denote.Ref.{Bor}
use Rattle.std.specs.BTreeMap.{BTreeMap, get_by}
use Rattle.std.specs.Prelude.{◌≡◌, is_some}
use Rattle.sig_file.specs.Prelude.{ℕ, List, bytes_eq, list_any, nat_cmp, slice_cmp}

-- the keys of the map are these names
abbrev pub IsSetOf : {V : Type 0} → List (List ℕ) → BTreeMap (Bor (List ℕ)) V → Type 0
IsSetOf names set = (q : List ℕ) → is_some (get_by (λ k. slice_cmp nat_cmp q k.now) set) ≡ list_any (bytes_eq q) names

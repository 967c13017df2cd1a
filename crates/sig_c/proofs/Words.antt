-- Words stand for what their names are: a token is itself, a name that is free is no reserved word, and each name has its own place.
use Rattle.std.proofs.Common.{◌≡◌, ℕ, zero, suc, ◌+◌, ◌<◌, List, [], ◌∷◌, ◌++◌, length, Bool, true, false, ◌||◌, Some, None, refl, sym, ap, ◌∙◌, arith, slice_index_or, if◌then◌else◌}
use Rattle.std.proofs.lemmas.Slice.Eq.{bytes_eq-Decides}
use Rattle.std.specs.List.{list_any}
use Rattle.std.specs.Str.{bytes_eq}
use Rattle.sig_c.specs.SmallC.{Name}
use Rattle.sig_c.specs.Tokens.{Token, Word, Sign, Quoted, Directive}
use Rattle.sig_c.specs.Written.{name_at}
use Rattle.sig_c.specs.Reader.{Read, is_token, behind, place_from, place_in}
use Rattle.sig_c.specs.Names.{AreDistinct}

pub same_bytes : (bytes : List ℕ) → bytes_eq bytes bytes ≡ true
same_bytes bytes = (bytes_eq-Decides bytes bytes).1 refl

pub same_token : (token : Token) → is_token token token ≡ true
same_token (Word text) = same_bytes text
same_token (Sign text) = same_bytes text
same_token (Quoted text) = same_bytes text
same_token (Directive text) = same_bytes text

-- what is wanted and stands first is passed
pub passes : {B : Type 0} (wanted rest : List Token) (go : List Token → Read B) → behind wanted (wanted ++ rest) go ≡ go rest
passes [] rest go = refl
passes (token ∷ wanted) rest go = ap (λ (b : Bool). if b then behind wanted (wanted ++ rest) go else None) (same_token token) ∙ passes wanted rest go

-- ---- tests of a list

pub or_parts : (x y : Bool) → (x || y) ≡ false → (x ≡ false) × (y ≡ false)
or_parts false y e = (refl, e)
or_parts true y e = absurd (let f : true ≡ false = e in cc f)

-- where no element passes, that at a place does not
pub none_passes : {A : Type 0} (test : A → Bool) (xs : List A) → list_any test xs ≡ false → (n : ℕ) (default : A) → n < length xs → test (slice_index_or xs n default) ≡ false
none_passes test [] none n default within = absurd (omega (arith, within))
none_passes test (x ∷ xs) none zero default within = (or_parts (test x) (list_any test xs) none).0
none_passes test (x ∷ xs) none (suc n) default within = none_passes test xs (or_parts (test x) (list_any test xs) none).1 n default (omega (arith, within))

pub turned : (a b : List ℕ) → bytes_eq a b ≡ false → bytes_eq b a ≡ false
turned a b differ = by (bytes_eq b a) refl
  where
    by : (q : Bool) → bytes_eq b a ≡ q → q ≡ false
    by true e = absurd (let f : true ≡ false = sym ((bytes_eq-Decides a b).1 (sym ((bytes_eq-Decides b a).0 e))) ∙ differ in cc f)
    by false e = refl

-- ---- places of names

-- a name that stands among others is found at its place
place_of : (names : List Name) (start x : ℕ) → AreDistinct names → x < length names → place_from start (name_at names x) names ≡ Some (start + x)
place_of [] start x distinct within = absurd (omega (arith, within))
place_of (name ∷ names) start zero distinct within = rw (same_bytes name) (ap Some (omega arith))
place_of (name ∷ names) start (suc x) distinct within =
    rw (other) (place_of names (suc start) x distinct.1 (omega (arith, within)) ∙ ap Some (omega arith))
  where
    inside : x < length names
    inside = omega (arith, within)

    other : bytes_eq (name_at names x) name ≡ false
    other = turned name (name_at names x) (none_passes (bytes_eq name) names distinct.0 x [] inside)

pub found : (names : List Name) (x : ℕ) → AreDistinct names → x < length names → place_in names (name_at names x) ≡ Some x
found names x distinct within = place_of names 0 x distinct within ∙ ap Some (omega arith)

-- a name that is none of them has no place
pub not_found : (names : List Name) (start : ℕ) (name : Name) → list_any (bytes_eq name) names ≡ false → place_from start name names ≡ None
not_found [] start name none = refl
not_found (other ∷ names) start name none = rw ((or_parts (bytes_eq name other) (list_any (bytes_eq name) names) none).0) (not_found names (suc start) name (or_parts (bytes_eq name other) (list_any (bytes_eq name) names) none).1)

-- The names and the rests of files in memory.
use Rattle.std.proofs.Common.{◌≡◌, ℕ, ◌+◌, ◌-◌, ◌≤◌, ◌==◌, Bool, true, false, cond, List, [], ◌∷◌, ◌++◌, take, drop, length, length-drop, min, reverse, find, Option, Some, None, refl, ap, sym, arith}
use Rattle.std.specs.Option.{option_map}
use Rattle.std.specs.Cmp.Lexicographic.{pointwise, same_text}
use Rattle.std.proofs.lemmas.List.{take-append-drop, drop-drop, take_rest}
use Rattle.sig_text.specs.Files.{name_where_there}
use Rattle.sig_text.specs.MemFiles.{NamedBytes, last_named, contents_of, file_at, name_at, rest_at}

-- what a search finds passes its test
find-passes : {X : Type 0} (test : X → Bool) (xs : List X) (found : X) → find test xs ≡ Some found → test found ≡ true
find-passes test [] found is = (cc)
find-passes test (x ∷ xs) found is = at (test x) refl is (find-passes test xs found)
  where
    at : (b : Bool) → test x ≡ b → cond b (Some x) (find test xs) ≡ Some found
        → (find test xs ≡ Some found → test found ≡ true) → test found ≡ true
    at true passes here later = cc
    at false fails there later = later there

-- the name at the index of the last file of that name is the name, where it is there
pub name_at-last : (files : List NamedBytes) (name : List ℕ) (found : Option ℕ)
    → last_named files name ≡ option_map (file_at files) found
    → name_at files found ≡ name_where_there (contents_of files) name
name_at-last files name None last = rw (last, name_where_there) refl
name_at-last files name (Some index) last =
    let passes = find-passes (λ file. pointwise ◌==◌ file.0 name) (reverse files) (file_at files index) last in
    rw (last, name_where_there) (ap Some (same_text _ _ (sym passes)))

-- what is left, and then the first of it and the rest once less is left
pub drop-left : (bytes : List ℕ) (left count : ℕ) → left ≤ length bytes → count ≤ left
    → drop (length bytes - left) bytes ≡ take count (drop (length bytes - left) bytes) ++ drop (length bytes - (left - count)) bytes
drop-left bytes left count within fits =
    let place : length bytes - (left - count) ≡ (length bytes - left) + count = omega arith in
    rw place (rw (← drop-drop) (sym (take-append-drop count (drop (length bytes - left) bytes))))

-- a reading of a file in memory takes what it gives from the rest
pub rest_at-read : (files : List NamedBytes) (begun : Option ℕ) (index left n room : ℕ) (bytes piece : List ℕ)
    → begun ≡ Some index → bytes ≡ (file_at files index).1 → left ≤ length bytes
    → n ≡ min (length (take (length bytes - (length bytes - left)) (drop (length bytes - left) bytes))) room
    → take n piece ≡ take n (take (length bytes - (length bytes - left)) (drop (length bytes - left) bytes))
    → rest_at files begun left ≡ take n piece ++ rest_at files begun (left - n)
rest_at-read files begun index left n room bytes piece is same within count copied =
    let whole = take_rest bytes (length bytes - left) in
    let most : n ≤ left = omega (arith, count, ap length whole, length-drop (length bytes - left) bytes) in
    rw (is, ← same, copied, whole) (drop-left bytes left n within most)

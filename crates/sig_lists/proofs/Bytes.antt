-- Texts as lists of bytes.
use Rattle.std.proofs.Common.{List, bytes_eq, false, true, ℕ, ⊎_elim, ◌≡◌, ◌≢◌}
use Rattle.std.proofs.lemmas.Bool.{cases_Bool}
use Rattle.std.proofs.lemmas.Slice.Eq.{bytes_eq-Decides}

pub same_bytes : (a b : List ℕ) → bytes_eq a b ≡ true → a ≡ b
same_bytes a b e = (bytes_eq-Decides a b).0 e

-- texts that differ
pub other_bytes : (xs ys : List ℕ) → xs ≢ ys → bytes_eq xs ys ≡ false
other_bytes xs ys ne = ⊎_elim (λ same. absurd (ne ((bytes_eq-Decides xs ys).0 same))) (λ other. other) (cases_Bool (bytes_eq xs ys))

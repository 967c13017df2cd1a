-- Lines of a list, one after another.
use Rattle.sig_play_command.proofs.Common.{◌≡◌, ◌+◌, ◌∙◌, ◌++◌, ℕ, List, [], ◌∷◌, take, refl, sym, ap, subst, append_assoc, arith, zero, suc, None, Some, slice_get, append-nil, lines_from, Joins, TookPrefix, TookPrefix-longer, TookPrefix-then}

-- one more line
line_next : {A : Type 0} (line : ℕ → A → List ℕ) (number k : ℕ) (xs : List A) (x : A) → slice_get xs k ≡ Some x
    → lines_from line number (take (suc k) xs) ≡ lines_from line number (take k xs) ++ line (number + k) x
line_next line number k [] x at = absurd (let e : None ≡ Some x = at in cc)
line_next line number zero (y ∷ xs) x at =
    let same : y ≡ x = (let e : Some y ≡ Some x = at in cc) in
    append-nil (line number y) ∙ ap (λ n. line n y) (let e : number ≡ number + 0 = omega arith in e) ∙ ap (line (number + 0)) same
line_next line number (suc k) (y ∷ xs) x at =
    ap (λ text. line number y ++ text) (line_next line (number + 1) k xs x at)
    ∙ sym (append_assoc (line number y) (lines_from line (number + 1) (take k xs)) (line (number + 1 + k) x))
    ∙ ap (λ n. (line number y ++ lines_from line (number + 1) (take k xs)) ++ line n x) (let e : number + 1 + k ≡ number + suc k = omega arith in e)

pub line_more : {A : Type 0} (line : ℕ → A → List ℕ) (k : ℕ) (xs : List A) (x : A) → slice_get xs k ≡ Some x
    → lines_from line 0 (take (k + 1) xs) ≡ lines_from line 0 (take k xs) ++ line k x
line_more line k xs x at =
    ap (λ n. lines_from line 0 (take n xs)) (let e : k + 1 ≡ suc k = omega arith in e)
    ∙ line_next line 0 k xs x at
    ∙ ap (λ n. lines_from line 0 (take k xs) ++ line n x) (let e : 0 + k ≡ k = omega arith in e)

-- the lines behind that
pub lines_rest : {A : Type 0} (line : ℕ → A → List ℕ) (number k : ℕ) (xs : List A) → (rest : List ℕ) × (lines_from line number xs ≡ lines_from line number (take k xs) ++ rest)
lines_rest line number zero xs = (lines_from line number xs, refl)
lines_rest line number (suc k) [] = ([], refl)
lines_rest line number (suc k) (x ∷ xs) =
    let more = lines_rest line (number + 1) k xs in
    (more.0, ap (λ text. line number x ++ text) more.1 ∙ sym (append_assoc (line number x) (lines_from line (number + 1) (take k xs)) more.0))

-- some lines, and then a prefix of the next: a prefix of all
pub part_of_lines : {S : Type 0} (took : S → List ℕ → S → Type 0) → Joins took → {A : Type 0} (line : ℕ → A → List ℕ) (k : ℕ) (xs : List A) (x : A) → slice_get xs k ≡ Some x
    → (before middle after_it : S) → took before (lines_from line 0 (take k xs)) middle → TookPrefix took middle (line k x) after_it → TookPrefix took before (lines_from line 0 xs) after_it
part_of_lines took joins line k xs x at before middle after_it all prefix =
    let rest = lines_rest line 0 (k + 1) xs in
    subst (λ bytes. TookPrefix took before bytes after_it) (ap (λ text. text ++ rest.0) (sym (line_more line k xs x at)) ∙ sym rest.1)
    (TookPrefix-longer took before after_it (lines_from line 0 (take k xs) ++ line k x) rest.0
    (TookPrefix-then took joins before middle after_it (lines_from line 0 (take k xs)) (line k x) all prefix))

-- and all of the next: one more
pub more_of_lines : {S : Type 0} (took : S → List ℕ → S → Type 0) → Joins took → {A : Type 0} (line : ℕ → A → List ℕ) (k : ℕ) (xs : List A) (x : A) → slice_get xs k ≡ Some x
    → (before middle after_it : S) → took before (lines_from line 0 (take k xs)) middle → took middle (line k x) after_it → took before (lines_from line 0 (take (k + 1) xs)) after_it
more_of_lines took joins line k xs x at before middle after_it all next =
    subst (λ bytes. took before bytes after_it) (sym (line_more line k xs x at)) (joins before middle after_it (lines_from line 0 (take k xs)) (line k x) all next)

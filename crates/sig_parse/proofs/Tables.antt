-- The tables of keywords as those of reserved words and of marks.
use Rattle.sig_parse.proofs.Common.{◌≡◌, ℕ, zero, suc, ◌<◌, List, [], ◌∷◌, length, map, get_or, refl, sym, ap, ◌∙◌, arith, word, mark, words, marks, Keyword, WORDS, MARKS, terminal_of, spelling_of}

-- an entry of a list that is mapped
pub at_map : {A B : Type 0} (f : A → B) (xs : List A) (i : ℕ) (d : A) (e : B) → i < length xs → get_or (map f xs) i e ≡ f (get_or xs i d)
at_map f [] i d e lt = absurd (omega arith)
at_map f (x ∷ xs) zero d e lt = refl
at_map f (x ∷ xs) (suc i) d e lt = at_map f xs i d e (omega arith)

pub word_at : (i : ℕ) (d : Keyword) (e : List ℕ) → i < 18 → get_or words i e ≡ spelling_of (get_or WORDS i d)
word_at i d e lt = at_map spelling_of WORDS i d e lt

pub mark_at : (i : ℕ) (d : Keyword) (e : List ℕ) → i < 28 → get_or marks i e ≡ spelling_of (get_or MARKS i d)
mark_at i d e lt = at_map spelling_of MARKS i d e lt

pub word_said : (i : ℕ) (d : Keyword) → i < 18 → terminal_of (get_or WORDS i d) ≡ word (spelling_of (get_or WORDS i d))
word_said i d lt = sym (at_map terminal_of WORDS i d (word []) lt) ∙ at_map word words i [] (word []) lt ∙ ap word (word_at i d [] lt)

pub mark_said : (i : ℕ) (d : Keyword) → i < 28 → terminal_of (get_or MARKS i d) ≡ mark (spelling_of (get_or MARKS i d))
mark_said i d lt = sym (at_map terminal_of MARKS i d (mark []) lt) ∙ at_map mark marks i [] (mark []) lt ∙ ap mark (mark_at i d [] lt)

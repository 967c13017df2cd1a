-- The words of a line, taken from its front.
use Rattle.sig_flow.proofs.Common.{◌≡◌, ◌≤◌, ◌<◌, ◌+◌, ℕ, zero, suc, List, [], ◌∷◌, length, take, drop, get_or, true, false, arith, sym, refl, ◌∙◌, ap, ⊎_elim, length-take-le, length-drop, take_all, drop_all, drop_more, get_or_default, get_or-drop, false≢true, cases_lt, ne_eqb, slice_split-cons_yes, slice_split_none, slice_split_first, position_or_len_is, position_or_len, slice_split, Word, is_blank, words_among, words_from}

-- a blank at the front makes no word
pub words_blank : (col x : ℕ) (xs : List ℕ) → is_blank x ≡ true → words_from col (x ∷ xs) ≡ words_from (col + 1) xs
words_blank col x xs blank = ap (words_among col) (slice_split-cons_yes is_blank x xs blank)

-- nor do several
pub words_blanks : (col : ℕ) (xs : List ℕ) (i : ℕ) → i ≤ length xs → ((k : ℕ) → k < i → is_blank (get_or xs k 0) ≡ true) → words_from (col + i) (drop i xs) ≡ words_from col xs
words_blanks col xs zero le blank =
    let same : col + 0 ≡ col = omega arith in
    ap (λ c. words_from c xs) same
words_blanks col [] (suc i) le blank = absurd (omega arith)
words_blanks col (x ∷ xs) (suc i) le blank =
    let same : col + suc i ≡ (col + 1) + i = omega arith in
    ap (λ c. words_from c (drop i xs)) same
    ∙ words_blanks (col + 1) xs i (omega arith) (λ k lt. blank (suc k) (omega arith))
    ∙ sym (words_blank col x xs (blank 0 (omega arith)))

-- a line of blanks has no words
pub words_none : (col : ℕ) (xs : List ℕ) → ((k : ℕ) → k < length xs → is_blank (get_or xs k 0) ≡ true) → words_from col xs ≡ []
words_none col xs blank =
    sym (words_blanks col xs (length xs) (omega arith) blank) ∙ ap (words_from (col + length xs)) (drop_all (length xs) xs (omega arith))

abbrev word_at : ℕ → List ℕ → Word
word_at col text = record { col = col; text = text }

-- a piece that is not empty is a word
pub kept : (col : ℕ) (w : List ℕ) (ws : List (List ℕ)) → 0 < length w → words_among col (w ∷ ws) ≡ word_at col w ∷ words_among (col + length w + 1) ws
kept col w ws some = rw (ne_eqb (length w) 0 (λ none. omega arith)) refl

first_and_more : (col : ℕ) (xs : List ℕ) (n : ℕ) → 0 < n → n < length xs → position_or_len is_blank xs ≡ n → is_blank (get_or xs n 0) ≡ true → words_from col xs ≡ word_at col (take n xs) ∷ words_from (col + n) (drop n xs)
first_and_more col xs n some lt at stop =
    let parts : slice_split is_blank xs ≡ take n xs ∷ slice_split is_blank (drop (n + 1) xs) =
    rw at at (slice_split_first is_blank xs 0 (rw at lt)) in
    let size : length (take n xs) ≡ n = length-take-le n xs (omega arith) in
    let rest : words_from (col + n) (drop n xs) ≡ words_from (col + n + 1) (drop (n + 1) xs) =
    ap (words_from (col + n)) (drop_more xs n 0 lt) ∙ words_blank (col + n) (get_or xs n 0) (drop (n + 1) xs) stop in
    ap (words_among col) parts
    ∙ kept col (take n xs) (slice_split is_blank (drop (n + 1) xs)) (omega arith)
    ∙ ap (λ k. word_at col (take n xs) ∷ words_from (col + k + 1) (drop (n + 1) xs)) size
    ∙ ap (λ (ws : List Word). word_at col (take n xs) ∷ ws) (sym rest)

only_word : (col : ℕ) (xs : List ℕ) (n : ℕ) → 0 < n → n ≡ length xs → ((k : ℕ) → k < n → is_blank (get_or xs k 0) ≡ false) → words_from col xs ≡ word_at col (take n xs) ∷ words_from (col + n) (drop n xs)
only_word col xs n some all word =
    ap (words_among col) (slice_split_none is_blank xs (λ k d lt. ap is_blank (get_or_default xs k d 0 lt) ∙ word k (omega arith)))
    ∙ kept col xs [] (omega arith)
    ∙ sym (rw (take_all n xs (omega arith), drop_all n xs (omega arith)) refl)

-- the first word ends at the first blank behind it, if there is one
pub words_first : (col : ℕ) (xs : List ℕ) (n : ℕ) → 0 < n → n ≤ length xs → ((k : ℕ) → k < n → is_blank (get_or xs k 0) ≡ false) → (n < length xs → is_blank (get_or xs n 0) ≡ true) → words_from col xs ≡ word_at col (take n xs) ∷ words_from (col + n) (drop n xs)
words_first col xs n some le word stop =
    ⊎_elim
    (λ lt. first_and_more col xs n some lt (position_or_len_is is_blank xs n 0 le word stop) (stop lt))
    (λ ge. only_word col xs n some (omega arith) word)
    (cases_lt n (length xs))

-- a blank at the front of what is left stands behind the front that was taken
pub blank_behind : (xs rest : List ℕ) (n : ℕ) → n < length xs → rest ≡ drop n xs → (0 < length rest → is_blank (get_or rest 0 0) ≡ true) → is_blank (get_or xs n 0) ≡ true
blank_behind xs rest n lt is stop =
    let here : n ≡ n + 0 = omega arith in
    ap (λ k. is_blank (get_or xs k 0)) here
    ∙ ap is_blank (sym (get_or-drop n xs 0 0))
    ∙ ap (λ r. is_blank (get_or r 0 0)) (sym is)
    ∙ stop (omega (arith, length-drop n xs, ap length is))

-- a word has a byte
some_byte : (xs rest : List ℕ) (i n : ℕ) → i < length xs → rest ≡ drop i xs → is_blank (get_or xs i 0) ≡ false → (n < length rest → is_blank (get_or rest n 0) ≡ true) → 0 < n
some_byte xs rest i zero lt is begin stop = absurd (false≢true (sym begin ∙ blank_behind xs rest i lt is stop))
some_byte xs rest i (suc n) lt is begin stop = omega arith

-- behind the blanks at the front stands the first word
pub words_next : (col : ℕ) (xs rest : List ℕ) (i n : ℕ) → i < length xs → rest ≡ drop i xs → ((k : ℕ) → k < i → is_blank (get_or xs k 0) ≡ true) → is_blank (get_or xs i 0) ≡ false → n ≤ length rest → ((k : ℕ) → k < n → is_blank (get_or rest k 0) ≡ false) → (n < length rest → is_blank (get_or rest n 0) ≡ true) → words_from col xs ≡ word_at (col + i) (take n rest) ∷ words_from (col + i + length (take n rest)) (drop n rest)
words_next col xs rest i n lt is blanks begin le word stop =
    let size : n ≡ length (take n rest) = sym (length-take-le n rest le) in
    sym (words_blanks col xs i (omega arith) blanks) ∙ ap (words_from (col + i)) (sym is)
    ∙ words_first (col + i) rest n (some_byte xs rest i n lt is begin stop) le word stop
    ∙ ap (λ k. word_at (col + i) (take n rest) ∷ words_from (col + i + k) (drop n rest)) size

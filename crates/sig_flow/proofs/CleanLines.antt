-- A line whose words are good holds no other bytes than a line may.
use Rattle.sig_flow.proofs.Common.{◌≡◌, ◌<◌, ◌∙◌, ◌+◌, ◌&&◌, ℕ, suc, ℤ, Bool, true, false, List, [], ◌∷◌, length, get_or, eqb, nat_le, nat_lt, cond, Option, None, Some, Result, Ok, Err, refl, sym, ap, subst, arith, codes, ltb-true, and_from, nat_tests, list_all-append, passes_at_first, split_at_first, bytes_eq-Decides, AllByRecursion, after_first, before_first, list_all, onto_first, position_or_len, slice_split, is_ascii_alphabetic, bytes_eq, digits_value, Kind, Integer, Boolean, Event, Signal, BadLine, Run, WordFault, Bad, Outside, Version, One, Two, is_digits, short_number, AllGood, is_line_byte, is_name, is_name_byte, kind_named, named_fault, text_fault, value_judge, word_fault, words_fault, is_numeral, is_star, repeated, run_length, run_said, starred, times_said, value_said, Word, is_blank, words_among, words_from, words_of, and_first, and_second}
use Rattle.sig_flow.proofs.FirstLemmas.{good_from_none}
use Rattle.sig_flow.proofs.LineWords.{kept}
use Rattle.sig_flow.proofs.Numerals.{digit_in}

abbrev Clean : List ℕ → Type 0
Clean text = list_all is_line_byte text ≡ true

abbrev CleanWord : Word → Type 0
CleanWord word = Clean word.text

clean_cons : (x : ℕ) (xs : List ℕ) → is_line_byte x ≡ true → Clean xs → Clean (x ∷ xs)
clean_cons x xs here rest = and_from (is_line_byte x) (list_all is_line_byte xs) here rest

clean_head : (x : ℕ) (xs : List ℕ) → Clean (x ∷ xs) → is_line_byte x ≡ true
clean_head x xs clean = and_first (is_line_byte x) (list_all is_line_byte xs) clean

clean_tail : (x : ℕ) (xs : List ℕ) → Clean (x ∷ xs) → Clean xs
clean_tail x xs clean = and_second (is_line_byte x) (list_all is_line_byte xs) clean

blank_is_clean : (x : ℕ) → is_blank x ≡ true → is_line_byte x ≡ true
blank_is_clean x blank = grind (arith, nat_tests)

-- a line is clean if its pieces between blanks are
piece_more : (x : ℕ) (xs : List ℕ) (parts : List (List ℕ)) (b : Bool) → is_blank x ≡ b → (AllByRecursion Clean parts → Clean xs) → AllByRecursion Clean (cond b ([] ∷ parts) (onto_first x parts)) → Clean (x ∷ xs)
piece_more x xs parts true blank rest all = clean_cons x xs (blank_is_clean x blank) (rest all.1)
piece_more x xs [] false other rest all = clean_cons x xs (clean_head x [] all.0) (rest tt)
piece_more x xs (part ∷ parts) false other rest all =
    clean_cons x xs (clean_head x part all.0) (rest (clean_tail x part all.0, all.1))

of_pieces : (xs : List ℕ) → AllByRecursion Clean (slice_split is_blank xs) → Clean xs
of_pieces [] all = refl
of_pieces (x ∷ xs) all = piece_more x xs (slice_split is_blank xs) (is_blank x) refl (of_pieces xs) all

-- and those are if the words are
pieces_of_words : (col : ℕ) (pieces : List (List ℕ)) → AllByRecursion CleanWord (words_among col pieces) → AllByRecursion Clean pieces
pieces_of_words col [] all = tt
pieces_of_words col ([] ∷ pieces) all = (refl, pieces_of_words (col + 1) pieces all)
pieces_of_words col ((x ∷ xs) ∷ pieces) all =
    let both = subst (AllByRecursion CleanWord) (kept col (x ∷ xs) pieces (omega arith)) all in
    (both.0, pieces_of_words (col + length (x ∷ xs) + 1) pieces both.1)

of_words : (col : ℕ) (xs : List ℕ) → AllByRecursion CleanWord (words_from col xs) → Clean xs
of_words col xs all = of_pieces xs (pieces_of_words col (slice_split is_blank xs) all)

-- names, and digits
of_name_bytes : (xs : List ℕ) → list_all is_name_byte xs ≡ true → Clean xs
of_name_bytes [] name = refl
of_name_bytes (x ∷ xs) name =
    let here = and_first (is_name_byte x) (list_all is_name_byte xs) name in
    clean_cons x xs (grind (arith, nat_tests)) (of_name_bytes xs (and_second (is_name_byte x) (list_all is_name_byte xs) name))

of_bytes : (xs : List ℕ) → ((k : ℕ) → k < length xs → is_line_byte (get_or xs k 0) ≡ true) → Clean xs
of_bytes [] each = refl
of_bytes (x ∷ xs) each =
    clean_cons x xs (each 0 (omega arith)) (of_bytes xs (λ k lt. each (suc k) (omega arith)))

of_digits : (xs : List ℕ) → is_digits xs ≡ true → Clean xs
of_digits xs digits =
    of_bytes xs (λ k lt. let inside = digit_in xs k digits lt in grind (arith, nat_tests))

of_name : (xs : List ℕ) → is_name xs ≡ true → Clean xs
of_name [] name = refl
of_name (x ∷ xs) name =
    let here = and_first (is_ascii_alphabetic x) (list_all is_name_byte xs) name in
    clean_cons x xs (grind (arith, nat_tests)) (of_name_bytes xs (and_second (is_ascii_alphabetic x) (list_all is_name_byte xs) name))

some_is_not : {X : Type 0} (x : X) → (let o : Option X = Some x in o ≡ None) → ⊥
some_is_not x same = cc

-- values
numeral_by : (x : ℕ) (xs : List ℕ) (b : Bool) → eqb x 45 ≡ b → cond b (is_digits xs) (is_digits (x ∷ xs)) ≡ true → Clean (x ∷ xs)
numeral_by x xs true minus digits = clean_cons x xs (grind (arith, nat_tests)) (of_digits xs digits)
numeral_by x xs false minus digits = of_digits (x ∷ xs) digits

of_numeral : (word : List ℕ) → is_numeral word ≡ true → Clean word
of_numeral [] numeral = refl
of_numeral (x ∷ xs) numeral = numeral_by x xs (eqb x 45) refl numeral

not_ok : {X : Type 0} (fault : WordFault) (x : X) → (let r : Result X WordFault = Err fault in r ≡ Ok x) → ⊥
not_ok fault x same = cc

-- what is chosen where a test passes, and a fault where not, is a value only where the test passes
passed : {X : Type 0} (b : Bool) (r : Result X WordFault) (fault : WordFault) (x : X) → cond b r (Err fault) ≡ Ok x → b ≡ true
passed true r fault x same = refl
passed false r fault x same = absurd (not_ok fault x same)

chosen : {X : Type 0} (b : Bool) (r : Result X WordFault) (x : X) (G : Type 0) → (b ≡ true → G) → (r ≡ Ok x → G) → (s : Result X WordFault) → cond b s r ≡ Ok x → G
chosen true r x G passes fails s same = passes refl
chosen false r x G passes fails s same = fails same

of_value : (kind : Kind) (word : List ℕ) (z : ℤ) → value_said kind word ≡ Ok z → Clean word
of_value Integer word z said = of_numeral word (passed (is_numeral word) _ Bad z said)
of_value Boolean word z said =
    chosen (bytes_eq word (codes "true")) _ z (Clean word)
    (λ same. subst Clean (sym ((bytes_eq-Decides word (codes "true")).0 same)) refl)
    (λ other. subst Clean (sym ((bytes_eq-Decides word (codes "false")).0 (passed (bytes_eq word (codes "false")) _ Bad z other))) refl)
    _ said
of_value Event word z said =
    subst Clean (sym ((bytes_eq-Decides word (codes "true")).0 (passed (bytes_eq word (codes "true")) _ Bad z said))) refl

of_repeated : (times : ℕ) (value : Result ℤ WordFault) (run : Run) (G : Type 0) → ((z : ℤ) → value ≡ Ok z → G) → repeated times value ≡ Ok run → G
of_repeated times (Ok z) run G good same = good z refl
of_repeated times (Err fault) run G good same = absurd (not_ok fault run same)

-- digits behind a star
of_times : (digits : List ℕ) (b : Bool) (n times : ℕ) → cond b (Some n) None ≡ Some times → b ≡ true
of_times digits true n times same = refl
of_times digits false n times same = absurd (none_is_not times same)
  where
    none_is_not : (times : ℕ) → (let o : Option ℕ = None in o ≡ Some times) → ⊥
    none_is_not times same = cc

times_short : (digits : List ℕ) (o : Option ℕ) → short_number digits ≡ o → (value : Result ℤ WordFault) (run : Run) → starred (elim o [ None ↦ None | Some times ↦ cond (nat_le 1 times && nat_le times 4000000) (Some times) None ]) value ≡ Ok run → is_digits digits ≡ true
times_short digits None short value run same = absurd (not_ok Bad run same)
times_short digits (Some n) short value run same =
    and_first (is_digits digits) (nat_le (length digits) 9) (of_times digits (is_digits digits && nat_le (length digits) 9) (digits_value 10 digits) n short)

starred_value : (o : Option ℕ) (value : Result ℤ WordFault) (run : Run) (G : Type 0) → ((z : ℤ) → value ≡ Ok z → G) → starred o value ≡ Ok run → G
starred_value None value run G good same = absurd (not_ok Bad run same)
starred_value (Some times) value run G good same = of_repeated times value run G good same

around_star : (word : List ℕ) → position_or_len is_star word < length word → Clean (before_first is_star word) → Clean (after_first is_star word) → Clean word
around_star word lt before after =
    let c = get_or word (position_or_len is_star word) 0 in
    let star : is_star c ≡ true = passes_at_first is_star word 0 lt in
    let here : is_line_byte c ≡ true = grind (arith, nat_tests) in
    ap (list_all is_line_byte) (split_at_first is_star word 0 lt)
    ∙ list_all-append is_line_byte (before_first is_star word) (c ∷ after_first is_star word)
    ∙ and_from _ _ before (clean_cons c (after_first is_star word) here after)

star_by : (kind : Kind) (word : List ℕ) (run : Run) (b : Bool) → nat_lt (position_or_len is_star word) (length word) ≡ b → cond b (starred (times_said (after_first is_star word)) (value_said kind (before_first is_star word))) (repeated 1 (value_said kind word)) ≡ Ok run → Clean word
star_by kind word run true lt same =
    around_star word (ltb-true _ _ lt)
    (starred_value (times_said (after_first is_star word)) (value_said kind (before_first is_star word)) run (Clean (before_first is_star word)) (of_value kind (before_first is_star word)) same)
    (of_digits (after_first is_star word) (times_short (after_first is_star word) (short_number (after_first is_star word)) refl (value_said kind (before_first is_star word)) run same))
star_by kind word run false none same =
    of_repeated 1 (value_said kind word) run (Clean word) (of_value kind word) same

of_run : (version : Version) (kind : Kind) (word : List ℕ) (run : Run) → run_said version kind word ≡ Ok run → Clean word
of_run One kind word run same = of_repeated 1 (value_said kind word) run (Clean word) (of_value kind word) same
of_run Two kind word run same = star_by kind word run (nat_lt (position_or_len is_star word) (length word)) refl same

-- words of values in which nothing is wrong
of_no_fault : (number before col : ℕ) (word : List ℕ) (said : Result Run WordFault) → ((run : Run) → said ≡ Ok run → Clean word) → word_fault number before col said ≡ None → Clean word
of_no_fault number before col word (Ok run) good none = good run refl
of_no_fault number before col word (Err Bad) good none = absurd (some_is_not _ none)
of_no_fault number before col word (Err Outside) good none = absurd (some_is_not _ none)

of_good_words : (version : Version) (kind : Kind) (number before : ℕ) (words : List Word) → AllGood (value_judge version kind number) before words → AllByRecursion CleanWord words
of_good_words version kind number before [] good = tt
of_good_words version kind number before (word ∷ words) good = (
  of_no_fault number before word.col word.text (run_said version kind word.text) (of_run version kind word.text) good.0,
  of_good_words version kind number (before + run_length (run_said version kind word.text)) words good.1,
)

of_named : (version : Version) (number before : ℕ) (values : List Word) (kind : Option Kind) → named_fault version number before values kind ≡ None → AllByRecursion CleanWord values
of_named version number before values None none = absurd (some_is_not _ none)
of_named version number before values (Some kind) none =
    of_good_words version kind number before values (good_from_none (value_judge version kind number) before values none)

named_by : (version : Version) (inputs : List Signal) (number before : ℕ) (name : Word) (values : List Word) (b : Bool) → is_name name.text ≡ b → cond b (named_fault version number before values (kind_named inputs name.text)) (Some (BadLine number)) ≡ None → AllByRecursion CleanWord (name ∷ values)
named_by version inputs number before name values true named none =
    (of_name name.text named, of_named version number before values (kind_named inputs name.text) none)
named_by version inputs number before name values false named none = absurd (some_is_not _ none)

of_good_line : (version : Version) (inputs : List Signal) (number before : ℕ) (words : List Word) → words_fault version inputs number before words ≡ None → AllByRecursion CleanWord words
of_good_line version inputs number before [] none = tt
of_good_line version inputs number before (name ∷ values) none =
    named_by version inputs number before name values (is_name name.text) refl none

-- a line whose words are good has no fault
pub good_line : (version : Version) (inputs : List Signal) (number before : ℕ) (text : List ℕ) → words_fault version inputs number before (words_of text) ≡ None → text_fault version inputs number before text ≡ None
good_line version inputs number before text none =
    rw (of_words 1 text (of_good_line version inputs number before (words_of text) none)) none

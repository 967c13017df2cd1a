-- What stands at the front of some bytes is determined by them.
use Rattle.sig_lex.proofs.Common.{◌≡◌, ℕ, ◌+◌, ◌<◌, ◌≤◌, List, [], ◌∷◌, Bool, true, false, not, cond, eqb, leb, ◌&&◌, length, take, drop, get_or, Option, None, Some, Result, Ok, Err, refl, sym, ap, ◌∙◌, subst, ⊎_elim, arith, length-take-le, length-drop, get_or-take, ◌-◌, Contains, list_any, prefix_len, is_ascii_alphabetic, is_ascii_digit, bytes_eq, digits_value, false_from_ne_true, false≢true, and_parts, and_from, and_left, and_right, not-true, le-leb, lt-leb, ne_eqb, eq-eqb, cases_lt, Span, LexAnswer, BadByte, OpenComment, LongNumber, OutOfMemory, TokenKind, Name, Word, Number, Label, Mark, Last, first, is_blank, is_name_byte, is_percent, is_quote, is_label_byte, words, marks, greatest_number, IsNameOrWord, IsDigits, IsLabel, IsLongestMark, IsComment, Piece, IsPiece, IsOpenComment, IsOpenLabel, IsLongNumber, IsStray, BeginsWithFault}
use Rattle.sig_lex.proofs.Classes.{Class, class_of, blank_class, percent_class, letter_class, digit_class, quote_class, other_class}
use Rattle.sig_lex.proofs.Classes.Class.{Blank, Percent, Letter, Digit, Quote, Other}
use Rattle.sig_lex.proofs.Listed.{listed}
use Rattle.sig_lex.proofs.Marks.{each_entry, mark_length}

-- whether the table has the bytes
pub is_listed : List (List ℕ) → List ℕ → Bool
is_listed table bytes = list_any (λ entry. bytes_eq entry bytes) table

pub listed_true : (table : List (List ℕ)) (bytes : List ℕ) → Contains table bytes → is_listed table bytes ≡ true
unfolding is_listed
listed_true table bytes = (listed table bytes (is_listed table bytes) refl).1

pub is_listed_true : (table : List (List ℕ)) (bytes : List ℕ) → is_listed table bytes ≡ true → Contains table bytes
unfolding is_listed
is_listed_true table bytes = (listed table bytes (is_listed table bytes) refl).0

listed_false : (table : List (List ℕ)) (bytes : List ℕ) → (Contains table bytes → ⊥) → is_listed table bytes ≡ false
unfolding is_listed
listed_false table bytes not_there = false_from_ne_true _ (λ yes. not_there ((listed table bytes (is_listed table bytes) refl).0 yes))

-- whether the bytes begin with a mark of k bytes
begins : List ℕ → ℕ → Bool
begins bytes k = leb k (length bytes) && is_listed marks (take k bytes)

begins_true : (bytes : List ℕ) (k : ℕ) → k ≤ length bytes → Contains marks (take k bytes) → begins bytes k ≡ true
unfolding begins
begins_true bytes k within there = and_from _ _ (le-leb k (length bytes) within) (listed_true marks (take k bytes) there)

begins_false : (bytes : List ℕ) (k : ℕ) → (k ≤ length bytes → Contains marks (take k bytes) → ⊥) → begins bytes k ≡ false
unfolding begins
begins_false bytes k not_there = ⊎_elim
    (λ (short : length bytes < k). and_left _ _ (lt-leb k (length bytes) short))
    (λ (within : k ≤ length bytes). and_right _ _ (listed_false marks (take k bytes) (not_there within)))
    (cases_lt (length bytes) k)

-- how many bytes the longest mark at the front is of, or 0
mark_size : List ℕ → ℕ
mark_size bytes = cond (begins bytes 2) 2 (cond (begins bytes 1) 1 0)

abbrev piece : Option TokenKind → ℕ → Result Piece LexAnswer
piece kind size = Ok (record { kind = kind; size = size })

abbrev name_size : List ℕ → ℕ
name_size bytes = prefix_len is_name_byte bytes

abbrev digits_size : List ℕ → ℕ
digits_size bytes = prefix_len is_ascii_digit bytes

abbrev comment_size : List ℕ → ℕ
comment_size bytes = prefix_len (λ b. not (is_percent b)) (drop 1 bytes)

abbrev label_size : List ℕ → ℕ
label_size bytes = prefix_len is_label_byte (drop 1 bytes)

-- the piece or the fault, by the class of the first byte
abbrev front : Class → List ℕ → Span → Result Piece LexAnswer
front Blank bytes at = piece None 1
front Percent bytes at = cond (leb (comment_size bytes + 2) (length bytes)) (piece None (comment_size bytes + 2)) (Err (OpenComment at))
front Letter bytes at = piece (Some (cond (is_listed words (take (name_size bytes) bytes)) Word Name)) (name_size bytes)
front Digit bytes at = cond (leb (digits_value 10 (take (digits_size bytes) bytes)) greatest_number) (piece (Some (Number (digits_value 10 (take (digits_size bytes) bytes)))) (digits_size bytes)) (Err (LongNumber at))
front Quote bytes at = cond (is_quote (get_or bytes (label_size bytes + 1) 0)) (piece (Some Label) (label_size bytes + 2)) (Err (BadByte at))
front Other bytes at = cond (eqb (mark_size bytes) 0) (Err (BadByte at)) (piece (Some Mark) (mark_size bytes))

-- no class but the last begins a mark
abbrev is_other_byte : ℕ → Bool
is_other_byte b = not (is_blank b) && (not (is_percent b) && (not (is_ascii_alphabetic b) && (not (is_ascii_digit b) && not (is_quote b))))

other_byte_class : (b : ℕ) → is_other_byte b ≡ true → class_of b ≡ Other
other_byte_class b is =
    let blank = and_parts _ _ is in
    let percent = and_parts _ _ blank.1 in
    let letter = and_parts _ _ percent.1 in
    let digit = and_parts _ _ letter.1 in
    other_class b (not-true _ blank.0) (not-true _ percent.0) (not-true _ letter.0) (not-true _ digit.0) (not-true _ digit.1)

on_true : {X : Type 0} {b : Bool} (x y : X) → b ≡ true → x ≡ cond b x y
on_true x y is = λ i. cond (sym is i) x y

on_false : {X : Type 0} {b : Bool} (x y : X) → b ≡ false → y ≡ cond b x y
on_false x y is = λ i. cond (sym is i) x y

two_sized : (bytes : List ℕ) → begins bytes 2 ≡ true → mark_size bytes ≡ 2
unfolding mark_size
two_sized bytes pair = sym (on_true 2 (cond (begins bytes 1) 1 0) pair)

one_sized : (bytes : List ℕ) → begins bytes 2 ≡ false → begins bytes 1 ≡ true → mark_size bytes ≡ 1
unfolding mark_size
one_sized bytes no_pair single = sym (on_false 2 (cond (begins bytes 1) 1 0) no_pair) ∙ sym (on_true 1 0 single)

-- where no front is a mark, it is of none
no_size : (bytes : List ℕ) → ((k : ℕ) → k ≤ length bytes → Contains marks (take k bytes) → ⊥) → mark_size bytes ≡ 0
unfolding mark_size
no_size bytes none = sym (on_false 2 (cond (begins bytes 1) 1 0) (begins_false bytes 2 (none 2))) ∙ sym (on_false 1 0 (begins_false bytes 1 (none 1)))

-- the longest mark at the front is of so many bytes
size_of_longest : (bytes : List ℕ) (n : ℕ) → IsLongestMark bytes n → (1 ≤ n) × (mark_size bytes ≡ n)
size_of_longest bytes n mark =
    let size = length-take-le n bytes mark.within in
    let bounds = mark_length (take n bytes) mark.is_mark in
    let least : 1 ≤ n = omega arith in (
      least,
      ⊎_elim
          (λ (more : 1 < n).
          let two : n ≡ 2 = omega arith in
          two_sized bytes (subst (λ (k : ℕ). begins bytes k ≡ true) two (begins_true bytes n mark.within mark.is_mark)) ∙ sym two)
          (λ (no_more : n ≤ 1).
          let one : n ≡ 1 = omega arith in
          one_sized bytes (begins_false bytes 2 (mark.longest 2 (omega arith))) (subst (λ (k : ℕ). begins bytes k ≡ true) one (begins_true bytes n mark.within mark.is_mark)) ∙ sym one)
          (cases_lt 1 n),
    )

mark_class : (bytes : List ℕ) (n : ℕ) → IsLongestMark bytes n → class_of (first bytes) ≡ Other
mark_class bytes n mark =
    let size = (size_of_longest bytes n mark).0 in
    other_byte_class (first bytes) (ap is_other_byte (sym (get_or-take n bytes 0 0 size)) ∙ each_entry (λ m. is_other_byte (first m)) marks (take n bytes) refl mark.is_mark)

stray_nothing : (at : Span) → Err (BadByte at) ≡ front (class_of 0) [] at
unfolding mark_size begins
stray_nothing at = refl

abbrev Reading : Type 0
Reading = Result Piece LexAnswer

same_ok : (p q : Piece) → (let r : Reading = Ok p in r ≡ Ok q) → p ≡ q
same_ok p q same = cc

same_err : (d e : LexAnswer) → (let r : Reading = Err d in r ≡ Err e) → d ≡ e
same_err d e same = cc

not_both : (p : Piece) (e : LexAnswer) → (let r : Reading = Ok p in r ≡ Err e) → ⊥
not_both p e same = cc

module _ (bytes : List ℕ) (at : Span) where
  abbrev the_front : Result Piece LexAnswer
  the_front = front (class_of (first bytes)) bytes at

  in_class : (c : Class) → class_of (first bytes) ≡ c → front c bytes at ≡ the_front
  in_class c is = ap (λ (d : Class). front d bytes at) (sym is)

  name_front : (n : ℕ) → IsNameOrWord bytes n → (Contains words (take n bytes) → ⊥) → piece (Some Name) n ≡ the_front
  name_front n name no_word =
      let no = listed_false words (take (name_size bytes) bytes) (λ there. no_word (subst (λ (k : ℕ). Contains words (take k bytes)) (sym name.whole) there)) in
      (λ i. piece (Some (cond (sym no i) Word Name)) (name.whole i)) ∙ in_class Letter (letter_class (first bytes) name.letter)

  word_front : (n : ℕ) → IsNameOrWord bytes n → Contains words (take n bytes) → piece (Some Word) n ≡ the_front
  word_front n name word =
      let yes = listed_true words (take (name_size bytes) bytes) (subst (λ (k : ℕ). Contains words (take k bytes)) name.whole word) in
      (λ i. piece (Some (cond (sym yes i) Word Name)) (name.whole i)) ∙ in_class Letter (letter_class (first bytes) name.letter)

  number_front : (n value : ℕ) → IsDigits bytes n → value ≡ digits_value 10 (take n bytes) → value ≤ greatest_number → piece (Some (Number value)) n ≡ the_front
  number_front n value digits is small =
      let whole_value = is ∙ ap (λ (k : ℕ). digits_value 10 (take k bytes)) digits.whole in
      let fits = le-leb (digits_value 10 (take (digits_size bytes) bytes)) greatest_number (subst (λ (v : ℕ). v ≤ greatest_number) whole_value small) in
      (λ i. piece (Some (Number (whole_value i))) (digits.whole i)) ∙ on_true _ _ fits ∙ in_class Digit (digit_class (first bytes) digits.digit)

  label_front : (n : ℕ) → IsLabel bytes n → piece (Some Label) n ≡ the_front
  label_front n label =
      let last : n - 1 ≡ label_size bytes + 1 = omega (arith, label.whole) in
      let closed : is_quote (get_or bytes (label_size bytes + 1) 0) ≡ true = subst (λ (k : ℕ). is_quote (get_or bytes k 0) ≡ true) last label.closed in
      ap (piece (Some Label)) label.whole ∙ on_true _ _ closed ∙ in_class Quote (quote_class (first bytes) label.opened)

  mark_front : (n : ℕ) → IsLongestMark bytes n → piece (Some Mark) n ≡ the_front
  mark_front n mark =
      let size = size_of_longest bytes n mark in
      ap (piece (Some Mark)) (sym size.1) ∙ on_false _ _ (ne_eqb (mark_size bytes) 0 (λ (e : mark_size bytes ≡ 0). omega (arith, size.0, size.1))) ∙ in_class Other (mark_class bytes n mark)

  blank_front : (n : ℕ) → is_blank (first bytes) ≡ true → n ≡ 1 → piece None n ≡ the_front
  blank_front n blank one = ap (piece None) one ∙ in_class Blank (blank_class (first bytes) blank)

  comment_front : (n : ℕ) → IsComment bytes n → piece None n ≡ the_front
  comment_front n comment =
      let closed = le-leb (comment_size bytes + 2) (length bytes) (subst (λ (k : ℕ). k ≤ length bytes) comment.whole comment.closed) in
      ap (piece None) comment.whole ∙ on_true _ _ closed ∙ in_class Percent (percent_class (first bytes) comment.opened)

  open_comment_front : IsOpenComment bytes → Err (OpenComment at) ≡ the_front
  open_comment_front comment =
      let not_closed = lt-leb (comment_size bytes + 2) (length bytes) (omega (arith, comment.open_to_the_end, length-drop 1 bytes)) in
      on_false _ _ not_closed ∙ in_class Percent (percent_class (first bytes) comment.opened)

  open_label_front : IsOpenLabel bytes → Err (BadByte at) ≡ the_front
  open_label_front label = on_false _ _ label.not_closed ∙ in_class Quote (quote_class (first bytes) label.opened)

  long_number_front : IsLongNumber bytes → Err (LongNumber at) ≡ the_front
  long_number_front number =
      let great = lt-leb (digits_value 10 (take (digits_size bytes) bytes)) greatest_number number.too_great in
      on_false _ _ great ∙ in_class Digit (digit_class (first bytes) number.digit)

  stray_front : IsStray bytes → Err (BadByte at) ≡ the_front
  stray_front stray =
      let other = stray.other in
      on_true _ _ (eq-eqb (mark_size bytes) 0 (no_size bytes stray.no_mark))
      ∙ in_class Other (other_class (first bytes) other.no_blank other.no_percent other.no_letter other.no_digit other.no_quote)

  piece_front : (kind : Option TokenKind) (n : ℕ) → IsPiece kind bytes n → piece kind n ≡ the_front
  piece_front None n separates = ⊎_elim (λ blank. blank_front n blank.0 blank.1) (comment_front n) separates
  piece_front (Some Name) n lexeme = name_front n lexeme.0 lexeme.1
  piece_front (Some Word) n lexeme = word_front n lexeme.0 lexeme.1
  piece_front (Some (Number value)) n lexeme = number_front n value lexeme.0 lexeme.1 lexeme.2
  piece_front (Some Label) n lexeme = label_front n lexeme
  piece_front (Some Mark) n lexeme = mark_front n lexeme
  piece_front (Some Last) n never = absurd never

  fault_front : (fault : LexAnswer) → BeginsWithFault fault at bytes → Err fault ≡ the_front
  fault_front (BadByte place) (here, bad) = ap (λ (p : Span). Err (BadByte p)) here ∙ ⊎_elim stray_front open_label_front bad
  fault_front (OpenComment place) (here, comment) = ap (λ (p : Span). Err (OpenComment p)) here ∙ open_comment_front comment
  fault_front (LongNumber place) (here, number) = ap (λ (p : Span). Err (LongNumber p)) here ∙ long_number_front number
  fault_front OutOfMemory never = absurd never

  -- at most one piece or fault stands there
  pub one_piece : (p q : Piece) → IsPiece p.kind bytes p.size → IsPiece q.kind bytes q.size → p ≡ q
  one_piece p q here there = same_ok p q (piece_front p.kind p.size here ∙ sym (piece_front q.kind q.size there))

  pub no_fault : (p : Piece) (fault : LexAnswer) → IsPiece p.kind bytes p.size → BeginsWithFault fault at bytes → ⊥
  no_fault p fault here there = not_both p fault (piece_front p.kind p.size here ∙ sym (fault_front fault there))

  pub one_fault : (fault other : LexAnswer) → BeginsWithFault fault at bytes → BeginsWithFault other at bytes → fault ≡ other
  one_fault fault other here there = same_err fault other (fault_front fault here ∙ sym (fault_front other there))

-- nothing begins where there is no byte
pub piece_there : (kind : Option TokenKind) (n : ℕ) (bytes : List ℕ) → IsPiece kind bytes n → 0 < length bytes
piece_there kind n [] lexeme =
    let at : Span = record { line = 0; col = 0 } in
    absurd (not_both (record { kind = kind; size = n }) (BadByte at) (piece_front [] at kind n lexeme ∙ sym (stray_nothing at)))
piece_there kind n (b ∷ bytes) lexeme = omega arith

pub fault_there : (fault : LexAnswer) (at : Span) (bytes : List ℕ) → BeginsWithFault fault at bytes → 0 < length bytes
fault_there (BadByte place) at [] (here, bad) = ⊎_elim (λ (stray : IsStray []). stray.other.there) (λ (label : IsOpenLabel []). absurd (false≢true label.opened)) bad
fault_there (OpenComment place) at [] (here, comment) = absurd (false≢true comment.opened)
fault_there (LongNumber place) at [] (here, number) = absurd (false≢true number.digit)
fault_there OutOfMemory at [] never = absurd never
fault_there fault at (b ∷ bytes) begins = omega arith

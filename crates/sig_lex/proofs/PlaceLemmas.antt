-- How the place moves on by one byte.
use Rattle.sig_lex.proofs.Common.{◌≡◌, ℕ, ◌+◌, ◌-◌, ◌<◌, List, Bool, true, false, not, eqb, length, take, drop, get_or, sym, ◌∙◌, ap, arith, length-drop, length-take, get_or-take, get_or-drop, suffix_len, ne_eqb, count_by_more_yes, count_by_more_no, suffix_len-take_yes, suffix_len-take_no, suffix_len-le-length, place_after}

abbrev pub newline : ℕ → Bool
newline b = eqb b 10

-- the bytes after the last newline are as many as are none at the end
col_is : (front : List ℕ) → (place_after front).col ≡ 1 + suffix_len (λ b. not (newline b)) front
col_is front = let short = suffix_len-le-length (λ b. not (newline b)) front in omega (arith, length-drop (length front - suffix_len (λ b. not (newline b)) front) front)

line_newline : (bytes : List ℕ) (i : ℕ) → i < length bytes → newline (get_or bytes i 0) ≡ true → (place_after (take (i + 1) bytes)).line ≡ (place_after (take i bytes)).line + 1
line_newline bytes i lt is = omega (arith, count_by_more_yes newline bytes i 0 lt is)

pub line_other : (bytes : List ℕ) (i : ℕ) → i < length bytes → newline (get_or bytes i 0) ≡ false → (place_after (take (i + 1) bytes)).line ≡ (place_after (take i bytes)).line
line_other bytes i lt is = omega (arith, count_by_more_no newline bytes i 0 lt is)

module _ (bytes : List ℕ) (i : ℕ) (lt : i < length bytes) where
  back : i + 1 - 1 ≡ i
  back = omega arith

  col_newline : newline (get_or bytes i 0) ≡ true → (place_after (take (i + 1) bytes)).col ≡ 1
  col_newline is = col_is (take (i + 1) bytes) ∙ ap (λ (n : ℕ). 1 + n) (suffix_len-take_no (λ b. not (newline b)) bytes (i + 1) 0 (omega arith) (omega arith) (ap (λ (k : ℕ). not (newline (get_or bytes k 0))) back ∙ ap not is))

  pub col_other : newline (get_or bytes i 0) ≡ false → (place_after (take (i + 1) bytes)).col ≡ (place_after (take i bytes)).col + 1
  col_other is =
      let step = suffix_len-take_yes (λ b. not (newline b)) bytes (i + 1) 0 (omega arith) (omega arith) (ap (λ (k : ℕ). not (newline (get_or bytes k 0))) back ∙ ap not is) in
      let same = ap (λ (k : ℕ). suffix_len (λ b. not (newline b)) (take k bytes)) back in
      omega (arith, col_is (take (i + 1) bytes), col_is (take i bytes), step, same)

-- the byte i of the piece of n bytes that begins at start, which the piece has
module _ (bytes : List ℕ) (start n i : ℕ) (inside : i < length (take n (drop start bytes))) where
  near : i < n
  near = omega (arith, length-take n (drop start bytes))

  there : start + i < length bytes
  there = omega (arith, length-take n (drop start bytes), length-drop start bytes)

  the_byte : get_or (take n (drop start bytes)) i 0 ≡ get_or bytes (start + i) 0
  the_byte = get_or-take n (drop start bytes) i 0 near ∙ get_or-drop start bytes i 0

  next : start + (i + 1) ≡ start + i + 1
  next = omega arith

  pub step_newline : (line : ℕ) → get_or (take n (drop start bytes)) i 0 ≡ 10 → line ≡ (place_after (take (start + i) bytes)).line → (line + 1 ≡ (place_after (take (start + (i + 1)) bytes)).line) × (1 ≡ (place_after (take (start + (i + 1)) bytes)).col)
  step_newline line is here =
      let is_newline : newline (get_or bytes (start + i) 0) ≡ true = ap newline (sym the_byte ∙ is) in (
        ap (λ (k : ℕ). k + 1) here ∙ sym (line_newline bytes (start + i) there is_newline) ∙ ap (λ (k : ℕ). (place_after (take k bytes)).line) (sym next),
        sym (col_newline bytes (start + i) there is_newline) ∙ ap (λ (k : ℕ). (place_after (take k bytes)).col) (sym next),
      )

  pub step_other : (line col : ℕ) → (get_or (take n (drop start bytes)) i 0 ≡ 10 → ⊥) → line ≡ (place_after (take (start + i) bytes)).line → col ≡ (place_after (take (start + i) bytes)).col → (line ≡ (place_after (take (start + (i + 1)) bytes)).line) × (col + 1 ≡ (place_after (take (start + (i + 1)) bytes)).col)
  step_other line col is_not line_here col_here =
      let no_newline : newline (get_or bytes (start + i) 0) ≡ false = ne_eqb _ 10 (λ (e : get_or bytes (start + i) 0 ≡ 10). is_not (the_byte ∙ e)) in (
        line_here ∙ sym (line_other bytes (start + i) there no_newline) ∙ ap (λ (k : ℕ). (place_after (take k bytes)).line) (sym next),
        ap (λ (k : ℕ). k + 1) col_here ∙ sym (col_other bytes (start + i) there no_newline) ∙ ap (λ (k : ℕ). (place_after (take k bytes)).col) (sym next),
      )

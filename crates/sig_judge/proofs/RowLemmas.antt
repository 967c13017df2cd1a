-- The instants of a trace file, line by line and word by word.
use Rattle.sig_judge.proofs.Common.{◌≡◌, ◌<◌, ◌+◌, ◌++◌, ◌⊎◌, ℕ, List, [], ◌∷◌, length, map, drop, get_or, Option, None, Some, sym, ap, ◌∙◌, subst, ⊎_elim, inl, inr, arith, append_assoc, length-append, drop_more, map-append, lines, Seen as SeenAt, Kind, Integer, AllGood, IsFirst, first_fault, Line, numbered, Word, judged_at, good_from_none, first_from_some, TraceAnswer, OutOfMemory, line_of, seen_of, cell_fault, cell_said, cells_fault, cells_said, row_judge, seen_said, text_fault}
use Rattle.sig_judge.specs.declared.trace.Seen.{Seen}

module _ (kinds : List Kind) (n : ℕ) (words : List Word) (word : Word) (behind : List Word) (lt : n < length kinds) (are : words ≡ word ∷ behind) where
  abbrev here : Kind
  here = get_or kinds n Integer

  -- behind a good word
  good_word : (number before after : ℕ) → cell_fault number before word.col (cell_said here word.text) ≡ None → after ≡ before + 1
      → cells_fault number after (drop (n + 1) kinds) behind ≡ cells_fault number before (drop n kinds) words
  good_word number before after good is =
      sym (ap (cells_fault number before (drop n kinds)) are
      ∙ ap (λ ks. cells_fault number before ks (word ∷ behind)) (drop_more kinds n Integer lt)
      ∙ ap (λ (f : Option TraceAnswer). elim f [ Some fault ↦ Some fault | None ↦ cells_fault number (before + 1) (drop (n + 1) kinds) behind ]) good
      ∙ ap (λ m. cells_fault number m (drop (n + 1) kinds) behind) (sym is))

  -- what the words so far say, with the next
  said_next : (cells : List Seen) (seen : Seen) → seen_said (cell_said here word.text) ≡ seen_of seen
      → map seen_of (cells ++ seen ∷ []) ++ cells_said (drop (n + 1) kinds) behind ≡ map seen_of cells ++ cells_said (drop n kinds) words
  said_next cells seen is =
      ap (λ (vs : List SeenAt). vs ++ cells_said (drop (n + 1) kinds) behind) (map-append seen_of cells (seen ∷ []))
      ∙ append_assoc (map seen_of cells) (seen_of seen ∷ []) (cells_said (drop (n + 1) kinds) behind)
      ∙ ap (λ v. map seen_of cells ++ v ∷ cells_said (drop (n + 1) kinds) behind) (sym is)
      ∙ sym (ap (λ ws. map seen_of cells ++ cells_said (drop n kinds) ws) are
      ∙ ap (λ ks. map seen_of cells ++ cells_said ks (word ∷ behind)) (drop_more kinds n Integer lt))

-- one more cell, which a good word says
module _ (kinds : List Kind) (cells new : List Seen) (seen : Seen) (words : List Word) (word : Word) (behind : List Word) (pushed : new ≡ cells ++ seen ∷ []) (lt : length cells < length kinds) (are : words ≡ word ∷ behind) where
  size : length new ≡ length cells + 1
  size = ap length pushed ∙ length-append cells (seen ∷ [])

  pub cells_on : (number first n place : ℕ) → n ≡ length cells → place ≡ length cells → cell_fault number (first + n) word.col (cell_said (get_or kinds place Integer) word.text) ≡ None
      → cells_fault number (first + length new) (drop (length new) kinds) behind ≡ cells_fault number (first + length cells) (drop (length cells) kinds) words
  cells_on number first n place same at good =
      let good_here : cell_fault number (first + length cells) word.col (cell_said (get_or kinds (length cells) Integer) word.text) ≡ None = subst (λ p. cell_fault number (first + length cells) word.col (cell_said (get_or kinds p Integer) word.text) ≡ None) at (subst (λ m. cell_fault number (first + m) word.col (cell_said (get_or kinds place Integer) word.text) ≡ None) same good) in
      ap (λ m. cells_fault number (first + length new) (drop m kinds) behind) size
      ∙ good_word kinds (length cells) words word behind lt are number (first + length cells) (first + length new) good_here (omega (arith, size))

  pub said_on : (place : ℕ) → place ≡ length cells → seen_said (cell_said (get_or kinds place Integer) word.text) ≡ seen_of seen
      → map seen_of new ++ cells_said (drop (length new) kinds) behind ≡ map seen_of cells ++ cells_said (drop (length cells) kinds) words
  said_on place at is =
      ap (λ m. map seen_of new ++ cells_said (drop m kinds) behind) size
      ∙ ap (λ (cs : List Seen). map seen_of cs ++ cells_said (drop (length cells + 1) kinds) behind) pushed
      ∙ said_next kinds (length cells) words word behind lt are cells seen (subst (λ p. seen_said (cell_said (get_or kinds p Integer) word.text) ≡ seen_of seen) at is)

-- the lines behind a line
module _ (kinds : List Kind) (rest line after : List ℕ) (number : ℕ) (first : lines rest ≡ line ∷ lines after) where
  numbered_first : numbered number (lines rest) ≡ line_of number line ∷ numbered (number + 1) (lines after)
  numbered_first = ap (numbered number) first

  -- at a wrong line
  pub wrong_line : (old : ℕ) (all : List Line) (fault : TraceAnswer) → (fault ≡ OutOfMemory) ⊎ (text_fault number old kinds line ≡ Some fault) → first_fault (row_judge kinds) old (numbered number (lines rest)) ≡ first_fault (row_judge kinds) 0 all → (fault ≡ OutOfMemory) ⊎ IsFirst (row_judge kinds) 0 all fault
  wrong_line old all fault why so_far = ⊎_elim
      (λ memory. inl memory)
      (λ wrong. inr (first_from_some (row_judge kinds) 0 all fault (sym so_far ∙ judged_at (row_judge kinds) old (line_of number line) (numbered (number + 1) (lines after)) (numbered number (lines rest)) fault numbered_first wrong)))
      why

-- behind the last line
pub all_good : (kinds : List Kind) (rest : List ℕ) (number before : ℕ) (all : List Line) → length rest ≡ 0 → first_fault (row_judge kinds) before (numbered number (lines rest)) ≡ first_fault (row_judge kinds) 0 all → AllGood (row_judge kinds) 0 all
all_good kinds [] number before all none judged = good_from_none (row_judge kinds) 0 all (sym judged)
all_good kinds (b ∷ rest) number before all none judged = absurd (omega arith)

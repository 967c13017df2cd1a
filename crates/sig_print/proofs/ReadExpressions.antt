-- The leaves of canonical words, their places left out, are those of the tree, its places left out:
-- lists, constants and expressions.
use Rattle.sig_print.proofs.Common.{◌≡◌, ℕ, zero, suc, ◌+◌, ◌<◌, ◌≤◌, ◌++◌, List, [], ◌∷◌, true, false, refl, sym, ap, ◌∙◌, subst, codes, Option, None, Some, inl, inr, ◌⊎◌, map, arith, ℤ, pos, neg_ℤ, nat_lt, if◌then◌else◌, option_to_list, option_map, flat_map, nat_tests, flat_map-append, Kind, Integer, TokenKind, Spaced, Constant, Int, Bool as BoolConstant, Param, UnOp, Not, BinOp, Default, Expression, Named, Truth, Unary, Binary, Delay, Cell, Terminal, Leaf, leaf, number, mark_terminal, word as word_terminal, truth_word, unary_terminal, binary_terminal, label_terminal, kind_terminal, terminal_of, default_level, mixed_level, delay_level, primary_level, operand_level, left_level, right_level, level_of, Limits, MayStandInside, operators, Each, Further, Separated, Listed, Between, IsConstant, IsInit, IsOptionalInit, Enclosed, Stands, IsBare, IsAtLevel, no_place, unplaced_constant, unplaced_init, unplaced_expression, further, separated, integer_words, constant_words, init_words, optional_init_words, bare_words, expression_words, mark, reserved, one, truth, unary_word, binary_word, kind_word, label}
use Rattle.std.proofs.Common.{Bool}
use Rattle.sig_print.proofs.SpelledProcesses.{inside_label}

-- the leaf of a token of this kind and text
abbrev pub leaf_in : TokenKind → List ℕ → List Leaf
leaf_in kind text = option_to_list (option_map (λ t. leaf t no_place) (terminal_of kind text))

-- the leaves of words
abbrev pub spoken : List Spaced → List Leaf
spoken words = flat_map (λ s. leaf_in s.word.kind s.word.text) words

pub spoken_append : (a b : List Spaced) → spoken (a ++ b) ≡ spoken a ++ spoken b
spoken_append a b = flat_map-append (λ s. leaf_in s.word.kind s.word.text) a b

-- the word is this terminal
abbrev pub Says : Spaced → Terminal → Type 0
Says s terminal = (words : List Spaced) → spoken (s ∷ words) ≡ leaf terminal no_place ∷ spoken words

pub unary_says : (op : UnOp) → Says (unary_word op) (unary_terminal op)
unary_says Not words = refl
unary_says _ words = refl

pub binary_says : (op : BinOp) → Says (binary_word op) (binary_terminal op)
binary_says Default words = refl
binary_says _ words = refl

pub truth_says : (holds : Bool) → Says (truth holds) (truth_word holds)
truth_says true words = refl
truth_says false words = refl

pub kind_says : (kind : Kind) → Says (kind_word kind) (kind_terminal kind)
kind_says Integer words = refl
kind_says _ words = refl

pub label_says : (text : List ℕ) → Says (label text) (label_terminal text)
label_says text words = ap (λ t. leaf (label_terminal t) no_place ∷ spoken words) (inside_label text)

module _ {A B : Type 0} (Was : A → List Leaf → Type 0) (Is : B → List Leaf → Type 0) (un : A → B) (words : A → List Spaced)
    (read : (x : A) (ls : List Leaf) → Was x ls → Is (un x) (spoken (words x))) where
  pub each_read : (xs : List A) (ls : List Leaf) → Each Was xs ls → Each Is (map un xs) (spoken (flat_map words xs))
  each_read [] ls h = refl
  each_read (x ∷ xs) ls (front, back, e, is, rest) =
      (spoken (words x), spoken (flat_map words xs), spoken_append (words x) (flat_map words xs), read x front is, each_read xs back rest)

  pub further_read : (terminal : Terminal) (separator : Spaced) → Says separator terminal → (xs : List A) (ls : List Leaf) → Further Was terminal xs ls → Further Is terminal (map un xs) (spoken (further words separator xs))
  further_read terminal separator says [] ls h = refl
  further_read terminal separator says (x ∷ xs) ls (at, front, back, e, is, rest) = (
    no_place,
    spoken (words x),
    spoken (further words separator xs),
    says (words x ++ further words separator xs) ∙ ap (λ l. leaf terminal no_place ∷ l) (spoken_append (words x) (further words separator xs)),
    read x front is,
    further_read terminal separator says xs back rest,
  )

  pub separated_read : (terminal : Terminal) (separator : Spaced) → Says separator terminal → (xs : List A) (ls : List Leaf) → Separated Was terminal xs ls → Separated Is terminal (map un xs) (spoken (separated words separator xs))
  separated_read terminal separator says [] ls h = absurd h
  separated_read terminal separator says (x ∷ xs) ls (front, back, e, is, rest) =
      (spoken (words x), spoken (further words separator xs), spoken_append (words x) (further words separator xs), read x front is, further_read terminal separator says xs back rest)

  pub listed_read : (terminal : Terminal) (separator : Spaced) → Says separator terminal → (xs : List A) (ls : List Leaf) → Listed Was terminal xs ls → Listed Is terminal (map un xs) (spoken (separated words separator xs))
  listed_read terminal separator says [] ls h = refl
  listed_read terminal separator says (x ∷ xs) ls h = separated_read terminal separator says (x ∷ xs) ls h

pub between_read : (opening closing : Terminal) (first last : Spaced) → Says first opening → Says last closing → (Is : List Leaf → Type 0) (words : List Spaced) → Is (spoken words)
    → Between opening closing Is (spoken (first ∷ (words ++ last ∷ [])))
between_read opening closing first last says_first says_last Is words is = (
  no_place,
  no_place,
  spoken words,
  says_first (words ++ last ∷ []) ∙ ap (λ l. leaf opening no_place ∷ l) (spoken_append words (last ∷ []) ∙ ap (λ l. spoken words ++ l) (says_last [])),
  is,
)

minus_read : (n : ℕ) (value : ℤ) → value ≡ neg_ℤ (pos n) → IsConstant (Int value no_place) (spoken (integer_words value))
minus_read zero value is = inl (0, is, ap (λ v. spoken (integer_words v)) is)
minus_read (suc n) value is = inr (suc n, no_place, is, ap (λ v. spoken (integer_words v)) is)

pub constant_read : (constant : Constant) (ls : List Leaf) → IsConstant constant ls → IsConstant (unplaced_constant constant) (spoken (constant_words constant))
constant_read (Int value at) ls (inl (n, is, e)) = inl (n, is, ap (λ v. spoken (integer_words v)) is)
constant_read (Int value at) ls (inr (n, digits, is, e)) = minus_read n value is
constant_read (BoolConstant holds at) ls e = truth_says holds []
constant_read (Param n) ls e = refl

pub init_read : (constant : Constant) (ls : List Leaf) → IsInit constant ls → IsInit (unplaced_constant constant) (spoken (init_words constant))
init_read constant ls (at, rest, e, is) = (no_place, spoken (constant_words constant), refl, constant_read constant rest is)

pub optional_read : (init : Option Constant) (ls : List Leaf) → IsOptionalInit init ls → IsOptionalInit (unplaced_init init) (spoken (optional_init_words init))
optional_read None ls h = refl
optional_read (Some constant) ls h = init_read constant ls h

pub level_unplaced : (e : Expression) → level_of (unplaced_expression e) ≡ level_of e
level_unplaced (Named n) = refl
level_unplaced _ = refl

pub operators_unplaced : (e : Expression) → operators (unplaced_expression e) ≡ operators e
operators_unplaced (Unary op operand at) = ap (λ n. 1 + n) (operators_unplaced operand)
operators_unplaced (Binary op left right at) = omega (arith, operators_unplaced left, operators_unplaced right)
operators_unplaced (Delay operand init at) = ap (λ n. 1 + n) (operators_unplaced operand)
operators_unplaced (Cell operand held init at) = omega (arith, operators_unplaced operand, operators_unplaced held)
operators_unplaced _ = refl

module _ (limits : Limits) where
  may_less : (depth d : ℕ) → depth ≤ d → MayStandInside limits d → MayStandInside limits depth
  may_less depth d le may = λ yes. let k = may yes in omega arith

  -- what stands in the parentheses
  opened : (level : ℕ) (Is : ℕ → List Leaf → Type 0) (parentheses wanted depth : ℕ) (ls : List Leaf) → Enclosed limits level Is parentheses wanted depth ls
      → (d : ℕ) × (inside : List Leaf) × (depth ≤ d) × ((wanted ≤ level) ⊎ ((suc depth ≤ d) × MayStandInside limits depth)) × Is d inside
  opened level Is zero wanted depth ls h = (depth, ls, omega arith, inl h.0, h.1)
  opened level Is (suc n) wanted depth ls h =
      let r = opened level Is n default_level (suc depth) h.1.2 h.1.4 in
      (r.0, r.1, omega (arith, r.2), inr (r.2, h.0), r.4)

  fit : (level wanted depth d : ℕ) (words : List Spaced) (Is : ℕ → List Leaf → Type 0) → depth ≤ d → ((wanted ≤ level) ⊎ ((suc depth ≤ d) × MayStandInside limits depth))
      → ((n : ℕ) → n ≤ d → Is n (spoken words))
      → (looser : Bool) → nat_lt level wanted ≡ looser → Stands limits level Is wanted depth (spoken (if looser then mark (codes "(") ∷ (words ++ mark (codes ")") ∷ []) else words))
  fit level wanted depth d words Is le (inl tight) bare true e = let below : level < wanted = grind (arith, nat_tests) in absurd (omega arith)
  fit level wanted depth d words Is le (inr (within, may)) bare true e = (
    1,
    (
      may,
      between_read (mark_terminal (codes "(")) (mark_terminal (codes ")")) (mark (codes "(")) (mark (codes ")")) (λ ws. refl) (λ ws. refl)
          (λ ls. (default_level ≤ level) × Is (suc depth) ls) words (omega arith, bare (suc depth) within),
    ),
  )
  fit level wanted depth d words Is le cases bare false e = (0, (grind (arith, nat_tests), bare depth le))

  stands_read : (e : Expression) → ((n d : ℕ) (ls : List Leaf) → n ≤ d → IsBare limits e d ls → IsBare limits (unplaced_expression e) n (spoken (bare_words e)))
      → (wanted depth d : ℕ) (ls : List Leaf) → depth ≤ d → IsAtLevel limits wanted d e ls → IsAtLevel limits wanted depth (unplaced_expression e) (spoken (expression_words wanted e))
  stands_read e bare wanted depth d ls le h =
      let o = opened (level_of e) (IsBare limits e) h.0 wanted d ls h.1 in
      let cases : (wanted ≤ level_of e) ⊎ ((suc depth ≤ o.0) × MayStandInside limits depth) =
      elim o.3 [ inl tight ↦ inl tight | inr f ↦ inr (omega (arith, f.0, le), may_less depth d le f.1) ] in
      subst (λ level. Stands limits level (IsBare limits (unplaced_expression e)) wanted depth (spoken (expression_words wanted e))) (sym (level_unplaced e))
      (fit (level_of e) wanted depth o.0 (bare_words e) (IsBare limits (unplaced_expression e)) (omega (arith, o.2, le)) cases
      (λ n small. bare n o.0 o.1 small o.4) (nat_lt (level_of e) wanted) refl)

  bare_read : (e : Expression) (depth d : ℕ) (ls : List Leaf) → depth ≤ d → IsBare limits e d ls → IsBare limits (unplaced_expression e) depth (spoken (bare_words e))
  bare_read (Truth holds at) depth d ls le h = truth_says holds []
  bare_read (Unary op operand at) depth d ls le (may, rest, e, h) = (
    may_less depth d le may,
    spoken (expression_words (operand_level op) operand),
    unary_says op (expression_words (operand_level op) operand),
    stands_read operand (λ n k l small is. bare_read operand n k l small is) (operand_level op) (suc depth) (suc d) rest (omega (arith, le)) h,
  )
  bare_read (Binary op left right at) depth d ls le (front, back, e, h, k) = (
    spoken (expression_words (left_level op) left),
    spoken (expression_words (right_level op) right),
    spoken_append (expression_words (left_level op) left) (binary_word op ∷ expression_words (right_level op) right)
        ∙ ap (λ l. spoken (expression_words (left_level op) left) ++ l) (binary_says op (expression_words (right_level op) right)),
    stands_read left (λ n k l small is. bare_read left n k l small is) (left_level op) depth d front le h,
    stands_read right (λ n k l small is. bare_read right n k l small is) (right_level op) depth d back le k,
  )
  bare_read (Delay operand init at) depth d ls le (front, middle, back, e, h, k, i) = (
    spoken (expression_words delay_level operand),
    leaf (number 1) no_place ∷ [],
    spoken (optional_init_words init),
    spoken_append (expression_words delay_level operand) (mark (codes "$") ∷ one ∷ optional_init_words init),
    stands_read operand (λ n k l small is. bare_read operand n k l small is) delay_level depth d front le h,
    inr (no_place, refl),
    optional_read init back i,
  )
  bare_read (Cell operand held init at) depth d ls le (front, middle, back, e, h, k, i) = (
    spoken (expression_words mixed_level operand),
    spoken (expression_words primary_level held),
    spoken (init_words init),
    spoken_append (expression_words mixed_level operand) (reserved (codes "cell") ∷ (expression_words primary_level held ++ init_words init))
        ∙ ap (λ l. spoken (expression_words mixed_level operand) ++ leaf (word_terminal (codes "cell")) no_place ∷ l) (spoken_append (expression_words primary_level held) (init_words init)),
    stands_read operand (λ n k l small is. bare_read operand n k l small is) mixed_level depth d front le h,
    stands_read held (λ n k l small is. bare_read held n k l small is) primary_level depth d middle le k,
    init_read init back i,
  )
  bare_read _ depth d ls le h = refl

  pub expression_read : (wanted depth : ℕ) (e : Expression) (ls : List Leaf) → IsAtLevel limits wanted depth e ls → IsAtLevel limits wanted depth (unplaced_expression e) (spoken (expression_words wanted e))
  expression_read wanted depth e ls h = stands_read e (λ n k l small is. bare_read e n k l small is) wanted depth depth ls (omega arith) h

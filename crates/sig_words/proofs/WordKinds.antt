-- What a word is to `clap` and to us.
use Rattle.sig_words.proofs.Common.{◌≡◌, ℕ, suc, ◌+◌, Bool, true, false, List, [], ◌∷◌, ◌++◌, length, take, drop, refl, sym, ap, ◌∙◌, cond, arith, Option, Some, None, eqb, subst, codes, slice_get, position_or_len, IsUtf8, bytes_eq, chars, encode_utf8_all, false≢true, nat_tests, append-nil, bytes_eq-Decides, IsCharBoundary-after_ascii, IsUtf8-drop, encodes-chars, bundle_step_fault, flags_fault, long_fault, other_fault, has_byte, long_of, name_and_value, short_of, Held, Row, Rule, Text, arg_by_long, UnknownArgument, Word, is_plain, name_of, OptionName, Workers, Capacity, Instants}
use Rattle.sig_words.proofs.Steps.{option_said}
use Rattle.sig_words.proofs.Built.{held, rules, top}
use Rattle.sig_words.proofs.Complete.{not_empty}
use Rattle.sig_words.proofs.Sound.{option_said_word, option_word}

-- what stands behind a name in its word
abbrev pub joined : Option Word → Word
joined None = []
joined (Some value) = 61 ∷ value

abbrev pub flag_word : Option Word → Word
flag_word value = codes "--pace" ++ joined value

-- `--`; a plain word; an option; the flag, maybe with a value; and what is none of these, which `clap` refuses
pub data WordKind (word : Word) : Type 0 where
  closing : word ≡ codes "--" → WordKind word
  plain_word : is_plain word ≡ true → bytes_eq word (codes "--") ≡ false → long_of word ≡ None → short_of word ≡ None → WordKind word
  option : (name : OptionName) → (value : Option Word) → word ≡ option_word name value → WordKind word
  flag : (value : Option Word) → word ≡ flag_word value → WordKind word
  strange : bytes_eq word (codes "--") ≡ false → is_plain word ≡ false → bytes_eq word (codes "--pace") ≡ false → option_said word ≡ None
      → ((pending : Option (Text × List Text)) → (rows : List Row) → other_fault top None word (held pending rows) ≡ UnknownArgument ∷ []) → WordKind word

-- ---- the name and the value

abbrev is_equals : ℕ → Bool
is_equals x = eqb x 61

whole_more : (c : ℕ) (cs : Word) (n : ℕ) (b : Bool) → cs ≡ take n cs ++ joined (cond b (Some (drop (n + 1) cs)) None)
    → c ∷ cs ≡ take (1 + n) (c ∷ cs) ++ joined (cond b (Some (drop ((1 + n) + 1) (c ∷ cs))) None)
whole_more c cs n b is =
    let one : 1 + n ≡ suc n = omega arith in
    let two : suc n + 1 ≡ suc (n + 1) = omega arith in
    rw (one, two) (ap (λ (w : Word). c ∷ w) is)

-- both make up the text
whole : (cs : Word) → cs ≡ (name_and_value cs).0 ++ joined (name_and_value cs).1
whole [] = refl
whole (c ∷ cs) = at_test (eqb c 61) refl (whole cs)
  where
    at_test : (b : Bool) → eqb c 61 ≡ b → cs ≡ (name_and_value cs).0 ++ joined (name_and_value cs).1
        → c ∷ cs ≡ (name_and_value (c ∷ cs)).0 ++ joined (name_and_value (c ∷ cs)).1
    at_test true is rest =
        let same : c ≡ 61 = grind (arith, nat_tests) in
        rw same refl
    at_test false is rest = rw is (whole_more c cs (position_or_len is_equals cs) (has_byte 61 cs) rest)

-- the name of an option's word
named : (name : OptionName) (value : Option Word) → name_and_value (name_of name ++ joined value) ≡ (name_of name, value)
named Workers None = refl
named Workers (Some value) = refl
named Capacity None = refl
named Capacity (Some value) = refl
named Instants None = refl
named Instants (Some value) = refl

-- ---- words that begin with one `-`

no_chars : (c : ℕ) (cs : Word) → IsUtf8 (45 ∷ c ∷ cs) → slice_get (chars (c ∷ cs)) 0 ≡ None → ⊥
no_chars c cs text none =
    let cut = IsCharBoundary-after_ascii (45 ∷ c ∷ cs) 0 text (omega arith) (omega arith) in
    let rest : IsUtf8 (c ∷ cs) = IsUtf8-drop (45 ∷ c ∷ cs) 1 text cut in
    at (chars (c ∷ cs)) refl none (encodes-chars (c ∷ cs) rest)
  where
    at : (xs : List ℕ) → chars (c ∷ cs) ≡ xs → slice_get xs 0 ≡ None → encode_utf8_all (chars (c ∷ cs)) ≡ c ∷ cs → ⊥
    at [] is none spells =
        let same : encode_utf8_all [] ≡ c ∷ cs = ap encode_utf8_all (sym is) ∙ spells in
        let sizes : 0 ≡ length (c ∷ cs) = ap (λ (w : Word). length w) same in
        omega arith
    at (x ∷ xs) is none spells = cc

short_fault_is : (c : ℕ) (cs : Word) → IsUtf8 (45 ∷ c ∷ cs) → (h : Held)
    → flags_fault rules false (length (c ∷ cs)) (c ∷ cs) 0 h ≡ UnknownArgument ∷ []
unfolding flags_fault
short_fault_is c cs text h = at (slice_get (chars (c ∷ cs)) 0) refl
  where
    at : (o : Option ℕ) → slice_get (chars (c ∷ cs)) 0 ≡ o
        → bundle_step_fault rules false o (c ∷ cs) 0 h (flags_fault rules false (length cs)) ≡ UnknownArgument ∷ []
    at None is = absurd (no_chars c cs text is)
    at (Some x) is = refl

byte_apart : (c d : ℕ) → eqb c d ≡ false → eqb d c ≡ false
byte_apart c d is = at (eqb d c) refl
  where
    at : (b : Bool) → eqb d c ≡ b → b ≡ false
    at false other = refl
    at true other = let same : c ≡ d = grind (arith, nat_tests) in let both : eqb c d ≡ true = grind (arith, nat_tests) in sym both ∙ is

one_minus : (c : ℕ) (cs : Word) → IsUtf8 (45 ∷ c ∷ cs) → eqb c 45 ≡ false → WordKind (45 ∷ c ∷ cs)
one_minus c cs text other =
    let back : eqb 45 c ≡ false = byte_apart c 45 other in
    strange (rw other refl) (rw (not_empty cs c) refl) (rw other refl) (rw back refl)
    (λ pending rows. rw (other, other) (short_fault_is c cs text (held pending rows)))

-- ---- words that begin with two

unknown_long : (name : Word) → bytes_eq (codes "workers") name ≡ false → bytes_eq (codes "capacity") name ≡ false
    → bytes_eq (codes "instants") name ≡ false → bytes_eq (codes "pace") name ≡ false → arg_by_long rules name ≡ None
unknown_long name workers capacity instants pace = rw (workers, capacity, instants, pace) refl

-- a text that is an option with its value, or the flag with one
option_behind : (cs : Word) (name : OptionName) (value : Option Word) → (name_and_value cs).1 ≡ value → bytes_eq (name_of name) (name_and_value cs).0 ≡ true
    → 45 ∷ 45 ∷ cs ≡ option_word name value
option_behind cs name value is same = at value is
  where
    front : name_of name ≡ (name_and_value cs).0
    front = (bytes_eq-Decides (name_of name) (name_and_value cs).0).0 same

    all : cs ≡ name_of name ++ joined (name_and_value cs).1
    all = whole cs ∙ ap (λ (w : Word). w ++ joined (name_and_value cs).1) (sym front)

    at : (v : Option Word) → (name_and_value cs).1 ≡ v → 45 ∷ 45 ∷ cs ≡ option_word name v
    at None is = ap (λ (w : Word). 45 ∷ 45 ∷ w) (all ∙ ap (λ (v : Option Word). name_of name ++ joined v) is ∙ append-nil (name_of name))
    at (Some v) is = ap (λ (w : Word). 45 ∷ 45 ∷ w) (all ∙ ap (λ (v : Option Word). name_of name ++ joined v) is)

flag_behind : (cs : Word) → bytes_eq (codes "pace") (name_and_value cs).0 ≡ true → 45 ∷ 45 ∷ cs ≡ flag_word (name_and_value cs).1
flag_behind cs same =
    let front : codes "pace" ≡ (name_and_value cs).0 = (bytes_eq-Decides (codes "pace") (name_and_value cs).0).0 same in
    ap (λ (w : Word). 45 ∷ 45 ∷ w) (whole cs ∙ ap (λ (w : Word). w ++ joined (name_and_value cs).1) (sym front))

-- one that is neither
no_flag : (cs : Word) → bytes_eq (codes "pace") (name_and_value cs).0 ≡ false → bytes_eq (45 ∷ 45 ∷ cs) (codes "--pace") ≡ false
no_flag cs lacks = at (bytes_eq cs (codes "pace")) refl
  where
    at : (b : Bool) → bytes_eq cs (codes "pace") ≡ b → b ≡ false
    at false is = refl
    at true is =
        let same : cs ≡ codes "pace" = (bytes_eq-Decides cs (codes "pace")).0 is in
        rw same at lacks

after_dashes : (cs ds : Word) → 45 ∷ 45 ∷ cs ≡ 45 ∷ 45 ∷ ds → cs ≡ ds
after_dashes cs ds same = cc

option_rest : (cs : Word) (name : OptionName) (value : Option Word) → 45 ∷ 45 ∷ cs ≡ option_word name value → cs ≡ name_of name ++ joined value
option_rest cs name None same = after_dashes cs (name_of name) same ∙ sym (append-nil (name_of name))
option_rest cs name (Some value) same = after_dashes cs (name_of name ++ (61 ∷ value)) same

no_option : (cs : Word) → bytes_eq (codes "workers") (name_and_value cs).0 ≡ false → bytes_eq (codes "capacity") (name_and_value cs).0 ≡ false
    → bytes_eq (codes "instants") (name_and_value cs).0 ≡ false → option_said (45 ∷ 45 ∷ cs) ≡ None
no_option cs workers capacity instants = at (option_said (45 ∷ 45 ∷ cs)) refl
  where
    lacks : (name : OptionName) → bytes_eq (name_of name) (name_and_value cs).0 ≡ false
    lacks Workers = workers
    lacks Capacity = capacity
    lacks Instants = instants

    at : (o : Option (OptionName × Option Word)) → option_said (45 ∷ 45 ∷ cs) ≡ o → o ≡ None
    at None is = refl
    at (Some p) is =
        let rest = option_rest cs p.0 p.1 (option_said_word (45 ∷ 45 ∷ cs) p.0 p.1 is) in
        let name : (name_and_value cs).0 ≡ name_of p.0 = ap (λ (w : Word). (name_and_value w).0) rest ∙ ap (λ (q : Word × Option Word). q.0) (named p.0 p.1) in
        let same : bytes_eq (name_of p.0) (name_and_value cs).0 ≡ true = (bytes_eq-Decides (name_of p.0) (name_and_value cs).0).1 (sym name) in
        absurd (false≢true (sym (lacks p.0) ∙ same))

strange_long : (c : ℕ) (cs : Word) → bytes_eq (codes "workers") (name_and_value (c ∷ cs)).0 ≡ false → bytes_eq (codes "capacity") (name_and_value (c ∷ cs)).0 ≡ false
    → bytes_eq (codes "instants") (name_and_value (c ∷ cs)).0 ≡ false → bytes_eq (codes "pace") (name_and_value (c ∷ cs)).0 ≡ false
    → WordKind (45 ∷ 45 ∷ c ∷ cs)
strange_long c cs workers capacity instants pace =
    strange refl (rw (not_empty (c ∷ cs) 45) refl) (no_flag (c ∷ cs) pace) (no_option (c ∷ cs) workers capacity instants)
    (λ pending rows. ap (λ (o : Option Rule). long_fault rules false o (name_and_value (c ∷ cs)).1 (held pending rows))
    (unknown_long (name_and_value (c ∷ cs)).0 workers capacity instants pace))

two_minus : (c : ℕ) (cs : Word) → WordKind (45 ∷ 45 ∷ c ∷ cs)
two_minus c cs = at_workers (bytes_eq (codes "workers") (name_and_value (c ∷ cs)).0) refl
  where
    at_pace : bytes_eq (codes "workers") (name_and_value (c ∷ cs)).0 ≡ false → bytes_eq (codes "capacity") (name_and_value (c ∷ cs)).0 ≡ false
        → bytes_eq (codes "instants") (name_and_value (c ∷ cs)).0 ≡ false
        → (b : Bool) → bytes_eq (codes "pace") (name_and_value (c ∷ cs)).0 ≡ b → WordKind (45 ∷ 45 ∷ c ∷ cs)
    at_pace workers capacity instants true same = flag _ (flag_behind (c ∷ cs) same)
    at_pace workers capacity instants false same = strange_long c cs workers capacity instants same

    at_instants : bytes_eq (codes "workers") (name_and_value (c ∷ cs)).0 ≡ false → bytes_eq (codes "capacity") (name_and_value (c ∷ cs)).0 ≡ false
        → (b : Bool) → bytes_eq (codes "instants") (name_and_value (c ∷ cs)).0 ≡ b → WordKind (45 ∷ 45 ∷ c ∷ cs)
    at_instants workers capacity true same = option Instants _ (option_behind (c ∷ cs) Instants _ refl same)
    at_instants workers capacity false same = at_pace workers capacity same (bytes_eq (codes "pace") (name_and_value (c ∷ cs)).0) refl

    at_capacity : bytes_eq (codes "workers") (name_and_value (c ∷ cs)).0 ≡ false
        → (b : Bool) → bytes_eq (codes "capacity") (name_and_value (c ∷ cs)).0 ≡ b → WordKind (45 ∷ 45 ∷ c ∷ cs)
    at_capacity workers true same = option Capacity _ (option_behind (c ∷ cs) Capacity _ refl same)
    at_capacity workers false same = at_instants workers same (bytes_eq (codes "instants") (name_and_value (c ∷ cs)).0) refl

    at_workers : (b : Bool) → bytes_eq (codes "workers") (name_and_value (c ∷ cs)).0 ≡ b → WordKind (45 ∷ 45 ∷ c ∷ cs)
    at_workers true same = option Workers _ (option_behind (c ∷ cs) Workers _ refl same)
    at_workers false same = at_capacity same (bytes_eq (codes "capacity") (name_and_value (c ∷ cs)).0) refl

-- ---- every word is one of these

from_minus : (cs : Word) → IsUtf8 (45 ∷ cs) → WordKind (45 ∷ cs)
from_minus [] text = plain_word refl refl refl refl
from_minus (c ∷ cs) text = at_test (eqb c 45) refl
  where
    two : (ds : Word) → WordKind (45 ∷ 45 ∷ ds)
    two [] = closing refl
    two (d ∷ ds) = two_minus d ds

    at_test : (b : Bool) → eqb c 45 ≡ b → WordKind (45 ∷ c ∷ cs)
    at_test false other = one_minus c cs text other
    at_test true is =
        let same : c ≡ 45 = grind (arith, nat_tests) in
        subst (λ (x : ℕ). WordKind (45 ∷ x ∷ cs)) (sym same) (two cs)

pub word_kind : (word : Word) → IsUtf8 word → WordKind word
word_kind [] text = plain_word refl refl refl refl
word_kind (c ∷ cs) text = at_test (eqb c 45) refl
  where
    at_test : (b : Bool) → eqb c 45 ≡ b → WordKind (c ∷ cs)
    at_test false other = plain_word (rw other refl) (rw other refl) (rw other refl) (rw other refl)
    at_test true is =
        let same : c ≡ 45 = grind (arith, nat_tests) in
        subst (λ (x : ℕ). WordKind (x ∷ cs)) (sym same) (from_minus cs (subst (λ (x : ℕ). IsUtf8 (x ∷ cs)) same text))

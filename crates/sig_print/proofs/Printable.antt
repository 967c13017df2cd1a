-- Words that are printable, and leaves whose terminals are.
use Rattle.sig_print.proofs.Common.{◌≡◌, ℕ, ◌≤◌, ◌<◌, ◌^◌, ◌++◌, List, [], ◌∷◌, true, false, refl, sym, subst, codes, lit<, lit≤, length, get_or, arith, if◌then◌else◌, nat_lt, is_ascii_digit, IsInRange, nat_tests, decimal_nonempty, digits_decimal, digits_value-decimal, get_or_default, All-cons, All-nil, numerals_by_value, tells_by_index, AllByRecursion, AllPass, Kind, Integer, Boolean, Event, is_label_byte, IsMark, IsWord, greatest_number, Spaced, IsPrintable, Spells, Word, Mark, UnOp, Not, Neg, UnaryWhen, Clock, BinOp, Default, When, Plus, Meet, Less, Or, Xor, And, Eq, Ne, Lt, Le, Gt, Ge, Add, Sub, Mul, Div, Mod, Terminal, number, Leaf, fitted, after_blank, on_new_line, mark as mark_of, reserved, number_of, label as label_of, truth, kind_word, unary_word, binary_word, one}
use Rattle.std.proofs.Common.{Bool}
use Rattle.sig_lex.specs.declared.token.TokenKind.TheVariants.{Name}
use Rattle.sig_tree.specs.Terminals.{name, label}

-- all the words are printable
abbrev pub ArePrintable : List Spaced → Type 0
ArePrintable words = AllByRecursion IsPrintable words

pub both : (a b : List Spaced) → ArePrintable a → ArePrintable b → ArePrintable (a ++ b)
both [] b first second = second
both (s ∷ a) b (here, rest) second = (here, both a b rest second)

-- the terminal is spelled as a token
abbrev pub IsGood : Terminal → Type 0
IsGood (name text) = Spells Name text
IsGood (number value) = value ≤ greatest_number
IsGood (label text) = AllPass is_label_byte text
IsGood _ = Unit {0}

abbrev pub AreGood : List Leaf → Type 0
AreGood [] = Unit {0}
AreGood (l ∷ ls) = IsGood l.terminal × AreGood ls

pub front_good : (a b : List Leaf) → AreGood (a ++ b) → AreGood a
front_good [] b good = tt
front_good (l ∷ a) b good = (good.0, front_good a b good.1)

pub back_good : (a b : List Leaf) → AreGood (a ++ b) → AreGood b
back_good [] b good = good
back_good (l ∷ a) b good = back_good a b good.1

pub a_mark : (text : List ℕ) → IsMark text → IsPrintable (mark_of text)
a_mark text is = record { blank = refl; spelled = is }

pub a_line_mark : (text : List ℕ) → IsMark text → IsPrintable (on_new_line Mark text)
a_line_mark text is = record { blank = refl; spelled = is }

pub a_word : (text : List ℕ) → IsWord text → IsPrintable (reserved text)
a_word text is = record { blank = refl; spelled = is }

pub a_line_word : (text : List ℕ) → IsWord text → IsPrintable (on_new_line Word text)
a_line_word text is = record { blank = refl; spelled = is }

pub opens : IsPrintable (mark_of (codes "("))
opens = a_mark _ (3, lit< tt, refl)

pub closes : IsPrintable (mark_of (codes ")"))
closes = a_mark _ (4, lit< tt, refl)

pub opens_brace : IsPrintable (mark_of (codes "{"))
opens_brace = a_mark _ (5, lit< tt, refl)

pub closes_brace : IsPrintable (mark_of (codes "}"))
closes_brace = a_mark _ (6, lit< tt, refl)

pub comma : IsPrintable (mark_of (codes ","))
comma = a_mark _ (7, lit< tt, refl)

pub semicolon : IsPrintable (mark_of (codes ";"))
semicolon = a_mark _ (8, lit< tt, refl)

pub asks : IsPrintable (mark_of (codes "?"))
asks = a_mark _ (9, lit< tt, refl)

pub answers : IsPrintable (mark_of (codes "!"))
answers = a_mark _ (10, lit< tt, refl)

pub defines : IsPrintable (mark_of (codes ":="))
defines = a_mark _ (11, lit< tt, refl)

pub same : IsPrintable (mark_of (codes "^="))
same = a_mark _ (12, lit< tt, refl)

pub dollar : IsPrintable (mark_of (codes "$"))
dollar = a_mark _ (17, lit< tt, refl)

pub equals : IsPrintable (mark_of (codes "="))
equals = a_mark _ (18, lit< tt, refl)

pub minus : IsPrintable (mark_of (codes "-"))
minus = a_mark _ (25, lit< tt, refl)

pub opens_body : IsPrintable (on_new_line Mark (codes "(|"))
opens_body = a_line_mark _ (0, lit< tt, refl)

pub closes_body : IsPrintable (on_new_line Mark (codes "|)"))
closes_body = a_line_mark _ (1, lit< tt, refl)

pub bar : IsPrintable (on_new_line Mark (codes "|"))
bar = a_line_mark _ (2, lit< tt, refl)

pub process_good : IsPrintable (on_new_line Word (codes "process"))
process_good = a_line_word _ (0, lit< tt, refl)

pub where_good : IsPrintable (on_new_line Word (codes "where"))
where_good = a_line_word _ (1, lit< tt, refl)

pub first_pragmas : IsPrintable (on_new_line Word (codes "pragmas"))
first_pragmas = a_line_word _ (17, lit< tt, refl)

pub last_pragmas : IsPrintable (reserved (codes "pragmas"))
last_pragmas = a_word _ (17, lit< tt, refl)

pub end_good : IsPrintable (reserved (codes "end"))
end_good = a_word _ (2, lit< tt, refl)

pub init_good : IsPrintable (reserved (codes "init"))
init_good = a_word _ (6, lit< tt, refl)

pub cell_good : IsPrintable (reserved (codes "cell"))
cell_good = a_word _ (9, lit< tt, refl)

pub kind_good : (kind : Kind) → IsPrintable (kind_word kind)
kind_good Integer = a_word _ (3, lit< tt, refl)
kind_good Boolean = a_word _ (4, lit< tt, refl)
kind_good Event = a_word _ (5, lit< tt, refl)

pub truth_good : (holds : Bool) → IsPrintable (truth holds)
truth_good true = a_word _ (15, lit< tt, refl)
truth_good false = a_word _ (16, lit< tt, refl)

pub unary_good : (op : UnOp) → IsPrintable (unary_word op)
unary_good Not = a_word _ (10, lit< tt, refl)
unary_good Neg = a_mark _ (25, lit< tt, refl)
unary_good UnaryWhen = a_word _ (7, lit< tt, refl)
unary_good Clock = a_mark _ (16, lit< tt, refl)

pub binary_good : (op : BinOp) → IsPrintable (binary_word op)
binary_good Default = a_word _ (8, lit< tt, refl)
binary_good When = a_word _ (7, lit< tt, refl)
binary_good Plus = a_mark _ (13, lit< tt, refl)
binary_good Meet = a_mark _ (14, lit< tt, refl)
binary_good Less = a_mark _ (15, lit< tt, refl)
binary_good Or = a_word _ (12, lit< tt, refl)
binary_good Xor = a_word _ (13, lit< tt, refl)
binary_good And = a_word _ (11, lit< tt, refl)
binary_good Eq = a_mark _ (18, lit< tt, refl)
binary_good Ne = a_mark _ (19, lit< tt, refl)
binary_good Lt = a_mark _ (20, lit< tt, refl)
binary_good Le = a_mark _ (21, lit< tt, refl)
binary_good Gt = a_mark _ (22, lit< tt, refl)
binary_good Ge = a_mark _ (23, lit< tt, refl)
binary_good Add = a_mark _ (24, lit< tt, refl)
binary_good Sub = a_mark _ (25, lit< tt, refl)
binary_good Mul = a_mark _ (26, lit< tt, refl)
binary_good Div = a_mark _ (27, lit< tt, refl)
binary_good Mod = a_word _ (14, lit< tt, refl)

pub name_good : (text : List ℕ) → Spells Name text → IsPrintable (after_blank Name text)
name_good text spells = record { blank = refl; spelled = spells }

pub label_good : (text : List ℕ) → AllPass is_label_byte text → IsPrintable (label_of text)
label_good text inside = record { blank = refl; spelled = record { inside = text; quoted = refl; label_bytes = inside } }

in_range_true : (c : ℕ) → IsInRange 48 57 c → is_ascii_digit c ≡ true
in_range_true c h = grind (arith, nat_tests)

digits_pass : (ds : List ℕ) → ((i : ℕ) → i < length ds → IsInRange 48 57 (get_or ds i 0)) → AllPass is_ascii_digit ds
digits_pass ds h k d lt = in_range_true _ (subst (IsInRange 48 57) (get_or_default ds k 0 d lt) (h k lt))

pub number_good : (value : ℕ) → value ≤ greatest_number → IsPrintable (number_of value)
number_good value small =
    let fits : value < 2 ^ 64 = omega arith in
    let own = numerals_by_value (λ ds. (i : ℕ) → i < length ds → IsInRange 48 57 (get_or ds i 0)) tells_by_index in
    record {
      blank = refl;
      spelled = record {
        some = decimal_nonempty value fits;
        digits = digits_pass _ (digits_decimal own value fits);
        value_is = sym (digits_value-decimal own value fits);
        not_above = small;
      };
    }

pub one_good : IsPrintable one
one_good = record { blank = refl; spelled = record { some = lit< tt; digits = All-cons (λ c. is_ascii_digit c ≡ true) 49 [] refl (All-nil (λ c. is_ascii_digit c ≡ true)); value_is = refl; not_above = lit≤ tt } }

fit : (looser : Bool) (words : List Spaced) → ArePrintable words → ArePrintable (if looser then mark_of (codes "(") ∷ (words ++ mark_of (codes ")") ∷ []) else words)
fit true words good = (opens, both words _ good (closes, tt))
fit false words good = good

pub fitted_good : (wanted level : ℕ) (words : List Spaced) → ArePrintable words → ArePrintable (fitted wanted level words)
fitted_good wanted level words good = fit (nat_lt level wanted) words good

-- The words of a printed text, each with the blank byte that stands before it.
use Rattle.sig_print.specs.Prelude.{ℕ, List, [], codes, decimal, Kind, Integer, Boolean, Event, TokenKind, Name, Word, Number, Label, Mark, Spaced, TreeName, UnOp, Not, Neg, UnaryWhen, Clock, BinOp, Default, When, Plus, Meet, Less, Or, Xor, And, Eq, Ne, Lt, Le, Gt, Ge, Add, Sub, Mul, Div, Mod}
use Rattle.std.specs.Prelude.{◌++◌, ◌∷◌, if◌then◌else◌, Bool}

-- a word of this kind after a blank, and at the beginning of a line
abbrev pub after_blank : TokenKind → List ℕ → Spaced
after_blank kind text = record { blank = 32; word = record { kind = kind; text = text } }

abbrev pub on_new_line : TokenKind → List ℕ → Spaced
on_new_line kind text = record { blank = 10; word = record { kind = kind; text = text } }

abbrev pub mark : List ℕ → Spaced
mark text = after_blank Mark text

abbrev pub reserved : List ℕ → Spaced
reserved text = after_blank Word text

abbrev pub name : TreeName → Spaced
name n = after_blank Name n.text

abbrev pub number : ℕ → Spaced
number value = after_blank (Number value) (decimal value)

-- the 1 of a delay
abbrev pub one : Spaced
one = after_blank (Number 1) (codes "1")

abbrev pub label : List ℕ → Spaced
label text = after_blank Label (34 ∷ text ++ 34 ∷ [])

abbrev pub truth : Bool → Spaced
truth holds = reserved (if holds then codes "true" else codes "false")

abbrev pub kind_text : Kind → List ℕ
kind_text Integer = codes "integer"
kind_text Boolean = codes "boolean"
kind_text Event = codes "event"

abbrev pub kind_word : Kind → Spaced
kind_word kind = reserved (kind_text kind)

abbrev pub unary_kind : UnOp → TokenKind
unary_kind Not = Word
unary_kind Neg = Mark
unary_kind UnaryWhen = Word
unary_kind Clock = Mark

abbrev pub unary_text : UnOp → List ℕ
unary_text Not = codes "not"
unary_text Neg = codes "-"
unary_text UnaryWhen = codes "when"
unary_text Clock = codes "^"

abbrev pub unary_word : UnOp → Spaced
unary_word op = after_blank (unary_kind op) (unary_text op)

abbrev pub binary_kind : BinOp → TokenKind
binary_kind Default = Word
binary_kind When = Word
binary_kind Or = Word
binary_kind Xor = Word
binary_kind And = Word
binary_kind Mod = Word
binary_kind op = Mark

abbrev pub binary_text : BinOp → List ℕ
binary_text Default = codes "default"
binary_text When = codes "when"
binary_text Plus = codes "^+"
binary_text Meet = codes "^*"
binary_text Less = codes "^-"
binary_text Or = codes "or"
binary_text Xor = codes "xor"
binary_text And = codes "and"
binary_text Eq = codes "="
binary_text Ne = codes "/="
binary_text Lt = codes "<"
binary_text Le = codes "<="
binary_text Gt = codes ">"
binary_text Ge = codes ">="
binary_text Add = codes "+"
binary_text Sub = codes "-"
binary_text Mul = codes "*"
binary_text Div = codes "/"
binary_text Mod = codes "modulo"

abbrev pub binary_word : BinOp → Spaced
binary_word op = after_blank (binary_kind op) (binary_text op)

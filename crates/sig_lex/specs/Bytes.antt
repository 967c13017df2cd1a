-- Kinds of bytes. Every byte above 127 is of none.
use Rattle.std.specs.Prelude.{◌&&◌, ◌||◌, ◌==◌}
use Rattle.sig_lex.specs.Prelude.{ℕ, Bool, not, nat_le, List, slice_index, is_ascii_alphanumeric}

-- the byte at the front, or 0 where there is none
abbrev pub first : List ℕ → ℕ
first bytes = slice_index bytes 0

-- a tab, a newline, a carriage return or a space
abbrev pub is_blank : ℕ → Bool
is_blank b = (b == 9) || (b == 10) || (b == 13) || (b == 32)

-- what a name goes on with: letters, digits and '_'
abbrev pub is_name_byte : ℕ → Bool
is_name_byte b = is_ascii_alphanumeric b || (b == 95)

abbrev pub is_percent : ℕ → Bool
is_percent b = b == 37

abbrev pub is_quote : ℕ → Bool
is_quote b = b == 34

-- what a label may hold: the printable bytes, a blank among them, but no quote
abbrev pub is_label_byte : ℕ → Bool
is_label_byte b = nat_le 32 b && nat_le b 126 && not (is_quote b)

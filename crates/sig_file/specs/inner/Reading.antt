-- Fields, read from left to right up to the first that is broken.
use Rattle.std.specs.Prelude.{◌≡◌, ◌∷◌, ◌++◌, if◌then◌else◌}
use Rattle.sig_file.specs.Prelude.{ℕ, zero, suc, ℤ, Bool, nat_lt, List, [], length, take, drop, slice_get, Option, None, Some, Result, Ok, Err, Width, w32, w64, byte_len, from_be_bytes, cast_signed}
use Rattle.sig_file.specs.declared.stop.Stop.{Stop}
use Rattle.sig_file.specs.declared.stop.Stop.TheVariants as stops

-- What is read at the front of bytes: a value and the bytes behind it; or, where a field is broken or cut off, how many bytes
-- are left from its first byte on.
abbrev pub Reading : Type 0 → Type 0
Reading A = List ℕ → Result (A × List ℕ) ℕ

infixl 10 ◌>>=◌
abbrev pub ◌>>=◌ : {A B : Type 0} → Result A ℕ → (A → Result B ℕ) → Result B ℕ
(Ok x) >>= f = f x
(Err left) >>= f = Err left

-- ---- fields

-- a value is right, or the field that these bytes begin with is broken
abbrev pub right_or : {A : Type 0} → List ℕ → Bool → A → Result A ℕ
right_or bytes right x = if right then Ok x else Err (length bytes)

-- a field of this width
abbrev pub word_at : Width → Reading ℕ
word_at w bytes =
    if nat_lt (length bytes) (byte_len w) then Err (length bytes) else Ok (from_be_bytes w (take (byte_len w) bytes), drop (byte_len w) bytes)

-- a number of four bytes that is right
abbrev pub number_if : (ℕ → Bool) → Reading ℕ
number_if right bytes = do
  n ← word_at w32 bytes
  right_or bytes (right n.0) n

-- a number of eight bytes with its sign
abbrev pub long_at : Reading ℤ
long_at bytes = do
  n ← word_at w64 bytes
  Ok (cast_signed w64 n.0, n.1)

-- a number of eight bytes with its sign that is right
abbrev pub long_if : (ℤ → Bool) → Reading ℤ
long_if right bytes = do
  c ← long_at bytes
  right_or bytes (right c.0) c

-- as many bytes as this
abbrev pub text_at : ℕ → Reading (List ℕ)
text_at n bytes = if nat_lt (length bytes) n then Err (length bytes) else Ok (take n bytes, drop n bytes)

-- as many bytes as this, which are right
abbrev pub text_if : ℕ → (List ℕ → Bool) → Reading (List ℕ)
text_if n right bytes = do
  text ← text_at n bytes
  right_or bytes (right text.0) text

abbrev pub choice_of : {A : Type 0} → List ℕ → List ℕ → Option A → Result (A × List ℕ) ℕ
choice_of bytes rest None = Err (length bytes)
choice_of bytes rest (Some x) = Ok (x, rest)

-- a byte that is the place of one of these
abbrev pub choice_at : {A : Type 0} → List A → Reading A
choice_at choices [] = Err 0
choice_at choices (byte ∷ rest) = choice_of (byte ∷ rest) rest (slice_get choices byte)

-- a byte that is the place of one of these, which is right
abbrev pub choice_if : {A : Type 0} → List A → (A → Bool) → Reading A
choice_if choices right bytes = do
  x ← choice_at choices bytes
  right_or bytes (right x.0) x

-- ---- items in a row

-- so many more, each read behind those before it
unfoldable pub several : {A : Type 0} → (List A → Reading A) → ℕ → List A → Reading (List A)
several item zero before bytes = Ok (before, bytes)
several item (suc n) before bytes = item before bytes >>= λ x. several item n (before ++ x.0 ∷ []) x.1

-- one more item behind those before it
abbrev pub added : {A : Type 0} → List A → Result (A × List ℕ) ℕ → Result (List A × List ℕ) ℕ
added before read = read >>= λ x. Ok (before ++ x.0 ∷ [], x.1)

-- ---- what a reader answers

abbrev pub Stops : {Y : Type 0} → Stop → Result Y ℕ → Type 0
Stops stops.Memory read = Unit {0}
Stops (stops.Broken left) read = read ≡ Err left

-- what a function returned, seen by view, is what is read, unless memory ran out
abbrev pub Gives : {X Y : Type 0} → (X → Y) → Result X Stop → Result Y ℕ → Type 0
Gives view (Ok x) read = read ≡ Ok (view x)
Gives view (Err stop) read = Stops stop read

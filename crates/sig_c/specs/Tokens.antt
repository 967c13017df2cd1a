-- Tokens of small C, and how the bytes of a file make them (C11 5.1.1.2, 6.4). A byte that no text of small C has is refused, and so
-- is what an earlier phase of translation would change: a line that goes on behind a backslash, and `??`, which begins a trigraph.
use Rattle.std.specs.Prelude.{◌≡◌, ◌∷◌, ◌++◌, ◌&&◌, ◌||◌, ℕ, List, [], Bool, false, not, nat_eq, nat_le, Option, None, Some, if◌then◌else◌}
use Rattle.std.specs.List.{list_any}

pub data Token : Type 0 where
  -- letters, digits and `_`: a keyword, an identifier or a number (6.4.1, 6.4.2, 6.4.8)
  Word : List ℕ → Token
  -- a punctuator (6.4.6)
  Sign : List ℕ → Token
  -- the characters of a string, where `\"`, `\\` and `\?` stand for one each (6.4.5, 6.4.4.4)
  Quoted : List ℕ → Token
  -- the rest of a line that begins with `#` (6.10)
  Directive : List ℕ → Token

-- ---- bytes

abbrev pub is_between : ℕ → ℕ → ℕ → Bool
is_between low high byte = nat_le low byte && nat_le byte high

abbrev pub is_letter : ℕ → Bool
is_letter byte = is_between 97 122 byte || is_between 65 90 byte

abbrev pub is_digit : ℕ → Bool
is_digit byte = is_between 48 57 byte

abbrev pub is_word_byte : ℕ → Bool
is_word_byte byte = is_letter byte || (is_digit byte || nat_eq byte 95)

-- ! % & * + - / < = > |: these make punctuators of one byte or two, and a run of them is one token here, the longest that C11 may
-- read (6.4p4)
abbrev pub is_run_byte : ℕ → Bool
is_run_byte byte = list_any (nat_eq byte) (33 ∷ 37 ∷ 38 ∷ 42 ∷ 43 ∷ 45 ∷ 47 ∷ 60 ∷ 61 ∷ 62 ∷ 124 ∷ [])

-- ( ) , : ; ? [ ] { }: each is a token
abbrev pub is_single : ℕ → Bool
is_single byte = list_any (nat_eq byte) (40 ∷ 41 ∷ 44 ∷ 58 ∷ 59 ∷ 63 ∷ 91 ∷ 93 ∷ 123 ∷ 125 ∷ [])

abbrev pub is_printable : ℕ → Bool
is_printable byte = is_between 32 126 byte

-- ---- what a byte does

-- what stands before the next byte
pub data Mode : Type 0 where
  -- the beginning of a line
  Fresh : Mode
  Between : Mode
  InWord : List ℕ → Mode
  InRun : List ℕ → Mode
  -- within a string
  InQuotes : List ℕ → Mode
  -- behind a backslash there
  Escaped : List ℕ → Mode
  -- within a comment, behind this byte
  InComment : ℕ → Mode
  -- within a line that begins with `#`, behind this byte
  InDirective : (last : ℕ) → List ℕ → Mode

pub record Scanned : Type 0 where
  pub mode : Mode
  pub tokens : List Token

abbrev pub scanned : Mode → List Token → Option Scanned
scanned mode tokens = Some (record { mode = mode; tokens = tokens })

-- the first byte of a token, or what stands between tokens
abbrev pub begin : List Token → ℕ → Option Scanned
begin tokens byte =
    if nat_eq byte 10 then scanned Fresh tokens
    else (if nat_eq byte 32 then scanned Between tokens
    else (if is_word_byte byte then scanned (InWord (byte ∷ [])) tokens
    else (if is_run_byte byte then scanned (InRun (byte ∷ [])) tokens
    else (if is_single byte then scanned Between (tokens ++ Sign (byte ∷ []) ∷ [])
    else (if nat_eq byte 34 then scanned (InQuotes []) tokens
    else None)))))

abbrev pub fresh : List Token → ℕ → Option Scanned
fresh tokens byte = if nat_eq byte 35 then scanned (InDirective 35 []) tokens else begin tokens byte

-- a byte behind a run of punctuators
abbrev pub in_run : List Token → List ℕ → ℕ → Option Scanned
in_run tokens run byte = if is_run_byte byte then scanned (InRun (run ++ byte ∷ [])) tokens else begin (tokens ++ Sign run ∷ []) byte

-- `/` is the run
abbrev pub is_slash : List ℕ → Bool
is_slash (byte ∷ []) = nat_eq byte 47
is_slash run = false

-- `/*` begins a comment (6.4.9)
abbrev pub in_run_or_comment : List Token → List ℕ → ℕ → Option Scanned
in_run_or_comment tokens run byte = if is_slash run && nat_eq byte 42 then scanned (InComment 32) tokens else in_run tokens run byte

abbrev pub in_word : List Token → List ℕ → ℕ → Option Scanned
in_word tokens word byte = if is_word_byte byte then scanned (InWord (word ++ byte ∷ [])) tokens else begin (tokens ++ Word word ∷ []) byte

-- a backslash, `??` or `/*`
abbrev pub is_refused : (last byte : ℕ) → Bool
is_refused last byte = nat_eq byte 92 || ((nat_eq last 63 && nat_eq byte 63) || (nat_eq last 47 && nat_eq byte 42))

abbrev pub in_comment : List Token → (last byte : ℕ) → Option Scanned
in_comment tokens last byte =
    if nat_eq last 42 && nat_eq byte 47 then scanned Between tokens
    else (if (is_printable byte || nat_eq byte 10) && not (is_refused last byte) then scanned (InComment byte) tokens else None)

abbrev pub in_quotes : List Token → List ℕ → ℕ → Option Scanned
in_quotes tokens bytes byte =
    if nat_eq byte 34 then scanned Between (tokens ++ Quoted bytes ∷ [])
    else (if nat_eq byte 92 then scanned (Escaped bytes) tokens
    else (if is_printable byte && not (nat_eq byte 63) then scanned (InQuotes (bytes ++ byte ∷ [])) tokens else None))

-- `\"`, `\\` and `\?` (6.4.4.4)
abbrev pub escaped : List Token → List ℕ → ℕ → Option Scanned
escaped tokens bytes byte = if list_any (nat_eq byte) (34 ∷ 92 ∷ 63 ∷ []) then scanned (InQuotes (bytes ++ byte ∷ [])) tokens else None

abbrev pub in_directive : List Token → (last : ℕ) → List ℕ → ℕ → Option Scanned
in_directive tokens last bytes byte =
    if nat_eq byte 10 then scanned Fresh (tokens ++ Directive bytes ∷ [])
    else (if is_printable byte && not (is_refused last byte) then scanned (InDirective byte (bytes ++ byte ∷ [])) tokens else None)

abbrev pub scan_byte : Mode → List Token → ℕ → Option Scanned
scan_byte Fresh tokens byte = fresh tokens byte
scan_byte Between tokens byte = begin tokens byte
scan_byte (InWord word) tokens byte = in_word tokens word byte
scan_byte (InRun run) tokens byte = in_run_or_comment tokens run byte
scan_byte (InQuotes bytes) tokens byte = in_quotes tokens bytes byte
scan_byte (Escaped bytes) tokens byte = escaped tokens bytes byte
scan_byte (InComment last) tokens byte = in_comment tokens last byte
scan_byte (InDirective last bytes) tokens byte = in_directive tokens last bytes byte

-- ---- a text

abbrev pub scan_next : (Scanned → Option Scanned) → Option Scanned → Option Scanned
scan_next go None = None
scan_next go (Some s) = go s

abbrev pub scan : List ℕ → Scanned → Option Scanned
scan [] s = Some s
scan (byte ∷ bytes) s = scan_next (scan bytes) (scan_byte s.mode s.tokens byte)

-- A text has these tokens: its last line ends (5.1.1.2p2).
abbrev pub HasTokens : List ℕ → List Token → Type 0
HasTokens text tokens = scan text (record { mode = Fresh; tokens = [] }) ≡ scanned Fresh tokens

-- How pieces of a text make tokens: what stands before them changes nothing, and pieces may be joined.
use Rattle.std.proofs.Common.{◌≡◌, ℕ, List, [], ◌∷◌, ◌++◌, Bool, true, false, ◌&&◌, ◌||◌, not, Option, None, Some, refl, sym, ap, ◌∙◌, append_assoc, append-nil, nat_eq, if◌then◌else◌}
use Rattle.std.proofs.lemmas.Bool.{and_parts}
use Rattle.std.specs.List.{list_any, list_all}
use Rattle.sig_c.specs.Tokens.{Token, Word, Sign, Quoted, Directive, Mode, Fresh, Between, InWord, InRun, InQuotes, Escaped, InComment, InDirective, Scanned, scanned, begin, in_run, is_slash, scan_byte, scan_next, scan, is_word_byte, is_run_byte, is_single, is_printable, is_refused}

abbrev pub behind_these : List Token → Scanned → Scanned
behind_these before s = record { mode = s.mode; tokens = before ++ s.tokens }

abbrev pub prepended : List Token → Option Scanned → Option Scanned
prepended before None = None
prepended before (Some s) = Some (behind_these before s)

-- a choice between two that both are prepended
either : (before : List Token) (b : Bool) (x y z w : Option Scanned) → x ≡ prepended before y → z ≡ prepended before w → (if b then x else z) ≡ prepended before (if b then y else w)
either before true x y z w one other = one
either before false x y z w one other = other

module _ (before : List Token) where
  added : (mode : Mode) (tokens : List Token) (token : Token) → scanned mode ((before ++ tokens) ++ token ∷ []) ≡ prepended before (scanned mode (tokens ++ token ∷ []))
  added mode tokens token = ap (scanned mode) (append_assoc before tokens (token ∷ []))

  begins : (tokens : List Token) (byte : ℕ) → begin (before ++ tokens) byte ≡ prepended before (begin tokens byte)
  begins tokens byte =
      either before (nat_eq byte 10) _ _ _ _ refl
      (either before (nat_eq byte 32) _ _ _ _ refl
      (either before (is_word_byte byte) _ _ _ _ refl
      (either before (is_run_byte byte) _ _ _ _ refl
      (either before (is_single byte) _ _ _ _ (added Between tokens (Sign (byte ∷ [])))
      (either before (nat_eq byte 34) _ _ _ _ refl refl)))))

  begins_behind : (tokens : List Token) (token : Token) (byte : ℕ) → begin ((before ++ tokens) ++ token ∷ []) byte ≡ prepended before (begin (tokens ++ token ∷ []) byte)
  begins_behind tokens token byte = ap (λ (l : List Token). begin l byte) (append_assoc before tokens (token ∷ [])) ∙ begins (tokens ++ token ∷ []) byte

  runs : (tokens : List Token) (run : List ℕ) (byte : ℕ) → in_run (before ++ tokens) run byte ≡ prepended before (in_run tokens run byte)
  runs tokens run byte = either before (is_run_byte byte) _ _ _ _ refl (begins_behind tokens (Sign run) byte)

  one_byte : (mode : Mode) (tokens : List Token) (byte : ℕ) → scan_byte mode (before ++ tokens) byte ≡ prepended before (scan_byte mode tokens byte)
  one_byte Fresh tokens byte = either before (nat_eq byte 35) _ _ _ _ refl (begins tokens byte)
  one_byte Between tokens byte = begins tokens byte
  one_byte (InWord word) tokens byte = either before (is_word_byte byte) _ _ _ _ refl (begins_behind tokens (Word word) byte)
  one_byte (InRun run) tokens byte = either before (is_slash run && nat_eq byte 42) _ _ _ _ refl (runs tokens run byte)
  one_byte (InQuotes bytes) tokens byte =
      either before (nat_eq byte 34) _ _ _ _ (added Between tokens (Quoted bytes))
      (either before (nat_eq byte 92) _ _ _ _ refl (either before (is_printable byte && not (nat_eq byte 63)) _ _ _ _ refl refl))
  one_byte (Escaped bytes) tokens byte = either before (list_any (nat_eq byte) (34 ∷ 92 ∷ 63 ∷ [])) _ _ _ _ refl refl
  one_byte (InComment last) tokens byte =
      either before (nat_eq last 42 && nat_eq byte 47) _ _ _ _ refl (either before ((is_printable byte || nat_eq byte 10) && not (is_refused last byte)) _ _ _ _ refl refl)
  one_byte (InDirective last bytes) tokens byte =
      either before (nat_eq byte 10) _ _ _ _ (added Fresh tokens (Directive bytes)) (either before (is_printable byte && not (is_refused last byte)) _ _ _ _ refl refl)

  next : (bytes : List ℕ) (s : Option Scanned) → ((t : Scanned) → scan bytes (behind_these before t) ≡ prepended before (scan bytes t))
      → scan_next (scan bytes) (prepended before s) ≡ prepended before (scan_next (scan bytes) s)
  next bytes None each = refl
  next bytes (Some s) each = each s

  pub scans : (bytes : List ℕ) (s : Scanned) → scan bytes (behind_these before s) ≡ prepended before (scan bytes s)
  scans [] s = refl
  scans (byte ∷ bytes) s = ap (scan_next (scan bytes)) (one_byte s.mode s.tokens byte) ∙ next bytes (scan_byte s.mode s.tokens byte) (scans bytes)

-- ---- pieces

-- A piece of a text, in a mode before it, leads to another mode and makes these tokens.
abbrev pub Makes : Mode → List ℕ → Mode → List Token → Type 0
Makes mode bytes after tokens = scan bytes (record { mode = mode; tokens = [] }) ≡ scanned after tokens

next_joined : (a b : List ℕ) (o : Option Scanned) → ((t : Scanned) → scan (a ++ b) t ≡ scan_next (scan b) (scan a t)) → scan_next (scan (a ++ b)) o ≡ scan_next (scan b) (scan_next (scan a) o)
next_joined a b None each = refl
next_joined a b (Some t) each = each t

scan_joined : (a b : List ℕ) (s : Scanned) → scan (a ++ b) s ≡ scan_next (scan b) (scan a s)
scan_joined [] b s = refl
scan_joined (byte ∷ a) b s = next_joined a b (scan_byte s.mode s.tokens byte) (scan_joined a b)

-- two pieces are one
pub join : (a b : List ℕ) (first middle last : Mode) (one other : List Token) → Makes first a middle one → Makes middle b last other → Makes first (a ++ b) last (one ++ other)
join a b first middle last one other left right =
    scan_joined a b (record { mode = first; tokens = [] }) ∙ ap (scan_next (scan b)) left
    ∙ ap (λ (l : List Token). scan b (record { mode = middle; tokens = l })) (sym (append-nil one)) ∙ scans one b (record { mode = middle; tokens = [] }) ∙ ap (prepended one) right

-- a text that begins at the beginning of a line and ends at one
pub text_has : (text : List ℕ) (tokens : List Token) → Makes Fresh text Fresh tokens → scan text (record { mode = Fresh; tokens = [] }) ≡ scanned Fresh tokens
text_has text tokens makes = makes

-- ---- words

pub more_word : (bytes word : List ℕ) → list_all is_word_byte bytes ≡ true → Makes (InWord word) bytes (InWord (word ++ bytes)) []
more_word [] word all = ap (λ (l : List ℕ). scanned (InWord l) []) (sym (append-nil word))
more_word (byte ∷ bytes) word all =
    let parts = and_parts (is_word_byte byte) (list_all is_word_byte bytes) all in
    rw parts.0 (more_word bytes (word ++ byte ∷ []) parts.1 ∙ ap (λ (l : List ℕ). scanned (InWord l) []) (append_assoc word (byte ∷ []) bytes))

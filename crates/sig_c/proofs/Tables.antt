-- The table of ends, the first values and the variables are read as they are written.
use Rattle.std.proofs.Common.{◌≡◌, ℕ, suc, ◌^◌, ◌<◌, ◌≤◌, List, [], ◌∷◌, ◌++◌, length, true, Some, refl, ap, ◌∙◌, arith, append_assoc, decimal, nat_eq}
use Rattle.std.specs.Prelude.{codes}
use Rattle.std.specs.Str.{bytes_eq}
use Rattle.sig_c.specs.SmallC.{Header, EndCause, Done, Exhausted, Overflow, DivisionByZero, EndRow}
use Rattle.sig_c.specs.Tokens.{Token, Word, Sign}
use Rattle.sig_c.specs.Written.{prefixed, cause_text, row_tokens, rows_tokens, ends_tokens}
use Rattle.sig_c.specs.Reader.{Read, onward, behind, past, is_token, a_number, cause_of, read_row, read_rows, read_ends}
use Rattle.sig_c.specs.Names.{IsRow, AreRows}
use Rattle.sig_c.proofs.Words.{passes}
use Rattle.sig_c.proofs.Numbers.{number_back}

same_byte : (byte : ℕ) → nat_eq byte byte ≡ true
same_byte byte = grind (arith)

-- what stands behind one beginning
same_behind : (first a b : List ℕ) → bytes_eq (first ++ a) (first ++ b) ≡ bytes_eq a b
same_behind [] a b = refl
same_behind (byte ∷ first) a b = rw (same_byte byte) (same_behind first a b)

prefixed_same : (header : Header) (a b : List ℕ) → is_token (prefixed header a) (prefixed header b) ≡ bytes_eq a b
prefixed_same header a b = same_behind header.prefix (codes "_" ++ a) (codes "_" ++ b)

cause_found : (header : Header) (cause : EndCause) → cause_of header (header.prefix ++ (codes "_" ++ cause_text cause)) ≡ Some cause
cause_found header Done = rw (prefixed_same header (codes "DONE") (codes "DONE")) refl
cause_found header Exhausted = rw (prefixed_same header (codes "DONE") (codes "EXHAUSTED")) (rw (prefixed_same header (codes "EXHAUSTED") (codes "EXHAUSTED")) refl)
cause_found header Overflow =
    rw (prefixed_same header (codes "DONE") (codes "OVERFLOW")) (rw (prefixed_same header (codes "EXHAUSTED") (codes "OVERFLOW")) (rw (prefixed_same header (codes "OVERFLOW") (codes "OVERFLOW")) refl))
cause_found header DivisionByZero =
    rw (prefixed_same header (codes "DONE") (codes "DIVISION_BY_ZERO")) (rw (prefixed_same header (codes "EXHAUSTED") (codes "DIVISION_BY_ZERO"))
    (rw (prefixed_same header (codes "OVERFLOW") (codes "DIVISION_BY_ZERO")) (rw (prefixed_same header (codes "DIVISION_BY_ZERO") (codes "DIVISION_BY_ZERO")) refl)))

number_first : (n : ℕ) (rest : List Token) → n < 2 ^ 32 → a_number (Word (decimal n) ∷ rest) ≡ Some (n, rest)
number_first n rest small = rw (number_back n (omega (arith, small))) refl

-- a row
row_back : (header : Header) (row : EndRow) (rest : List Token) → IsRow row → read_row header (row_tokens header row ++ rest) ≡ Some (row, rest)
row_back header row rest is =
    rw (cause_found header row.cause) (rw (number_back row.line (let small = is.line in omega (arith, small))) (rw (number_back row.column (let small = is.column in omega (arith, small))) refl))

rows_back : (header : Header) (rows : List EndRow) (rest : List Token) → AreRows rows → read_rows header (length rows) (rows_tokens header rows ++ rest) ≡ Some (rows, rest)
rows_back header [] rest are = refl
rows_back header (row ∷ []) rest are = ap (λ (r : Read EndRow). onward r (λ it end. Some (it ∷ [], end))) (row_back header row rest are.0)
rows_back header (row ∷ next ∷ rows) rest are =
    ap (read_rows header (suc (suc (length rows)))) (append_assoc (row_tokens header row) (Sign (codes ",") ∷ rows_tokens header (next ∷ rows)) rest)
    ∙ ap (λ (r : Read EndRow). onward r (λ it after. behind (Sign (codes ",") ∷ []) after (λ others. onward (read_rows header (suc (length rows)) others) (λ its end. Some (it ∷ its, end)))))
    (row_back header row (Sign (codes ",") ∷ (rows_tokens header (next ∷ rows) ++ rest)) are.0)
    ∙ ap (λ (r : Read (List EndRow)). onward r (λ its end. Some (row ∷ its, end))) (rows_back header (next ∷ rows) rest are.1)

-- the table
pub ends_back : (header : Header) (rows : List EndRow) (rest : List Token) → AreRows rows → length rows ≤ 2 ^ 15 → read_ends header (ends_tokens header rows ++ rest) ≡ Some (rows, rest)
ends_back header rows rest are few =
    passes (Word (codes "const") ∷ prefixed header (codes "end") ∷ prefixed header (codes "ends") ∷ Sign (codes "[") ∷ []) (Word (decimal (length rows)) ∷ opened)
    (λ tokens. onward (a_number tokens) table)
    ∙ ap (λ (r : Read ℕ). onward r table) (number_first (length rows) opened (omega (arith, few)))
    ∙ ap (λ (l : List Token). onward (read_rows header (length rows) l) closing) (append_assoc (rows_tokens header rows) (Sign (codes "}") ∷ Sign (codes ";") ∷ []) rest)
    ∙ ap (λ (r : Read (List EndRow)). onward r closing) (rows_back header rows (Sign (codes "}") ∷ Sign (codes ";") ∷ rest) are)
  where
    opened : List Token
    opened = Sign (codes "]") ∷ Sign (codes "=") ∷ Sign (codes "{") ∷ ((rows_tokens header rows ++ Sign (codes "}") ∷ Sign (codes ";") ∷ []) ++ rest)

    closing : List EndRow → List Token → Read (List EndRow)
    closing = past (Sign (codes "}") ∷ Sign (codes ";") ∷ [])

    table : ℕ → List Token → Read (List EndRow)
    table count tokens = behind (Sign (codes "]") ∷ Sign (codes "=") ∷ Sign (codes "{") ∷ []) tokens (λ t3. onward (read_rows header count t3) closing)

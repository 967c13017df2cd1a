-- What the test of a table says.
use Rattle.sig_lex.proofs.Common.{◌≡◌, ℕ, List, Bool, true, get_or, sym, ◌∙◌, subst, Contains, list_any, bytes_eq, list_any_at, Any-from_list_any, bytes_eq-Decides}

-- the test answers true exactly where the table has the bytes
pub listed : (table : List (List ℕ)) (bytes : List ℕ) (r : Bool) → r ≡ list_any (λ entry. bytes_eq entry bytes) table → (r ≡ true → Contains table bytes) × (Contains table bytes → r ≡ true)
listed table bytes r is = (
  λ yes. let some = Any-from_list_any (λ entry. bytes_eq entry bytes) table (sym is ∙ yes) in
      (some.0, some.2, subst (λ (y : List ℕ). get_or table some.0 y ≡ y) ((bytes_eq-Decides _ _).0 some.4) some.3),
  λ (k, lt, there). is ∙ list_any_at (λ entry. bytes_eq entry bytes) table k bytes lt ((bytes_eq-Decides _ _).1 there),
)

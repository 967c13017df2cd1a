-- What is true of each mark.
use Rattle.sig_lex.proofs.Common.{◌≡◌, ℕ, zero, suc, ◌<◌, ◌≤◌, List, [], ◌∷◌, Bool, true, leb, ◌&&◌, length, take, get_or, refl, subst, ⊎_elim, arith, length-take-le, Contains, list_all, and_parts, leb-true, cases_lt, marks, IsLongestMark}

-- what the test says of a whole table is true of each entry
pub each_entry : (test : List ℕ → Bool) (table : List (List ℕ)) (x : List ℕ) → list_all test table ≡ true → Contains table x → test x ≡ true
each_entry test table x all (k, lt, at) = go table all k lt at where
  go : (table : List (List ℕ)) → list_all test table ≡ true → (k : ℕ) → k < length table → get_or table k x ≡ x → test x ≡ true
  go [] all k lt at = absurd (omega arith)
  go (y ∷ ys) all zero lt at = subst (λ (z : List ℕ). test z ≡ true) at (and_parts _ _ all).0
  go (y ∷ ys) all (suc k) lt at = go ys (and_parts _ _ all).1 k (omega arith) at

-- a mark is of one byte or two
pub mark_length : (x : List ℕ) → Contains marks x → (1 ≤ length x) × (length x ≤ 2)
mark_length x listed =
    let both = and_parts _ _ (each_entry (λ m. leb 1 (length m) && leb (length m) 2) marks x refl listed) in
    (leb-true 1 (length x) both.0, leb-true (length x) 2 both.1)

-- no front of more than two bytes is a mark
pub no_longer : (bytes : List ℕ) (k : ℕ) → 2 < k → k ≤ length bytes → Contains marks (take k bytes) → ⊥
no_longer bytes k long within listed = omega (arith, length-take-le k bytes within, (mark_length (take k bytes) listed).1)

-- nor is none
pub no_shorter : (bytes : List ℕ) → Contains marks (take 0 bytes) → ⊥
no_shorter bytes listed = omega (arith, length-take-le 0 bytes (omega arith), (mark_length (take 0 bytes) listed).0)

module _ (bytes : List ℕ) where
  pub two_bytes : 2 ≤ length bytes → Contains marks (take 2 bytes) → IsLongestMark bytes 2
  two_bytes long listed = record { within = long; is_mark = listed; longest = λ k more within. no_longer bytes k more within }

  pub one_byte : 1 ≤ length bytes → (2 ≤ length bytes → Contains marks (take 2 bytes) → ⊥) → Contains marks (take 1 bytes) → IsLongestMark bytes 1
  one_byte long no_pair listed = record {
    within = long;
    is_mark = listed;
    longest = λ k more within. ⊎_elim
        (λ (beyond : 2 < k). no_longer bytes k beyond within)
        (λ (at_most : k ≤ 2). let two : k ≡ 2 = omega arith in λ (also : Contains marks (take k bytes)). no_pair (omega arith) (subst (λ (n : ℕ). Contains marks (take n bytes)) two also))
        (cases_lt 2 k);
  }

  pub no_mark : (2 ≤ length bytes → Contains marks (take 2 bytes) → ⊥) → (Contains marks (take 1 bytes) → ⊥) → (k : ℕ) → k ≤ length bytes → Contains marks (take k bytes) → ⊥
  no_mark no_pair no_single zero within listed = no_shorter bytes listed
  no_mark no_pair no_single (suc zero) within listed = no_single listed
  no_mark no_pair no_single (suc (suc zero)) within listed = no_pair within listed
  no_mark no_pair no_single (suc (suc (suc k))) within listed = no_longer bytes (suc (suc (suc k))) (omega arith) within listed

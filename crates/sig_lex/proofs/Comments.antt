-- Comments, by where the next '%' is found.
use Rattle.sig_lex.proofs.Common.{◌≡◌, ℕ, ◌+◌, List, length, drop, true, None, Some, sym, ap, arith, length-drop, false_from_ne_true, position_or_len_is, IsFirstByte, is_byte, first, is_percent, IsComment, IsOpenComment}

module _ (bytes : List ℕ) (opened : is_percent (first bytes) ≡ true) where
  pub closed_comment : (i : ℕ) → IsFirstByte (is_byte 37) (drop 1 bytes) (Some i) → IsComment bytes (i + 2)
  closed_comment i found =
      let high = found.0.high in
      let is = position_or_len_is is_percent (drop 1 bytes) i 0 (omega arith) (λ k lt. false_from_ne_true _ (found.0.before k (omega arith) lt)) (λ _. found.1) in
      record { opened = opened; whole = ap (λ (n : ℕ). n + 2) (sym is); closed = omega (arith, length-drop 1 bytes) }

  pub open_comment : IsFirstByte (is_byte 37) (drop 1 bytes) None → IsOpenComment bytes
  open_comment nowhere = record {
    opened = opened;
    open_to_the_end = position_or_len_is is_percent (drop 1 bytes) (length (drop 1 bytes)) 0 (omega arith) (λ k lt. false_from_ne_true _ (nowhere k (omega arith) lt)) (λ lt. absurd (omega arith));
  }

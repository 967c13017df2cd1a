-- The lines of registers that have what an instant has.
use Rattle.sig_doing_laws.proofs.Common.{◌≡◌, ◌<◌, ◌+◌, ◌++◌, ℕ, zero, suc, List, [], ◌∷◌, length, map, drop, refl, ap, sym, ◌∙◌, arith, append_assoc, range_with_len, append-nil, Instant, Seen, Trace, seen_at, Signal, instant_text, output_text, seen_line, seen_lines, Kernel, Registers}

pub dropped_at : (n : ℕ) (t : Instant) (k : ℕ) → seen_at (drop n t) k ≡ seen_at t (n + k)
dropped_at zero t k = ap (seen_at t) (omega arith)
dropped_at (suc n) [] k = refl
dropped_at (suc n) (s ∷ t) k = let next : suc (n + k) ≡ suc n + k = omega arith in dropped_at n t k ∙ ap (seen_at (s ∷ t)) next

no_lines : (signals : List Signal) → seen_lines signals [] ≡ []
no_lines [] = refl
no_lines (signal ∷ signals) = refl

pub same_lines : (signals : List Signal) (registers : Registers) (a : ℕ) (seen : List Seen) → ((k : ℕ) → k < length signals → registers (a + k) ≡ seen_at seen k)
    → seen_lines signals (map registers (range_with_len a (length signals))) ≡ seen_lines signals seen
same_lines [] registers a seen same = refl
same_lines (signal ∷ signals) registers a [] same =
    let here : a + 0 ≡ a = omega arith in
    ap (λ s. seen_line signal s ++ seen_lines signals (map registers (range_with_len (a + 1) (length signals)))) (ap registers (sym here) ∙ same 0 (omega arith))
    ∙ same_lines signals registers (a + 1) [] (λ k lt. let next : a + 1 + k ≡ a + suc k = omega arith in ap registers next ∙ same (suc k) (omega (arith, lt))) ∙ no_lines signals
same_lines (signal ∷ signals) registers a (s ∷ seen) same =
    let here : a + 0 ≡ a = omega arith in
    let first : registers a ≡ s = ap registers (sym here) ∙ same 0 (omega arith) in
    ap (λ z. seen_line signal z ++ seen_lines signals (map registers (range_with_len (a + 1) (length signals)))) first
    ∙ ap (λ text. seen_line signal s ++ text) (same_lines signals registers (a + 1) seen (λ k lt. let next : a + 1 + k ≡ a + suc k = omega arith in ap registers next ∙ same (suc k) (omega (arith, lt))))

-- the text of one instant more
pub text_more : (kernel : Kernel) (trace : Trace) (instant : Instant) → output_text kernel (trace ++ instant ∷ []) ≡ output_text kernel trace ++ instant_text kernel instant
text_more kernel [] instant = append-nil (instant_text kernel instant)
text_more kernel (first ∷ trace) instant =
    ap (λ text. instant_text kernel first ++ text) (text_more kernel trace instant) ∙ sym (append_assoc (instant_text kernel first) (output_text kernel trace) (instant_text kernel instant))

-- Lemmas on the text of a trace.
use Rattle.sig_kernel.proofs.Common.{◌≡◌, ◌++◌, ℕ, Bool, true, false, List, [], ◌∷◌, drop, refl, ap, sym, ◌∙◌, append_assoc, None, Some, suc, zero, Trace, Instant, Seen, is_silent, reduce, IsPrefixOf, Signal, seen_lines, outputs_of, instant_text, output_text, Kernel}

text_append : (kernel : Kernel) (t u : Trace) → output_text kernel (t ++ u) ≡ output_text kernel t ++ output_text kernel u
text_append kernel [] u = refl
text_append kernel (instant ∷ t) u =
    ap (λ rest. instant_text kernel instant ++ rest) (text_append kernel t u) ∙ sym (append_assoc (instant_text kernel instant) (output_text kernel t) (output_text kernel u))

pub text_prefix : (kernel : Kernel) (front trace : Trace) → IsPrefixOf front trace → IsPrefixOf (output_text kernel front) (output_text kernel trace)
text_prefix kernel front trace begins = (output_text kernel begins.0, ap (λ t. output_text kernel t) begins.1 ∙ text_append kernel front begins.0)

silent_lines : (signals : List Signal) (seen : List Seen) → is_silent seen ≡ true → seen_lines signals seen ≡ []
silent_lines [] seen silent = refl
silent_lines (signal ∷ signals) [] silent = refl
silent_lines (signal ∷ signals) (None ∷ seen) silent = silent_lines signals seen silent
silent_lines (signal ∷ signals) (Some v ∷ seen) silent = cc

silent_drop : (n : ℕ) (seen : List Seen) → is_silent seen ≡ true → is_silent (drop n seen) ≡ true
silent_drop zero seen silent = silent
silent_drop (suc n) [] silent = refl
silent_drop (suc n) (None ∷ seen) silent = silent_drop n seen silent
silent_drop (suc n) (Some v ∷ seen) silent = cc

pub text_reduced : (kernel : Kernel) (trace : Trace) → output_text kernel (reduce trace) ≡ output_text kernel trace
text_reduced kernel [] = refl
text_reduced kernel (instant ∷ trace) = one kernel (is_silent instant) instant trace refl (text_reduced kernel trace) where
  one : (kernel : Kernel) (silent : Bool) (instant : Instant) (trace : Trace) → is_silent instant ≡ silent → output_text kernel (reduce trace) ≡ output_text kernel trace
      → output_text kernel (reduce (instant ∷ trace)) ≡ output_text kernel (instant ∷ trace)
  one kernel true instant trace is rest = rw is (rest ∙ sym (ap (λ text. text ++ output_text kernel trace) (silent_lines (outputs_of kernel) (drop kernel.inputs instant) (silent_drop kernel.inputs instant is))))
  one kernel false instant trace is rest = rw is (ap (λ text. instant_text kernel instant ++ text) rest)

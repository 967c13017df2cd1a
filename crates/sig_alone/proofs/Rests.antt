-- The text of a trace without that of its first instants.
use Rattle.sig_alone.proofs.Common.{◌≡◌, ◌≤◌, ◌++◌, ◌∙◌, ℕ, zero, suc, List, [], ◌∷◌, length, take, drop, refl, sym, ap, take-append-drop, drop-append-le, drop_all, flat_map-append, IsPrefixOf, Trace, instant_text, text_prefix, output_text, Kernel}

-- of so few instants there is no rest
pub rest_none : (kernel : Kernel) (n : ℕ) (trace : Trace) → length trace ≤ n → output_text kernel (drop n trace) ≡ []
rest_none kernel n trace few = ap (λ (t : Trace). output_text kernel t) (drop_all n trace few)

-- with more instants behind them
pub rest_append : (kernel : Kernel) (n : ℕ) (trace more : Trace) → n ≤ length trace
    → output_text kernel (drop n (trace ++ more)) ≡ output_text kernel (drop n trace) ++ output_text kernel more
rest_append kernel n trace more within =
    ap (λ (t : Trace). output_text kernel t) (drop-append-le n trace more within) ∙ flat_map-append (λ instant. instant_text kernel instant) (drop n trace) more

-- the text of first instants with that of the rest
pub rest_joined : (kernel : Kernel) (n : ℕ) (trace : Trace) → output_text kernel (take n trace) ++ output_text kernel (drop n trace) ≡ output_text kernel trace
rest_joined kernel n trace =
    sym (flat_map-append (λ instant. instant_text kernel instant) (take n trace) (drop n trace)) ∙ ap (λ (t : Trace). output_text kernel t) (take-append-drop n trace)

-- of instants that begin others
pub rest_begins : (kernel : Kernel) (n : ℕ) (front whole : Trace) → IsPrefixOf front whole → IsPrefixOf (output_text kernel (drop n front)) (output_text kernel (drop n whole))
rest_begins kernel zero front whole begins = text_prefix kernel front whole begins
rest_begins kernel (suc n) [] whole begins = (output_text kernel (drop (suc n) whole), refl)
rest_begins kernel (suc n) (instant ∷ front) whole begins =
    let behind = rest_begins kernel n front (front ++ begins.0) (begins.0, refl) in
    (behind.0, ap (λ (t : Trace). output_text kernel (drop (suc n) t)) begins.1 ∙ behind.1)

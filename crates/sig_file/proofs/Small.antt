-- Small facts.
use Rattle.sig_file.proofs.Common.{OnOk, Result, Ok, Err, ◌≡◌, ◌++◌, ◌∷◌, [], List, ℕ, Bool, true, false, cond, is_some, Option, Some, refl, sym, ap, ◌∙◌, bytes_eq, bytes_eq-Decides, list_any, list_any-append, ◌||◌}

turned : (a b : List ℕ) (t s : Bool) → bytes_eq a b ≡ t → bytes_eq b a ≡ s → t ≡ s
turned a b true true e f = refl
turned a b false false e f = refl
turned a b true false e f = let same : a ≡ b = (bytes_eq-Decides a b).0 e in let again : bytes_eq b a ≡ true = (bytes_eq-Decides b a).1 (sym same) in absurd cc
turned a b false true e f = let same : b ≡ a = (bytes_eq-Decides b a).0 f in let again : bytes_eq a b ≡ true = (bytes_eq-Decides a b).1 (sym same) in absurd cc

one_more : {V : Type 0} (v : V) (here : Option V) (s t : Bool) → is_some here ≡ s → is_some (cond t (Some v) here) ≡ (s || (t || false))
one_more v here true true e = refl
one_more v here true false e = e
one_more v here false true e = refl
one_more v here false false e = e

-- a name is one of these and one more
pub with_name : {V : Type 0} (names : List (List ℕ)) (name q : List ℕ) (v : V) (here : Option V) → is_some here ≡ list_any (bytes_eq q) names
    → is_some (cond (bytes_eq name q) (Some v) here) ≡ list_any (bytes_eq q) (names ++ name ∷ [])
with_name names name q v here e =
    one_more v here (list_any (bytes_eq q) names) (bytes_eq name q) e
    ∙ ap (λ (t : Bool). list_any (bytes_eq q) names || (t || false)) (turned name q (bytes_eq name q) (bytes_eq q name) refl refl)
    ∙ sym (list_any-append (bytes_eq q) names (name ∷ []))

-- what follows from two facts of a success
pub on_ok : {A E P Q R : Type 0} (result : Result A E) → (P → Q → R) → OnOk result P → OnOk result Q → OnOk result R
on_ok (Ok x) f p q = f p q
on_ok (Err e) f p q = tt

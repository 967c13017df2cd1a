-- What the names of a copy are bound to.
use Rattle.sig_call.proofs.Common.{◌≡◌, ◌+◌, ◌≤◌, ◌++◌, ℕ, ℤ, suc, min, List, [], ◌∷◌, drop, length, arith, sym, ap, ◌∙◌, refl, append_assoc, add-zero, ◌⊎◌, inl, inr, cases_lt, drop_all, append-nil, ProcessModel, Declaration, params_of, inputs_of, outputs_of, locals_of, Binding as BoundTo, BoundSignal, bound_constants, bound_from, signals_declared, declarations_in, bindings_of}
use Rattle.sig_scope.specs.declared.declared.Declared.{Declared}

-- what stands for no list of constants
pub no_constants : (params : List Declaration) → bound_constants params [] ≡ []
no_constants [] = refl
no_constants (p ∷ ps) = refl

none_left : (params : List Declared) (values : List ℤ) (i : ℕ) → (length params ≤ i) ⊎ (length values ≤ i)
    → bound_constants (declarations_in (drop i params)) (drop i values) ≡ []
none_left params values i (inl h) = ap (λ ps. bound_constants (declarations_in ps) (drop i values)) (drop_all i params h)
none_left params values i (inr h) = ap (bound_constants (declarations_in (drop i params))) (drop_all i values h) ∙ no_constants (declarations_in (drop i params))

min_reached : (m n i : ℕ) → i ≡ min m n → (m ≤ i) ⊎ (n ≤ i)
min_reached m n i e = elim (cases_lt n m) [ inl h ↦ inr (omega arith) | inr h ↦ inl (omega arith) ]

pub constants_end : (params : List Declared) (values : List ℤ) (before now : List (List ℕ × BoundTo)) (i : ℕ) → i ≡ min (length params) (length values)
    → now ++ bound_constants (declarations_in (drop i params)) (drop i values) ≡ before → now ≡ before
constants_end params values before now i e is = sym (append-nil now) ∙ ap (λ l. now ++ l) (sym (none_left params values i (min_reached (length params) (length values) i e))) ∙ is

-- signals in two lists
pub from_append : (base : ℕ) (xs ys : List Declaration) → bound_from base (xs ++ ys) ≡ bound_from base xs ++ bound_from (base + length xs) ys
from_append base [] ys = ap (λ n. bound_from n ys) (sym (add-zero base))
from_append base (x ∷ xs) ys =
    let same : suc base + length xs ≡ base + suc (length xs) = omega arith in
    ap (λ (l : List (List ℕ × BoundTo)). (x.name.text, BoundSignal base) ∷ l) (from_append (suc base) xs ys ∙ ap (λ n. bound_from (suc base) xs ++ bound_from n ys) same)

-- all names of a process, one list after another
pub bound_whole : (p : ProcessModel) (first second third : ℕ) (constants : List ℤ) (none some with_inputs with_outputs whole : List (List ℕ × BoundTo)) (params inputs outputs locals : List Declaration)
    → none ≡ [] → params ≡ params_of p → inputs ≡ inputs_of p → outputs ≡ outputs_of p → locals ≡ locals_of p
    → second ≡ first + length inputs → third ≡ second + length outputs
    → some ≡ none ++ bound_constants params constants → with_inputs ≡ some ++ bound_from first inputs
    → with_outputs ≡ with_inputs ++ bound_from second outputs → whole ≡ with_outputs ++ bound_from third locals
    → whole ≡ bindings_of first constants p
bound_whole p first second third constants none some with_inputs with_outputs whole params inputs outputs locals n ps is os ls s t e f g h =
    let later : bound_from first (inputs ++ (outputs ++ locals)) ≡ bound_from first inputs ++ (bound_from second outputs ++ bound_from third locals) =
    from_append first inputs (outputs ++ locals) ∙ ap (λ l. bound_from first inputs ++ l)
    (ap (λ k. bound_from k (outputs ++ locals)) (sym s) ∙ from_append second outputs locals ∙ ap (λ k. bound_from second outputs ++ bound_from k locals) (sym t)) in
    let same : bound_from first (inputs ++ (outputs ++ locals)) ≡ bound_from first (signals_declared p) =
    ap (λ l. bound_from first (l ++ (outputs ++ locals))) is ∙ ap (λ l. bound_from first (inputs_of p ++ (l ++ locals))) os ∙ ap (λ l. bound_from first (inputs_of p ++ (outputs_of p ++ l))) ls in
    h ∙ ap (λ l. l ++ bound_from third locals) (g ∙ ap (λ l. l ++ bound_from second outputs) (f ∙ ap (λ l. l ++ bound_from first inputs) (e ∙ ap (λ l. l ++ bound_constants params constants) n)))
    ∙ append_assoc (bound_constants params constants ++ bound_from first inputs) (bound_from second outputs) (bound_from third locals)
    ∙ append_assoc (bound_constants params constants) (bound_from first inputs) (bound_from second outputs ++ bound_from third locals)
    ∙ ap (λ l. bound_constants params constants ++ l) (sym later ∙ same) ∙ ap (λ l. bound_constants l constants ++ bound_from first (signals_declared p)) ps

-- Lemmas on flows that fit a kernel.
use Rattle.sig_kernel.proofs.Common.{◌≡◌, ℕ, ℤ, ◌<◌, true, false, List, [], length, get_or, sym, ◌∙◌, ap, subst, arith, list_all, AllPass, false≢true, get_or_default, AllPass-from_list_all, list_all-from_AllPass, Signal, AreFlowsFor, inputs_of, value_is, Kernel}

-- the value of each flow up to a number is of the input's kind
abbrev pub FitBelow : List Signal → List (List ℤ) → ℕ → Type 0
FitBelow inputs flows n = (k : ℕ) (input : Signal) → k < n → list_all (value_is (get_or inputs k input).kind) (get_or flows k []) ≡ true

pub fit_all : (kernel : Kernel) (inputs : List Signal) (own flows : List (List ℤ)) (n : ℕ) → inputs ≡ inputs_of kernel → own ≡ flows
    → length inputs ≡ length own → n ≡ length inputs → FitBelow inputs own n → AreFlowsFor kernel flows
fit_all kernel inputs own flows n is same count end each = record {
  count = ap length (sym same) ∙ sym count ∙ ap length is;
  kinds = λ k input lt.
      let within : k < length inputs = subst (λ xs. k < length xs) (sym is) lt in
      subst (λ xs. AllPass (value_is (get_or xs k input).kind) (get_or flows k [])) is
      (subst (λ xs. AllPass (value_is (get_or inputs k input).kind) (get_or xs k [])) same
      (AllPass-from_list_all (value_is (get_or inputs k input).kind) (get_or own k []) (each k input (omega arith))));
}

pub fit_not : (kernel : Kernel) (inputs : List Signal) (own flows : List (List ℤ)) (i : ℕ) (input : Signal) (flow read : List ℤ)
    → inputs ≡ inputs_of kernel → own ≡ flows → length inputs ≡ length own → i < length inputs
    → input ≡ get_or inputs i input → flow ≡ get_or own i flow → read ≡ flow → list_all (value_is input.kind) read ≡ false → AreFlowsFor kernel flows → ⊥
fit_not kernel inputs own flows i input flow read is same count lt at_input at_flow reads fails fit =
    let within : i < length (inputs_of kernel) = subst (λ xs. i < length xs) is lt in
    let inside : i < length own = omega arith in
    let kind : input ≡ get_or (inputs_of kernel) i input = at_input ∙ ap (λ xs. get_or xs i input) is in
    let list : read ≡ get_or flows i [] = reads ∙ at_flow ∙ get_or_default own i flow [] inside ∙ ap (λ xs. get_or xs i []) same in
    let passes : list_all (value_is (get_or (inputs_of kernel) i input).kind) (get_or flows i []) ≡ true = list_all-from_AllPass (value_is (get_or (inputs_of kernel) i input).kind) (get_or flows i []) (fit.kinds i input within) in
    let moved : list_all (value_is (get_or (inputs_of kernel) i input).kind) (get_or flows i []) ≡ false = subst (λ (s : Signal). list_all (value_is s.kind) (get_or flows i []) ≡ false) kind (subst (λ xs. list_all (value_is input.kind) xs ≡ false) list fails) in
    false≢true (sym moved ∙ passes)

-- A trace of a paced kernel fits flows where it fits those of the old inputs and those of the paces.
use Rattle.sig_pace.proofs.Common.{◌≡◌, ◌<◌, ◌≤◌, ◌+◌, ◌-◌, ◌++◌, ◌↔◌, ◌∙◌, inl, inr, ℕ, ℤ, List, [], length, map, get_or, sym, ap, subst, arith, cases_lt, get_or-append-add, get_or_append_left, length-append, Fits, IsPrefixOf, Trace, flow_of, IsValid, Kernel, FitPaces, without_paces}
use Rattle.sig_pace.proofs.Rooms.{moved_below}
use Rattle.sig_pace.proofs.TracesWithoutPaces.{flow_alike}

module _ (kernel : Kernel) (least : List ℕ) (valid : IsValid kernel) (flows paces : List (List ℤ)) (count : length flows ≡ kernel.inputs) (wide : Trace) where
  abbrev begins : List ℤ → List ℤ → Type 0
  begins front whole = IsPrefixOf front whole

  -- the flow of an input, and the one that is given for it
  input_flow : (input : ℕ) → input < length flows → flow_of input (map (without_paces kernel least) wide) ≡ flow_of input wide
  input_flow input lt =
      flow_alike kernel least wide input (omega (arith, lt, count, valid.parts.interface, valid.parts.declared))
      ∙ ap (λ k. flow_of k wide) (moved_below kernel.inputs (length least) input (omega (arith, lt, count)))

  input_given : (input : ℕ) → input < length flows → get_or (flows ++ paces) input [] ≡ get_or flows input []
  input_given input lt = get_or_append_left flows paces [] input lt

  pace_given : (j : ℕ) → get_or (flows ++ paces) (kernel.inputs + j) [] ≡ get_or paces j []
  pace_given j = ap (λ n. get_or (flows ++ paces) (n + j) []) (sym count) ∙ get_or-append-add flows paces j []

  in_all : (j : ℕ) → j < length paces → kernel.inputs + j < length (flows ++ paces)
  in_all j lt = omega (arith, lt, count, length-append flows paces)

  to : Fits (flows ++ paces) wide → Fits flows (map (without_paces kernel least) wide) × FitPaces kernel paces wide
  to fits = (
    (λ input lt. subst (λ front. begins front (get_or flows input [])) (sym (input_flow input lt))
        (subst (begins (flow_of input wide)) (input_given input lt) (fits input (omega (arith, lt, length-append flows paces))))),
    (λ j lt. subst (begins (flow_of (kernel.inputs + j) wide)) (pace_given j) (fits (kernel.inputs + j) (in_all j lt))),
  )

  back : Fits flows (map (without_paces kernel least) wide) × FitPaces kernel paces wide → Fits (flows ++ paces) wide
  back fit input lt = elim (cases_lt input (length flows)) [
    | inl low ↦ subst (λ front. begins front (get_or (flows ++ paces) input [])) (input_flow input low)
        (subst (begins (flow_of input (map (without_paces kernel least) wide))) (sym (input_given input low)) (fit.0 input low))
    | inr high ↦ subst (λ k. begins (flow_of k wide) (get_or (flows ++ paces) k [])) (back_to input high)
        (subst (begins (flow_of (kernel.inputs + (input - kernel.inputs)) wide)) (sym (pace_given (input - kernel.inputs))) (fit.1 (input - kernel.inputs) (omega (arith, high, count, lt, length-append flows paces))))
  ] where
    back_to : (k : ℕ) → length flows ≤ k → kernel.inputs + (k - kernel.inputs) ≡ k
    back_to k high = omega (arith, high, count)

  pub fits_in_parts : Fits (flows ++ paces) wide ↔ (Fits flows (map (without_paces kernel least) wide) × FitPaces kernel paces wide)
  fits_in_parts = (to, back)

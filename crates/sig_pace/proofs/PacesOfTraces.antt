-- A trace of a kernel that fits flows is what is left without the paces of one of the paced kernel, for some flows of the paces.
use Rattle.sig_pace.proofs.Common.{◌≡◌, ◌<◌, ◌≤◌, ◌+◌, ◌-◌, ◌++◌, ◌∙◌, inl, inr, ℕ, zero, suc, ℤ, pos, Bool, true, false, cond, List, [], ◌∷◌, length, map, get_or, refl, sym, ap, subst, arith, None, Some, is_some, option_to_list, slice_get, slice_get-get_or, AllByRecursion, all_both, append-nil, cases_lt, get_or-append-add, get_or-map-range_with_len, get_or-take, get_or_append_left, length-append, length-map, length-map-range_with_len, length-take-le, range_with_len, Boolean, Bounded, Fits, Instant, IsValue, Signal, Trace, flow_of, seen_at, inputs_of, AreFlowsFor, IsTraceIn, IsValid, Kernel, FitPaces, HasPaces, HasTracesOf, paced_kernel, paced_seen, paces_from, without_paces}
use Rattle.sig_base.specs.Traces.{is_silent}
use Rattle.sig_pace.proofs.FlowsOfPaced.{fits_in_parts}
use Rattle.sig_pace.proofs.Places.{paced_count, paces_count}
use Rattle.sig_pace.proofs.Rooms.{more_at, moved_below, old_at}

-- what is told of a presence is a truth
told_truth : (silent present : Bool) → AllByRecursion (IsValue Bounded Boolean) (option_to_list (cond silent None (cond present (Some (pos 1)) (Some (pos 0)))))
told_truth true present = tt
told_truth false true = (inr refl, tt)
told_truth false false = (inl refl, tt)

told_truths : (s m : ℕ) (trace wide : Trace) → length wide ≡ length trace
    → ((number : ℕ) (instant wide_instant : Instant) → slice_get trace number ≡ Some instant → slice_get wide number ≡ Some wide_instant → seen_at wide_instant s ≡ paced_seen instant m)
    → AllByRecursion (IsValue Bounded Boolean) (flow_of s wide)
told_truths s m [] [] count tells = tt
told_truths s m [] (w ∷ wide) count tells = absurd (omega (arith, count))
told_truths s m (old ∷ trace) [] count tells = tt
told_truths s m (old ∷ trace) (w ∷ wide) count tells =
    all_both (IsValue Bounded Boolean) (option_to_list (seen_at w s)) (flow_of s wide)
    (subst (λ seen. AllByRecursion (IsValue Bounded Boolean) (option_to_list seen)) (sym (tells 0 old w refl refl)) (told_truth (is_silent old) (is_some (seen_at old m))))
    (told_truths s m trace wide (omega (arith, count)) (λ number instant wide_instant is is_wide. tells (suc number) instant wide_instant is is_wide))

module _ (kernel : Kernel) (least : List ℕ) (valid : IsValid kernel) where
  abbrev inputs : ℕ
  inputs = kernel.inputs

  abbrev more : ℕ
  more = length least

  within : inputs ≤ length kernel.signals
  within = omega (arith, valid.parts.interface, valid.parts.declared)

  pace_is_boolean : (number : ℕ) (rest : List ℕ) (j : ℕ) (d : Signal) → j < length rest → (get_or (paces_from kernel number rest) j d).kind ≡ Boolean
  pace_is_boolean number [] j d lt = absurd (omega (arith, lt))
  pace_is_boolean number (m ∷ rest) zero d lt = refl
  pace_is_boolean number (m ∷ rest) (suc j) d lt = pace_is_boolean (suc number) rest j d (omega (arith, lt))

  count_of_inputs : length (inputs_of (paced_kernel kernel least)) ≡ inputs + more
  count_of_inputs = length-take-le (inputs + more) (paced_kernel kernel least).signals (omega (arith, paced_count kernel least within, within))

  old_input : (k : ℕ) (d : Signal) → k < inputs → get_or (inputs_of (paced_kernel kernel least)) k d ≡ get_or (inputs_of kernel) k d
  old_input k d lt =
      get_or-take (inputs + more) (paced_kernel kernel least).signals k d (omega (arith, lt))
      ∙ ap (λ i. get_or (paced_kernel kernel least).signals i d) (sym (moved_below inputs (length (paces_from kernel 1 least)) k lt))
      ∙ old_at inputs (paces_from kernel 1 least) _ kernel.signals within k d (omega (arith, lt, within))
      ∙ sym (get_or-take inputs kernel.signals k d lt)

  pace_input : (j : ℕ) (d : Signal) → j < more → (get_or (inputs_of (paced_kernel kernel least)) (inputs + j) d).kind ≡ Boolean
  pace_input j d lt =
      ap (λ (s : Signal). s.kind) (get_or-take (inputs + more) (paced_kernel kernel least).signals (inputs + j) d (omega (arith, lt))
      ∙ more_at inputs (paces_from kernel 1 least) _ kernel.signals within j d (omega (arith, lt, paces_count kernel 1 least)))
      ∙ pace_is_boolean 1 least j d lt

  module _ (flows : List (List ℤ)) (fit : AreFlowsFor kernel flows)
      (values : (k : ℕ) (input : Signal) → k < length (inputs_of kernel) → AllByRecursion (IsValue Bounded (get_or (inputs_of kernel) k input).kind) (get_or flows k []))
      (are_fit : (all : List (List ℤ)) → length all ≡ length (inputs_of (paced_kernel kernel least))
      → ((k : ℕ) (input : Signal) → k < length (inputs_of (paced_kernel kernel least))
      → AllByRecursion (IsValue Bounded (get_or (inputs_of (paced_kernel kernel least)) k input).kind) (get_or all k []))
      → AreFlowsFor (paced_kernel kernel least) all)
      (traces : HasTracesOf kernel least) (trace : Trace) (is : IsTraceIn Bounded kernel trace) (fits : Fits flows trace) where
    each : (wide : Trace) × IsTraceIn Bounded (paced_kernel kernel least) wide × (map (without_paces kernel least) wide ≡ trace)
        × ((number j m : ℕ) (instant wide_instant : Instant) → slice_get trace number ≡ Some instant → slice_get wide number ≡ Some wide_instant
        → slice_get least j ≡ Some m → seen_at wide_instant (inputs + j) ≡ paced_seen instant m)
    each = traces.each Bounded trace is

    abbrev wide : Trace
    wide = each.0

    abbrev paces : List (List ℤ)
    paces = map (λ j. flow_of (inputs + j) wide) (range_with_len 0 more)

    count_of_flows : length flows ≡ inputs
    count_of_flows = fit.count ∙ length-take-le inputs kernel.signals within

    count_of_paces : length paces ≡ more
    count_of_paces = length-map-range_with_len (λ j. flow_of (inputs + j) wide) 0 more

    pace_at : (j : ℕ) → j < more → get_or paces j [] ≡ flow_of (inputs + j) wide
    pace_at j lt = get_or-map-range_with_len (λ i. flow_of (inputs + i) wide) 0 more j j [] lt (omega arith)

    truths : (j : ℕ) → j < more → AllByRecursion (IsValue Bounded Boolean) (flow_of (inputs + j) wide)
    truths j lt =
        let m : ℕ = get_or least j 0 in
        told_truths (inputs + j) m trace wide (sym (length-map wide (without_paces kernel least)) ∙ ap length each.2)
        (λ number instant wide_instant old new. each.3 number j m instant wide_instant old new (slice_get-get_or least j 0 lt))

    all_values : (k : ℕ) (input : Signal) → k < length (inputs_of (paced_kernel kernel least))
        → AllByRecursion (IsValue Bounded (get_or (inputs_of (paced_kernel kernel least)) k input).kind) (get_or (flows ++ paces) k [])
    all_values k input lt = elim (cases_lt k inputs) [
      | inl low ↦ subst (λ flow. AllByRecursion (IsValue Bounded (get_or (inputs_of (paced_kernel kernel least)) k input).kind) flow)
          (sym (get_or_append_left flows paces [] k (omega (arith, low, count_of_flows))))
          (subst (λ (s : Signal). AllByRecursion (IsValue Bounded s.kind) (get_or flows k [])) (sym (old_input k input low))
          (values k input (omega (arith, low, length-take-le inputs kernel.signals within))))
      | inr high ↦ (
          let j : ℕ = k - inputs in
          let there : inputs + j ≡ k = omega (arith, high) in
          let few : j < more = omega (arith, high, lt, count_of_inputs) in
          let flow : get_or (flows ++ paces) (inputs + j) [] ≡ flow_of (inputs + j) wide =
          ap (λ n. get_or (flows ++ paces) (n + j) []) (sym count_of_flows) ∙ get_or-append-add flows paces j [] ∙ pace_at j few in
          subst (λ i. AllByRecursion (IsValue Bounded (get_or (inputs_of (paced_kernel kernel least)) i input).kind) (get_or (flows ++ paces) i [])) there
          (subst (λ kind. AllByRecursion (IsValue Bounded kind) (get_or (flows ++ paces) (inputs + j) [])) (sym (pace_input j input few))
          (subst (AllByRecursion (IsValue Bounded Boolean)) (sym flow) (truths j few))))
    ]

    fit_paces : FitPaces kernel paces wide
    fit_paces j lt = ([], sym (append-nil (get_or paces j [])) ∙ ap (λ flow. flow ++ []) (pace_at j (omega (arith, lt, count_of_paces))))

    pub has_paces : HasPaces kernel least flows trace
    has_paces = record {
      wide = wide;
      paces = paces;
      is = each.1;
      fit = are_fit (flows ++ paces) (length-append flows paces ∙ omega (arith, count_of_flows, count_of_paces, count_of_inputs)) all_values;
      fits = (fits_in_parts kernel least valid flows paces count_of_flows wide).1
          (subst (Fits flows) (sym each.2) fits, fit_paces);
      left = each.2;
    }

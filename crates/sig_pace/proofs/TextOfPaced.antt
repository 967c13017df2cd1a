-- The text of a trace of a paced kernel is that of the trace without the paces.
use Rattle.sig_pace.proofs.Common.{◌≡◌, ◌<◌, ◌≤◌, ◌+◌, ◌++◌, ◌∙◌, ℕ, suc, List, [], ◌∷◌, length, map, take, drop, get_or, refl, sym, ap, arith, None, drop-append-add, drop-append_seam, get_or-drop, length-drop, length-take, length-take-le, take-append-le, Instant, Seen, Signal, Trace, instant_text, output_text, outputs_of, seen_line, seen_lines, IsValid, Kernel, marks_from, paced_kernel, paces_from, without_paces}
use Rattle.sig_pace.proofs.Places.{paces_count}
use Rattle.sig_pace.proofs.Rooms.{moved_above}
use Rattle.sig_pace.proofs.TracesWithoutPaces.{left_out}

-- ---- the lines of signals that are seen alike

no_lines : (signals : List Signal) → seen_lines signals [] ≡ []
no_lines [] = refl
no_lines (signal ∷ signals) = refl

lines_alike : (signals : List Signal) (a b : List Seen) → ((i : ℕ) → i < length signals → get_or a i None ≡ get_or b i None) → seen_lines signals a ≡ seen_lines signals b
lines_alike (signal ∷ signals) [] (s ∷ b) same =
    sym (no_lines signals) ∙ lines_alike signals [] b (λ i lt. same (suc i) (omega (arith, lt))) ∙ ap (λ seen. seen_line signal seen ++ seen_lines signals b) (same 0 (omega arith))
lines_alike (signal ∷ signals) (s ∷ a) [] same =
    ap (λ seen. seen_line signal seen ++ seen_lines signals a) (same 0 (omega arith)) ∙ lines_alike signals a [] (λ i lt. same (suc i) (omega (arith, lt))) ∙ no_lines signals
lines_alike (signal ∷ signals) (s ∷ a) (t ∷ b) same =
    λ j. seen_line signal (same 0 (omega arith) j) ++ lines_alike signals a b (λ i lt. same (suc i) (omega (arith, lt))) j
lines_alike _ _ _ same = refl

module _ (kernel : Kernel) (least : List ℕ) (valid : IsValid kernel) where
  abbrev more : ℕ
  more = length least

  abbrev behind_inputs : List Signal
  behind_inputs = drop kernel.inputs kernel.signals

  abbrev last : List Signal
  last = marks_from kernel 1 least

  within : kernel.inputs ≤ length kernel.signals
  within = omega (arith, valid.parts.interface, valid.parts.declared)

  -- the outputs are the same signals
  signals_behind : drop (kernel.inputs + more) (paced_kernel kernel least).signals ≡ behind_inputs ++ last
  signals_behind =
      ap (λ k. drop (k + more) (paced_kernel kernel least).signals) (sym (length-take-le kernel.inputs kernel.signals within))
      ∙ drop-append-add (take kernel.inputs kernel.signals) (paces_from kernel 1 least ++ (behind_inputs ++ last)) more
      ∙ ap (λ k. drop k (paces_from kernel 1 least ++ (behind_inputs ++ last))) (sym (paces_count kernel 1 least))
      ∙ drop-append_seam (paces_from kernel 1 least) (behind_inputs ++ last)

  outputs_same : outputs_of (paced_kernel kernel least) ≡ outputs_of kernel
  outputs_same =
      ap (take kernel.outputs) signals_behind
      ∙ take-append-le kernel.outputs behind_inputs last (omega (arith, length-drop kernel.inputs kernel.signals, valid.parts.interface, valid.parts.declared))

  -- and they are seen alike
  seen_same : (wide : Instant) (i : ℕ) → i < length (outputs_of kernel)
      → get_or (drop (kernel.inputs + more) wide) i None ≡ get_or (drop kernel.inputs (without_paces kernel least wide)) i None
  seen_same wide i lt =
      let there : kernel.inputs + i < length kernel.signals =
      omega (arith, lt, length-take kernel.outputs behind_inputs, length-drop kernel.inputs kernel.signals, within) in
      let place : kernel.inputs + i + more ≡ kernel.inputs + more + i = omega arith in
      get_or-drop (kernel.inputs + more) wide i None
      ∙ ap (λ k. get_or wide k None) (sym (moved_above kernel.inputs more (kernel.inputs + i) (omega arith) ∙ place))
      ∙ sym (left_out kernel least wide (kernel.inputs + i) there)
      ∙ sym (get_or-drop kernel.inputs (without_paces kernel least wide) i None)

  instant_same : (wide : Instant) → instant_text (paced_kernel kernel least) wide ≡ instant_text kernel (without_paces kernel least wide)
  instant_same wide =
      ap (λ outputs. seen_lines outputs (drop (kernel.inputs + more) wide)) outputs_same
      ∙ lines_alike (outputs_of kernel) (drop (kernel.inputs + more) wide) (drop kernel.inputs (without_paces kernel least wide)) (seen_same wide)

  pub text_without_paces : (wide : Trace) → output_text (paced_kernel kernel least) wide ≡ output_text kernel (map (without_paces kernel least) wide)
  text_without_paces [] = refl
  text_without_paces (instant ∷ wide) = λ j. instant_same instant j ++ text_without_paces wide j

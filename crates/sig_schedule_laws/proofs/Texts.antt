-- The text that is committed begins that of the reference.
use Rattle.sig_schedule_laws.proofs.Common.{◌≡◌, ◌-◌, ◌++◌, [], ◌∷◌, length, map, take, drop, refl, ap, sym, ◌∙◌, arith, Some, slice_get, range_with_len, length-drop, length-take, take-append-drop, Instant, IsPrefixOf, Trace, seen_at, dropped_at, same_lines, instant_text, output_text, outputs_of, seen_lines, IsValid, Kernel, Actor, Core, Given, reactions_text, IsOnReference, reactions_of, reaction_in, IsAccepted, some_at, flat_map-append}

module _ (kernel : Kernel) (valid : IsValid kernel) where
  lines_are : (instant : Instant) → seen_lines (outputs_of kernel) (reaction_in kernel (seen_at instant)) ≡ instant_text kernel instant
  lines_are instant =
      let count : length (outputs_of kernel) ≡ kernel.outputs =
      omega (arith, length-take kernel.outputs (drop kernel.inputs kernel.signals), length-drop kernel.inputs kernel.signals, valid.parts.interface, valid.parts.declared) in
      ap (λ n. seen_lines (outputs_of kernel) (map (seen_at instant) (range_with_len kernel.inputs n))) (sym count)
      ∙ same_lines (outputs_of kernel) (seen_at instant) kernel.inputs (drop kernel.inputs instant) (λ k lt. sym (dropped_at kernel.inputs instant k))

  pub text_is : (trace : Trace) → reactions_text kernel (reactions_of kernel trace) ≡ output_text kernel trace
  text_is [] = refl
  text_is (instant ∷ trace) = (λ t. lines_are instant t ++ text_is trace t)

module _ (given : Given) (accepted : IsAccepted given.plan) (reference : Trace) (core : Core) (on : IsOnReference given reference core) where
  pub committed_text : (collector : Actor) → slice_get core.actors (length given.plan.codes - 1) ≡ Some collector
      → reactions_text given.plan.kernel core.committed ≡ output_text given.plan.kernel (take (collector.instant - 1) reference)
  committed_text collector at = ap (reactions_text given.plan.kernel) (on.committed collector at) ∙ text_is given.plan.kernel accepted.valid (take (collector.instant - 1) reference)

  pub committed_begins : IsPrefixOf (reactions_text given.plan.kernel core.committed) (output_text given.plan.kernel reference)
  committed_begins =
      let actors = accepted.codes.actors in
      let count = on.actors in
      let collector = some_at core.actors (length given.plan.codes - 1) (omega (arith, actors, count)) in
      let n = collector.0.instant - 1 in (
        output_text given.plan.kernel (drop n reference),
        ap (output_text given.plan.kernel) (sym (take-append-drop n reference)) ∙ flat_map-append (λ instant. instant_text given.plan.kernel instant) (take n reference) (drop n reference)
            ∙ ap (λ text. text ++ output_text given.plan.kernel (drop n reference)) (sym (committed_text collector.0 collector.1)),
      )

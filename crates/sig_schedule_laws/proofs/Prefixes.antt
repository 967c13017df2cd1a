-- What an end of a link gives or takes before a step begins what the link carries over the reference.
use Rattle.sig_schedule_laws.proofs.Common.{◌≡◌, ◌≤◌, ◌-◌, ◌++◌, ℕ, ℤ, List, [], ◌∷◌, length, take, drop, ap, sym, ◌∙◌, None, Option, Some, flat_map, slice_get, if◌then◌else◌, filter_map, append_assoc, append_cancel_left, take-append-drop, Instant, IsPrefixOf, Trace, seen_at, AreFlowsFor, guard_holds, Yield, instant_at, yielded_before, yielded_in, IsReference, CodeView, IsAccepted, PlanView, Step, StepKind, LinkInfo, filter_map-append, flat_map-append, taken_get}
use Rattle.sig_schedule_laws.proofs.Ends.{IsLinkEnd, carried_at, in_instant}
use Rattle.sig_schedule_laws.proofs.Instants.{instants_to, next_at, next_some}
use Rattle.sig_schedule_laws.proofs.Lists.{joined_push, joined_same}

-- two lists that begin one list, each longer than the same front, go on alike
pub same_next : (whole front more other : List ℤ) (a b : ℤ) → IsPrefixOf (front ++ a ∷ more) whole → IsPrefixOf (front ++ b ∷ other) whole → a ≡ b
same_next whole front more other a b one two =
    let e : front ++ (a ∷ more ++ one.0) ≡ front ++ (b ∷ other ++ two.0) = sym (append_assoc front (a ∷ more) one.0) ∙ sym one.1 ∙ two.1 ∙ append_assoc front (b ∷ other) two.0 in
    let tails : a ∷ (more ++ one.0) ≡ b ∷ (other ++ two.0) = append_cancel_left front (a ∷ more ++ one.0) (b ∷ other ++ two.0) e in
    cc

module _ (plan : PlanView) (accepted : IsAccepted plan) (flows : List (List ℤ)) (fit : AreFlowsFor plan.kernel flows) (reference : Trace) (is : IsReference plan.kernel flows (length reference) reference)
    (link : ℕ) (info : LinkInfo) (at : slice_get plan.links link ≡ Some info) where
  abbrev pub carried_over : Trace → List ℤ
  carried_over trace = flat_map (λ instant. carried_at instant info.signal) trace

  module _ (k : ℕ) (code : CodeView) (coded : slice_get plan.codes k ≡ Some code) (yield : Yield) (K M : StepKind) (end : IsLinkEnd plan accepted link info at k yield K M) where
    pub at_instant : (m : ℕ) (instant : Instant) → slice_get reference m ≡ Some instant → yielded_in plan code yield instant code.steps ≡ carried_at instant info.signal
    at_instant m instant there =
        let next = next_some plan accepted flows fit reference is m instant there in
        in_instant plan accepted link info at next.0 next.1 instant next.2 k code coded yield K M end

    pub begins_carried : (i : ℕ) → 1 ≤ i → i ≤ length reference → (s : ℕ) → IsPrefixOf (yielded_before plan code yield reference i s) (carried_over reference)
    begins_carried i from within s = (
      filter_map given (drop s code.steps) ++ carried_over (drop i reference),
      ap carried_over (sym (take-append-drop i reference) ∙ ap (λ t. t ++ drop i reference) (instants_to reference i from within))
          ∙ flat_map-append (λ instant. carried_at instant info.signal) (past ++ now ∷ []) (drop i reference)
          ∙ ap (λ items. items ++ carried_over (drop i reference)) (joined_push (λ instant. carried_at instant info.signal) past now ∙ ap (λ items. items ++ carried_at now info.signal) (sym earlier) ∙ ap (λ items. before ++ items) (sym here ∙ split))
          ∙ ap (λ items. items ++ carried_over (drop i reference)) (sym (append_assoc before (filter_map given (take s code.steps)) (filter_map given (drop s code.steps))))
          ∙ append_assoc (before ++ filter_map given (take s code.steps)) (filter_map given (drop s code.steps)) (carried_over (drop i reference)),
    ) where
      past : Trace
      past = take (i - 1) reference

      now : Instant
      now = instant_at reference i

      given : Step → Option ℤ
      given step = if guard_holds plan code (seen_at now) step then yield now step.kind else None

      before : List ℤ
      before = flat_map (λ instant. yielded_in plan code yield instant code.steps) past

      earlier : before ≡ carried_over past
      earlier = joined_same (λ instant. yielded_in plan code yield instant code.steps) (λ instant. carried_at instant info.signal) past (λ m instant there. at_instant m instant (taken_get (i - 1) reference m instant there).1)

      here : yielded_in plan code yield now code.steps ≡ carried_at now info.signal
      here =
          let next = next_at plan accepted flows fit reference is i from within in
          in_instant plan accepted link info at _ _ now next k code coded yield K M end

      split : filter_map given code.steps ≡ filter_map given (take s code.steps) ++ filter_map given (drop s code.steps)
      split = ap (filter_map given) (sym (take-append-drop s code.steps)) ∙ filter_map-append given (take s code.steps) (drop s code.steps)

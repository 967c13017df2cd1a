-- What events have committed is the first instants of the longest trace.
use Rattle.sig_play_command.proofs.Common.{◌≡◌, ◌≤◌, ◌+◌, ◌-◌, ◌∙◌, List, length, take, sym, ap, subst, arith, Option, Some, slice_get, length-map, length-take, take-map, take_at, Instant, Trace, Seen, seen_at, Place, fitting, some_reference, Actor, AreFlowsFor, IsAccepted, IsEnd, IsReference, IsOnReference, IsSound, Core as ModelCore, Given, after, after_on, after_sound, reaction_in, reactions_begin, reactions_of, reactions_text, output_text, text_is, Event, Ended, committed_in, instants_before, some_at}

module _ (given : Given) (accepted : IsAccepted given.plan) (fit : AreFlowsFor given.plan.kernel given.flows) (events : List Event) where
  abbrev left : ModelCore
  left = after given events

  abbrev reference : Trace
  reference = (some_reference (fitting given.plan accepted given.flows fit) (given.limit + 1)).0

  exact : length reference ≡ given.limit + 1
  exact = (some_reference (fitting given.plan accepted given.flows fit) (given.limit + 1)).1.instants

  is : IsReference given.plan.kernel given.flows (length reference) reference
  is = subst (λ count. IsReference given.plan.kernel given.flows count reference) (sym exact)
      (some_reference (fitting given.plan accepted given.flows fit) (given.limit + 1)).1

  long : given.limit + 1 ≤ length reference
  long = let e = exact in omega (arith, e)

  on : IsOnReference given reference left
  on = after_on given accepted fit reference is long events

  sound : IsSound given reference left
  sound = after_sound given accepted fit reference is long events

  collector : (actor : Actor) × (slice_get left.actors (length given.plan.codes - 1) ≡ Some actor)
  collector =
      let some = accepted.codes.actors in
      let count = on.actors in
      some_at left.actors (length given.plan.codes - 1) (omega (arith, some, count))

  -- as many as are before the instant of the collector
  count_is : length left.committed ≡ committed_in given.plan left
  count_is =
      let n = collector.0.instant - 1 in
      let begun = ap (λ (rs : List (List Seen)). length rs) (on.committed collector.0 collector.1) in
      let one = length-map (take n reference) (λ (instant : Instant). reaction_in given.plan.kernel (seen_at instant)) in
      let two = length-take n reference in
      let within = (on.each (length given.plan.codes - 1) collector.0 collector.1).within in
      let mine : committed_in given.plan left ≡ n = ap (λ (o : Option Actor). instants_before o) collector.1 in
      omega (arith, begun, one, two, within, mine)

  module _ (trace : Trace) (place : Option Place) (ended : Ended) (end : IsEnd given.plan given.flows given.limit trace place ended) where
    committed_is : left.committed ≡ reactions_of given.plan.kernel (take (committed_in given.plan left) trace)
    committed_is =
        let n = committed_in given.plan left in
        let begins = reactions_begin given accepted fit reference exact left on sound trace place ended end in
        sym (take_at left.committed begins.0 n count_is)
        ∙ ap (λ (rs : List (List Seen)). take n rs) (sym begins.1)
        ∙ take-map (λ (instant : Instant). reaction_in given.plan.kernel (seen_at instant)) n trace

    pub text_committed : reactions_text given.plan.kernel left.committed ≡ output_text given.plan.kernel (take (committed_in given.plan left) trace)
    text_committed =
        ap (λ (rs : List (List Seen)). reactions_text given.plan.kernel rs) committed_is
        ∙ text_is given.plan.kernel accepted.valid (take (committed_in given.plan left) trace)

-- Every interleaving leaves a state on the reference.
use Rattle.sig_schedule_laws.proofs.Common.{◌≡◌, ◌≤◌, ◌+◌, inl, inr, List, [], ◌∷◌, length, sym, subst, arith, None, Some, fold, Trace, AreFlowsFor, code_of, opening_actor, Core, Given, after, opening, stepped, IsOnReference, IsReference, Event, IsAccepted, IsSound, IsSoundActor, repeated}
use Rattle.sig_schedule_laws.proofs.EventsOnReference.{stepped_on}
use Rattle.sig_schedule_laws.proofs.Opening.{opening_on}
use Rattle.sig_schedule_laws.proofs.Sound.{stepped_sound}

module _ (given : Given) (accepted : IsAccepted given.plan) (fit : AreFlowsFor given.plan.kernel given.flows) (reference : Trace) (is : IsReference given.plan.kernel given.flows (length reference) reference)
    (long : given.limit + 1 ≤ length reference) where
  pub from_on : (events : List Event) (core : Core) → IsOnReference given reference core → IsOnReference given reference (fold (stepped given) core events)
  from_on [] core on = on
  from_on (event ∷ events) core on = from_on events (stepped given core event) (stepped_on given accepted fit reference long core on event)

  pub after_on : (events : List Event) → IsOnReference given reference (after given events)
  after_on events = from_on events (opening given.plan) (opening_on given accepted reference is (omega (arith, long)))

  -- and sound
  opening_sound : IsSound given reference (opening given.plan)
  opening_sound = record {
    actors = λ k actor at.
        let there = repeated (length given.plan.codes) k (opening_actor given.plan.kernel) actor at in
        subst (IsSoundActor given.plan given.flows reference (code_of given.plan k)) (sym there.1) (λ i s step o at_s kind past faulty. elim past [
          | inl before ↦ (let from = faulty.from in omega (arith, before, from))
          | inr both ↦ omega (arith, both.1)
        ]);
    word = λ place is. absurd (let e : None ≡ Some place = is in cc);
  }

  from_sound : (events : List Event) (core : Core) → IsOnReference given reference core → IsSound given reference core → IsSound given reference (fold (stepped given) core events)
  from_sound [] core on sound = sound
  from_sound (event ∷ events) core on sound =
      from_sound events (stepped given core event) (stepped_on given accepted fit reference long core on event) (stepped_sound given accepted fit reference core on sound event)

  pub after_sound : (events : List Event) → IsSound given reference (after given events)
  after_sound events = from_sound events (opening given.plan) (opening_on given accepted reference is (omega (arith, long))) opening_sound

-- What actors put out, beside the reference, the longest trace and what is committed.
use Rattle.sig_output_laws.proofs.Common.{◌≡◌, ◌<◌, ◌≤◌, ◌-◌, ◌+◌, ◌++◌, ◌⊎◌, inl, inr, ℕ, ℤ, List, [], ◌∷◌, length, take, refl, ap, sym, subst, ◌∙◌, arith, append_assoc, Option, None, Some, slice_get, at_most_or, Place, Actor, Ended, IsEnd, Fitting, fitting, some_reference, reference_begins, longest_cut, trace_is, Trace, IsPrefixOf, flow_of, one_begins_the_other, prefix_of_prefix, same_by_prefixes, signal_id, IsFinished, IsWriter, AreFlowsFor, IsReference, code_of, Core, Given, after, stepped, Event, IsAccepted, put_at_event, put_from, put_out, actor_coded, after_on, opening, yielded_before}
use Rattle.sig_output_laws.proofs.Ahead.{ahead}
use Rattle.sig_output_laws.proofs.Begins.{all_before, begins_before, begins_to, flow_prefix, front_begins, nothing_begins, take_longer}
use Rattle.sig_output_laws.proofs.EndedActors.{past_trace, writer_within}
use Rattle.sig_output_laws.proofs.PutOut.{has_put_out, none_puts}
use Rattle.sig_output_laws.proofs.Written.{written_at}

-- ---- more events

from_grows : (given : Given) (signal k : ℕ) (core : Core) (events more : List Event) → IsPrefixOf (put_from given signal k core events) (put_from given signal k core (events ++ more))
from_grows given signal k core [] more = (put_from given signal k core more, refl)
from_grows given signal k core (event ∷ events) more =
    let rest = from_grows given signal k (stepped given core event) events more in
    let now : List ℤ = put_at_event given signal k core event in
    (rest.0, ap (λ items. now ++ items) rest.1 ∙ sym (append_assoc now (put_from given signal k (stepped given core event) events) rest.0))

pub put_grows : (given : Given) (signal k : ℕ) (events more : List Event) → IsPrefixOf (put_out given signal k events) (put_out given signal k (events ++ more))
put_grows given signal k events more = from_grows given signal k (opening given.plan) events more

module _ (given : Given) (accepted : IsAccepted given.plan) (fit : AreFlowsFor given.plan.kernel given.flows) (reference : Trace) (is : IsReference given.plan.kernel given.flows (length reference) reference)
    (long : given.limit + 1 ≤ length reference) where
  -- an actor's own instants
  pub put_to : (signal k : ℕ) (events : List Event) → (lt : k < length given.plan.codes)
      → (let has = has_put_out given accepted fit reference long signal k is events lt in IsPrefixOf (put_out given signal k events) (flow_of signal (take has.actor.instant reference)))
  put_to signal k events lt =
      let has = has_put_out given accepted fit reference long signal k is events lt in
      let on = (after_on given accepted fit reference is long events).each k has.actor has.at in
      subst (λ items. IsPrefixOf items (flow_of signal (take has.actor.instant reference))) (sym has.puts)
      (begins_to given.plan accepted given.flows fit reference is (signal_id signal) k (code_of given.plan k) (actor_coded given.plan k lt) has.actor.instant on.from on.within has.actor.step)

  pub put_begins : (signal k : ℕ) (events : List Event) → IsPrefixOf (put_out given signal k events) (flow_of signal reference)
  put_begins signal k events = elim (at_most_or (length given.plan.codes) k) [
    | inl ge ↦ nothing_begins (put_out given signal k events) (flow_of signal reference) (none_puts given accepted fit reference long signal k is events ge)
    | inr lt ↦
        let has = has_put_out given accepted fit reference long signal k is events lt in
        prefix_of_prefix (put_out given signal k events) (flow_of signal (take has.actor.instant reference)) (flow_of signal reference) (put_to signal k events lt) (front_begins signal has.actor.instant reference)
  ]

  -- where the limit ends all, it is of the instants within the limit
  pub put_within : (signal k : ℕ) (events : List Event) → IsPrefixOf (put_out given signal k events) (flow_of signal (take given.limit reference))
  put_within signal k events = elim (at_most_or (length given.plan.codes) k) [
    | inl ge ↦ nothing_begins (put_out given signal k events) (flow_of signal (take given.limit reference)) (none_puts given accepted fit reference long signal k is events ge)
    | inr lt ↦
        let has = has_put_out given accepted fit reference long signal k is events lt in
        let on = (after_on given accepted fit reference is long events).each k has.actor has.at in
        elim has.within [
          | inl le ↦
              prefix_of_prefix (put_out given signal k events) (flow_of signal (take has.actor.instant reference)) (flow_of signal (take given.limit reference)) (put_to signal k events lt)
              (flow_prefix signal (take has.actor.instant reference) (take given.limit reference) (take_longer has.actor.instant given.limit reference le))
          | inr last ↦
              let number : has.actor.instant - 1 ≡ given.limit = omega (arith, last.0) in
              let first : put_out given signal k events ≡ yielded_before given.plan (code_of given.plan k) (written_at given.plan signal) reference has.actor.instant 0 =
              has.puts ∙ ap (λ s. yielded_before given.plan (code_of given.plan k) (written_at given.plan signal) reference has.actor.instant s) last.1 in
              subst (λ items. IsPrefixOf items (flow_of signal (take given.limit reference))) (sym first)
              (subst (λ n. IsPrefixOf (yielded_before given.plan (code_of given.plan k) (written_at given.plan signal) reference has.actor.instant 0) (flow_of signal (take n reference))) number
              (begins_before given.plan accepted given.flows fit reference is (signal_id signal) k (code_of given.plan k) (actor_coded given.plan k lt) has.actor.instant on.from on.within))
        ]
  ]

  -- with a collector
  pub put_ahead : (events : List Event) (signal k : ℕ) → k + 1 < length given.plan.codes
      → IsPrefixOf (put_out given signal k events) (flow_of signal (take (length (after given events).committed + given.capacity + 2) reference))
  put_ahead events signal k cluster =
      let lt : k < length given.plan.codes = omega (arith, cluster) in
      let has = has_put_out given accepted fit reference long signal k is events lt in
      let all = after_on given accepted fit reference is long events in
      let few = ahead given accepted fit reference (after given events) all k cluster has.actor has.at in
      let most : ℕ = length (after given events).committed + given.capacity + 2 in
      let le : has.actor.instant ≤ length (after given events).committed + given.capacity + 2 = omega (arith, few) in
      prefix_of_prefix (put_out given signal k events) (flow_of signal (take has.actor.instant reference)) (flow_of signal (take most reference)) (put_to signal k events lt)
      (flow_prefix signal (take has.actor.instant reference) (take most reference) (take_longer has.actor.instant most reference le))

-- ---- by a reference of one instant more than the limit

module _ (given : Given) (accepted : IsAccepted given.plan) (fit : AreFlowsFor given.plan.kernel given.flows) where
  abbrev f : Fitting given.plan.kernel given.flows
  f = fitting given.plan accepted given.flows fit

  reference : (trace : Trace) × IsReference given.plan.kernel given.flows (given.limit + 1) trace
  reference = some_reference f (given.limit + 1)

  long : given.limit + 1 ≤ length reference.0
  long = let count = reference.1.instants in omega (arith, count)

  is_reference : IsReference given.plan.kernel given.flows (length reference.0) reference.0
  is_reference = subst (λ n. IsReference given.plan.kernel given.flows n reference.0) (sym reference.1.instants) reference.1

  pub instants_ahead : (events : List Event) (k : ℕ) (actor : Actor) → k + 1 < length given.plan.codes → slice_get (after given events).actors k ≡ Some actor
      → actor.instant - 1 ≤ length (after given events).committed + given.capacity + 1
  instants_ahead events k actor cluster at = ahead given accepted fit reference.0 (after given events) (after_on given accepted fit reference.0 is_reference long events) k cluster actor at

  module _ (trace : Trace) (place : Option Place) (ended : Ended) (ends : IsEnd given.plan given.flows given.limit trace place ended) where
    longest_begins : IsPrefixOf trace reference.0
    longest_begins =
        let within = ends.longest.within in
        reference_begins f (length trace) (length reference.0) trace reference.0 (omega (arith, within, long)) (longest_cut f given.limit trace ends.longest).reference is_reference

    pub put_and_longest : (signal k : ℕ) (events : List Event) → IsPrefixOf (put_out given signal k events) (flow_of signal trace) ⊎ IsPrefixOf (flow_of signal trace) (put_out given signal k events)
    put_and_longest signal k events =
        one_begins_the_other (put_out given signal k events) (flow_of signal trace) (flow_of signal reference.0) (put_begins given accepted fit reference.0 is_reference long signal k events)
        (flow_prefix signal trace reference.0 longest_begins)

  -- where all have ended, the actor that writes a signal has put out all of it
  pub put_all : (events : List Event) → IsFinished (after given events) → (trace : Trace) (place : Option Place) (ended : Ended) → IsEnd given.plan given.flows given.limit trace place ended
      → (signal k : ℕ) → IsWriter given signal k → IsPrefixOf (flow_of signal trace) (put_out given signal k events)
  put_all events finished trace place ended ends signal k writer =
      let lt : k < length given.plan.codes = writer_within given accepted signal k writer in
      let has = has_put_out given accepted fit reference.0 long signal k is_reference events lt in
      let all = after_on given accepted fit reference.0 is_reference long events in
      let on = all.each k has.actor has.at in
      let past = past_trace given accepted fit reference.0 long (after given events) all k has.actor has.at finished trace ends.longest in
      let front : trace ≡ take (length trace) reference.0 = sym (trace_is given.plan accepted given.flows fit reference.0 is_reference given.limit long trace ends.longest) in
      let shorter : IsPrefixOf trace (take (has.actor.instant - 1) reference.0) = subst (λ (t : Trace). IsPrefixOf t (take (has.actor.instant - 1) reference.0)) (sym front) (take_longer (length trace) (has.actor.instant - 1) reference.0 (omega (arith, past))) in
      subst (λ items. IsPrefixOf (flow_of signal trace) items) (sym has.puts)
      (prefix_of_prefix (flow_of signal trace) (flow_of signal (take (has.actor.instant - 1) reference.0)) (yielded_before given.plan (code_of given.plan k) (written_at given.plan signal) reference.0 has.actor.instant has.actor.step)
      (flow_prefix signal trace (take (has.actor.instant - 1) reference.0) shorter)
      (all_before given.plan accepted given.flows fit reference.0 is_reference (signal_id signal) k (code_of given.plan k) (actor_coded given.plan k lt) has.actor.instant on.from on.within writer.0 writer.1 writer.2 has.actor.step))

  pub put_without_failures : (trace : Trace) (ended : Ended) → IsEnd given.plan given.flows given.limit trace None ended
      → (signal k : ℕ) (events : List Event) → IsPrefixOf (put_out given signal k events) (flow_of signal trace)
  put_without_failures trace ended ends signal k events =
      let front : take given.limit reference.0 ≡ trace = ap (λ n. take n reference.0) (sym ends.cause.0) ∙ trace_is given.plan accepted given.flows fit reference.0 is_reference given.limit long trace ends.longest in
      subst (λ (t : Trace). IsPrefixOf (put_out given signal k events) (flow_of signal t)) front (put_within given accepted fit reference.0 is_reference long signal k events)

  pub put_exactly : (events : List Event) → IsFinished (after given events) → (trace : Trace) (ended : Ended) → IsEnd given.plan given.flows given.limit trace None ended
      → (signal k : ℕ) → IsWriter given signal k → put_out given signal k events ≡ flow_of signal trace
  put_exactly events finished trace ended ends signal k writer =
      same_by_prefixes (put_out given signal k events) (flow_of signal trace) (put_without_failures trace ended ends signal k events) (put_all events finished trace None ended ends signal k writer)

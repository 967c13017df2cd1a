-- An actor that has ended, where all have, has gone past the longest trace.
use Rattle.sig_output_laws.proofs.Common.{◌≡◌, ◌<◌, ◌≤◌, ◌+◌, inl, inr, ℕ, Bool, true, false, length, refl, subst, arith, Option, None, Some, nat_lt, ltb-false, ltb-true, eqb-true, ◌==◌, ◌&&◌, ◌||◌, slice_get, got, Place, Trace, AreFlowsFor, IsKernelTrace, IsLongest, Actor, code_of, next_place, Core, Given, IsFinished, is_before, word_before, HasReason, IsFaulty, IsOnReference, IsWordOn, IsAccepted, IsWriter, cluster_under, none_before}

instants_rise : (a b : Place) → is_before a b ≡ true → a.instant ≤ b.instant
instants_rise a b is = by (nat_lt a.instant b.instant) refl is where
  same : (x y : Bool) → (x && y) ≡ true → x ≡ true
  same true y e = refl
  same false y e = absurd (let f : false ≡ true = e in cc)

  by : (less : Bool) → nat_lt a.instant b.instant ≡ less → (less || ((a.instant == b.instant) && nat_lt a.pos b.pos)) ≡ true → a.instant ≤ b.instant
  by true lt e = let less = ltb-true a.instant b.instant lt in omega (arith, less)
  by false ge e = let equal = eqb-true a.instant b.instant (same (a.instant == b.instant) (nat_lt a.pos b.pos) e) in omega (arith, equal)

-- the actor that writes a signal is there
pub writer_within : (given : Given) → IsAccepted given.plan → (signal k : ℕ) → IsWriter given signal k → k < length given.plan.codes
writer_within given accepted signal k writer =
    let under = cluster_under 1 given.plan.kernel.signals signal writer.0 writer.1 in
    let clusters = accepted.split.clusters in
    let actors = accepted.codes.actors in
    let own = writer.2 in
    omega (arith, under, clusters, actors, own)

module _ (given : Given) (accepted : IsAccepted given.plan) (fit : AreFlowsFor given.plan.kernel given.flows) (reference : Trace) (long : given.limit + 1 ≤ length reference) (core : Core) (on : IsOnReference given reference core)
    (k : ℕ) (actor : Actor) (at_k : slice_get core.actors k ≡ Some actor) where
  reason : IsFinished core → HasReason given reference core.word (code_of given.plan k) actor
  reason finished = let there = got core.actors k actor actor at_k in on.ended k actor at_k (subst (λ (b : Actor). b.ended ≡ true) there.1 (finished k actor there.0))

  module _ (trace : Trace) (longest : IsLongest (IsKernelTrace given.plan.kernel) given.flows given.limit trace) where
    -- the reference has its faults after the longest trace
    fault_after : (place : Place) → IsFaulty given.plan given.flows reference place → length trace < place.instant
    fault_after place faulty = by (nat_lt (length trace) place.instant) refl where
      by : (b : Bool) → nat_lt (length trace) place.instant ≡ b → length trace < place.instant
      by true lt = ltb-true (length trace) place.instant lt
      by false ge = absurd (none_before given.plan accepted given.flows fit reference on.is given.limit long trace longest place faulty (ltb-false (length trace) place.instant ge))

    by_word : (word : Option Place) → IsWordOn given reference word → word_before word (next_place (code_of given.plan k) actor) ≡ true → length trace < actor.instant
    by_word None is before = absurd (let e : false ≡ true = before in cc)
    by_word (Some place) faulty before = let after_trace = fault_after place faulty in let rise = instants_rise place (next_place (code_of given.plan k) actor) before in omega (arith, after_trace, rise)

    by_reason : HasReason given reference core.word (code_of given.plan k) actor → length trace < actor.instant
    by_reason (inl past) = let within = longest.within in omega (arith, past, within)
    by_reason (inr (inl own)) = fault_after (next_place (code_of given.plan k) actor) own.0
    by_reason (inr (inr before)) = by_word core.word on.word before

module _ (given : Given) (accepted : IsAccepted given.plan) (fit : AreFlowsFor given.plan.kernel given.flows) (reference : Trace) (long : given.limit + 1 ≤ length reference) (core : Core) (on : IsOnReference given reference core)
    (k : ℕ) (actor : Actor) (at_k : slice_get core.actors k ≡ Some actor) (finished : IsFinished core) (trace : Trace) (longest : IsLongest (IsKernelTrace given.plan.kernel) given.flows given.limit trace) where
  pub past_trace : length trace < actor.instant
  past_trace = by_reason given accepted fit reference long core on k actor at_k trace longest (reason given accepted fit reference long core on k actor at_k finished)

-- How many instants a cluster is ahead of the collector.
use Rattle.sig_output_laws.proofs.Common.{◌≡◌, ◌<◌, ◌≤◌, ◌-◌, ◌+◌, ℕ, ℤ, pos, List, [], ◌∷◌, length, length-append, length-map, take, refl, ap, sym, subst, ◌∙◌, arith, Contains, Some, slice_get, slice_index_or, flat_map, at_contained, some_at, slice_get_within, Trace, Instant, seen_at, AreFlowsFor, Actor, code_of, Core, Given, IsActorOn, IsOnReference, instant_at, sent_on, taken_from, yielded_before, yielded_in, IsAccepted, LinkInfo, report_link, Send, Report, Receive, Collect, reaction_in, actor_coded, instants_before, report_contained, reader_end, writer_end, carried_before, counted, front_fewer}

-- a list with one item for each of another one
one_each : {A : Type 0} (xs : List A) → length (flat_map (λ x. pos 0 ∷ []) xs) ≡ length xs
one_each {A} [] = refl
one_each {A} (x ∷ xs) = let rest = one_each xs in omega (arith, rest)

module _ (given : Given) (accepted : IsAccepted given.plan) (fit : AreFlowsFor given.plan.kernel given.flows) (reference : Trace) (core : Core) (on : IsOnReference given reference core)
    (k : ℕ) (cluster : k + 1 < length given.plan.codes) (actor : Actor) (at_k : slice_get core.actors k ≡ Some actor) where
  abbrev collects : ℕ
  collects = accepted.parts.clusters

  clusters : length given.plan.codes ≡ collects + 1
  clusters = accepted.codes.actors

  report : Contains accepted.parts.links (report_link collects k)
  report = let count = clusters in report_contained given.plan accepted k (omega (arith, cluster, count))

  abbrev l : ℕ
  l = report.0

  abbrev info : LinkInfo
  info = report_link collects k

  at_l : slice_get given.plan.links l ≡ Some info
  at_l = subst (λ (ls : List LinkInfo). slice_get ls l ≡ Some info) accepted.links (at_contained accepted.parts.links info report)

  collector : (a : Actor) × (slice_get core.actors collects ≡ Some a)
  collector = let count = clusters in let actors = on.actors in some_at core.actors collects (omega (arith, count, actors))

  coded_at : (m : ℕ) (a : Actor) → slice_get core.actors m ≡ Some a → slice_get given.plan.codes m ≡ Some (code_of given.plan m)
  coded_at m a at = let lt = slice_get_within core.actors m a at in let actors = on.actors in actor_coded given.plan m (omega (arith, lt, actors))

  abbrev own : IsActorOn given.plan reference (code_of given.plan k) actor
  own = on.each k actor at_k

  abbrev theirs : IsActorOn given.plan reference (code_of given.plan collects) collector.0
  theirs = on.each collects collector.0 collector.1

  -- before an instant there were as many reports as instants
  reports_before : (i : ℕ) → 1 ≤ i → i ≤ length reference → carried_before given.plan accepted given.flows fit reference on.is l info at_l i ≡ i - 1
  reports_before i from within = one_each (take (i - 1) reference) ∙ instants_before reference i from within

  sent : length (yielded_before given.plan (code_of given.plan k) (sent_on given.plan.links l) reference actor.instant actor.step)
      ≡ carried_before given.plan accepted given.flows fit reference on.is l info at_l actor.instant
      + length (yielded_in given.plan (code_of given.plan k) (sent_on given.plan.links l) (instant_at reference actor.instant) (take actor.step (code_of given.plan k).steps))
  sent = counted given.plan accepted given.flows fit reference on.is l info at_l k (code_of given.plan k) (coded_at k actor at_k) (sent_on given.plan.links l) (Send l) (Report l) (writer_end given.plan accepted l info at_l)
      actor.instant own.from own.within actor.step

  taken : length (yielded_before given.plan (code_of given.plan collects) (taken_from given.plan.links l) reference collector.0.instant collector.0.step)
      ≡ carried_before given.plan accepted given.flows fit reference on.is l info at_l collector.0.instant
      + length (yielded_in given.plan (code_of given.plan collects) (taken_from given.plan.links l) (instant_at reference collector.0.instant) (take collector.0.step (code_of given.plan collects).steps))
  taken = counted given.plan accepted given.flows fit reference on.is l info at_l collects (code_of given.plan collects) (coded_at collects collector.0 collector.1) (taken_from given.plan.links l) (Receive l) (Collect l) (reader_end given.plan accepted l info at_l)
      collector.0.instant theirs.from theirs.within collector.0.step

  -- the collector takes at most one report of an instant
  at_most_one : length (yielded_in given.plan (code_of given.plan collects) (taken_from given.plan.links l) (instant_at reference collector.0.instant) (take collector.0.step (code_of given.plan collects).steps)) ≤ 1
  at_most_one = front_fewer given.plan accepted given.flows fit reference on.is l info at_l collects (code_of given.plan collects) (coded_at collects collector.0 collector.1) (taken_from given.plan.links l) (Receive l) (Collect l) (reader_end given.plan accepted l info at_l)
      collector.0.instant theirs.from theirs.within collector.0.step

  committed_is : length core.committed ≡ collector.0.instant - 1
  committed_is =
      let count = clusters in
      let last : collects ≡ length given.plan.codes - 1 = omega (arith, count) in
      let front : List Instant = take (collector.0.instant - 1) reference in
      ap (λ reactions. length reactions) (on.committed collector.0 (ap (slice_get core.actors) (sym last) ∙ collector.1))
      ∙ length-map front (λ (instant : Instant). reaction_in given.plan.kernel (seen_at instant)) ∙ instants_before reference collector.0.instant theirs.from theirs.within

  pub ahead : actor.instant - 1 ≤ length core.committed + given.capacity + 1
  ahead =
      let items : List ℤ = slice_index_or core.links l [] in
      let even : length (yielded_before given.plan (code_of given.plan k) (sent_on given.plan.links l) reference actor.instant actor.step)
      ≡ length (yielded_before given.plan (code_of given.plan collects) (taken_from given.plan.links l) reference collector.0.instant collector.0.step) + length items =
      ap (λ (xs : List ℤ). length xs) (on.carried l info actor collector.0 at_l at_k collector.1)
      ∙ length-append (yielded_before given.plan (code_of given.plan collects) (taken_from given.plan.links l) reference collector.0.instant collector.0.step) items in
      let there = slice_get_within given.plan.links l info at_l in
      let links = on.links in
      let room = on.room l (omega (arith, there, links)) in
      let own_reports = reports_before actor.instant own.from own.within in
      let their_reports = reports_before collector.0.instant theirs.from theirs.within in
      omega (arith, sent, taken, at_most_one, committed_is, even, room, own_reports, their_reports)

-- What a step of a member leaves is what its own steps leave.
use Rattle.sig_work.proofs.Common.{◌≡◌, ◌<◌, ◌≤◌, ◌+◌, ◌++◌, ◌∙◌, inl, inr, ℕ, zero, suc, ℤ, true, false, cond, List, [], ◌∷◌, length, refl, ap, sym, subst, None, Option, Some, nat_lt, slice_get, eq-eqb, Place, Actor, code_of, ended_at, next_place, position_of, Given, Commits, Fails, Goes, Puts, Reaction, Stopped, Takes, Turn, turn, turn_at, IsAccepted, PlanView, HasTurned, IsOwn, Own, Acts, MayUse, ActsOn, DoesSteps, AllStay, Asked, LinkPast, OthersStay, Past, PastGoesOn, Queues, IsSameActor, IsStateOf, actor_of, last_reaction, place_of, Acted, Done, ClusterState, AreSameEnds, AreSameEnds-itself, HasEnds, past_of, puts_of, sent_of, taken_of, takes_of, EndsWith, HasActedAs, HasDone, IsMember, before_stop, failure_in, own_of, LinkEnds, Ending, Failed, AtLimit as EndedAtLimit, Member, cases_eq}
use Rattle.sig_flow.specs.OutputLines.{LinesInFront}
use Rattle.sig_model.specs.Turns.{AtLimit}
use Rattle.sig_step.specs.GoingOn.{DoesStep}
use Rattle.sig_work.proofs.WhatStays.{same_ends_then}
use Rattle.sig_work.proofs.OwnTurns.{IsTurn, is_turn, may_use, own_more}

-- the same links, with the same capacities
pub has_ends : (plan : PlanView) (capacity k : ℕ) (old new : LinkEnds) → HasEnds plan capacity k old → AreSameEnds old new → HasEnds plan capacity k new
has_ends plan capacity k old new has same = record {
  puts = same.puts ∙ has.puts;
  takes = same.takes ∙ has.takes;
  writes = λ link info at is.
      let was = has.writes link info at is in
      let now = same.put link was.0 was.1 in
      (now.0, now.1, now.3 ∙ was.2);
  reads = λ link info at is.
      let was = has.reads link info at is in
      let now = same.take link was.0 was.1 in
      (now.0, now.1);
}

module _ (given : Given) (accepted : IsAccepted given.plan) (number passed : ℕ) (s t : ClusterState) (e f : LinkEnds) (lines : LinesInFront) (committed : List Reaction)
    (state : IsStateOf given.plan given.flows t) (same : IsSameActor s t) (ends : AreSameEnds e f) where
  abbrev before : Option Ending → Member
  before ending = record { number = number; state = s; ends = e; ending = ending; passed = passed; lines = lines }

  abbrev behind : Option Ending → Member
  behind ending = record { number = number; state = t; ends = f; ending = ending; passed = passed; lines = lines }

  member : (ending wanted : Option Ending) → IsMember given number (before ending) → EndsWith wanted t.ended → IsMember given number (behind wanted)
  member ending wanted is now_is = record {
    numbered = refl;
    there = is.there;
    state = state;
    actor = same.actor ∙ is.actor;
    limit = same.limit ∙ is.limit;
    ends = has_ends given.plan given.capacity number e f is.ends ends;
    ending = now_is;
  }

  -- nothing changed
  module _ (ending : Option Ending) (now_is : actor_of t ≡ actor_of s) (stay : AllStay (past_of e) (past_of f)) where
    own_stays : own_of (behind ending) committed ≡ own_of (before ending) committed
    own_stays = λ j. record {
      actor = before_stop ending (now_is j);
      sent = λ link. (stay link j).sent;
      taken = λ link. (stay link j).taken;
      committed = committed;
      failed = failure_in ending;
    }

    still : HasDone given committed (before ending) → HasDone given committed (behind ending)
    still is = record {
      member = member ending ending is.member (subst (λ b. EndsWith ending b) (sym (ap (λ (a : Actor). a.ended) now_is)) is.member.ending);
      own = subst (λ (own : Own). IsOwn given number own) (sym own_stays) is.own;
    }

  -- the actor did its turn
  module _ (is : HasDone given committed (before None)) (asked : Asked) (pasts : PastGoesOn asked (past_of e) (past_of f)) where
    abbrev own_turn : Turn
    own_turn = turn given.plan given.flows given.limit number (actor_of s)

    stepped : (wanted : Option Ending) (all : List Reaction) → HasTurned own_turn (own_of (before None) committed) (own_of (behind wanted) all) → EndsWith wanted t.ended → HasDone given all (behind wanted)
    stepped wanted all turned now_is = record {
      member = member None wanted is.member now_is;
      own = own_more given number (own_of (before None) committed) (own_of (behind wanted) all) is.own turned;
    }

    turns : (tn : Turn) → own_turn ≡ tn → (all : List Reaction) (wanted : Option Ending) → HasTurned tn (own_of (before None) committed) (own_of (behind wanted) all) → HasTurned own_turn (own_of (before None) committed) (own_of (behind wanted) all)
    turns tn same_turn all wanted turned = subst (λ (x : Turn). HasTurned x (own_of (before None) committed) (own_of (behind wanted) all)) (sym same_turn) turned

    answers : (acted wanted : Acted) → acted ≡ wanted → HasActedAs given committed wanted (behind None) → HasActedAs given committed acted (behind None)
    answers acted wanted same_answer done = subst (λ (a : Acted). HasActedAs given committed a (behind None)) (sym same_answer) done

    past_by : (question : Asked) → asked ≡ question → PastGoesOn question (past_of e) (past_of f)
    past_by question same_question = subst (λ (q : Asked). PastGoesOn q (past_of e) (past_of f)) same_question pasts

    sent_stay : AllStay (past_of e) (past_of f) → (link : ℕ) → sent_of f link ≡ sent_of e link
    sent_stay stay link = ap (λ (p : LinkPast). p.sent) (stay link)

    taken_stay : AllStay (past_of e) (past_of f) → (link : ℕ) → taken_of f link ≡ taken_of e link
    taken_stay stay link = ap (λ (p : LinkPast). p.taken) (stay link)

    runs_on : (next : Actor) → actor_of t ≡ next → next.ended ≡ s.ended → t.ended ≡ false
    runs_on next now_is on = ap (λ (a : Actor). a.ended) now_is ∙ on ∙ is.member.ending

    -- a link of which one item more was sent, and one of which one more was taken
    module _ (link : ℕ) (item : ℤ) where
      pushed : (past_of f link ≡ record (past_of e link) { sent = sent_of e link ++ item ∷ [] }) → OthersStay link (past_of e) (past_of f) → (other : ℕ) → taken_of f other ≡ taken_of e other
      pushed here others other = elim (cases_eq other link) [
        | inl at ↦ subst (λ j. taken_of f j ≡ taken_of e j) (sym at) (ap (λ (p : LinkPast). p.taken) here)
        | inr apart ↦ ap (λ (p : LinkPast). p.taken) (others other apart)
      ]

      popped : (past_of f link ≡ record (past_of e link) { taken = taken_of e link ++ item ∷ [] }) → OthersStay link (past_of e) (past_of f) → (other : ℕ) → sent_of f other ≡ sent_of e other
      popped here others other = elim (cases_eq other link) [
        | inl at ↦ subst (λ j. sent_of f j ≡ sent_of e j) (sym at) (ap (λ (p : LinkPast). p.sent) here)
        | inr apart ↦ ap (λ (p : LinkPast). p.sent) (others other apart)
      ]

    -- the place of a failure is that of the next step
    failed_here : (place : Place) → place ≡ next_place (code_of given.plan number) (actor_of s) → actor_of t ≡ ended_at (actor_of s) → place ≡ place_of t
    failed_here place at now_is =
        let instant_is : (actor_of t).instant ≡ (actor_of s).instant = ap (λ (a : Actor). a.instant) now_is in
        let step_is : t.step ≡ s.step = ap (λ (a : Actor). a.step) now_is in
        let actor_is : t.actor ≡ number = same.actor ∙ is.member.actor in
        let position : t.pos ≡ position_of (slice_get (code_of given.plan number).steps s.step) =
        state.position ∙ ap (λ j. position_of (slice_get (code_of given.plan j).steps t.step)) actor_is ∙ ap (λ j. position_of (slice_get (code_of given.plan number).steps j)) step_is in
        at ∙ sym (λ j. record { instant = instant_is j; pos = position j })

    module _ (acted : Acted) where
      by_turn : (tn : Turn) → own_turn ≡ tn → IsTurn given.plan accepted number is.member.there given.flows given.limit (actor_of s) tn → Acts given.plan.kernel tn acted s t asked → HasActedAs given committed acted (behind None)
      by_turn Stopped same_turn does acts = absurd (let e : false ≡ true = sym is.member.ending ∙ does in cc)
      by_turn AtLimit same_turn does acts =
          let stay = past_by _ acts.asks in
          answers acted _ acts.answers
          (stepped (Some EndedAtLimit) committed (turns AtLimit same_turn committed (Some EndedAtLimit)
          (record { is = acts.is; commits = refl; fails = refl }, ((λ link. sent_stay stay link), (λ link. taken_stay stay link)))) (ap (λ (a : Actor). a.ended) acts.is))
      by_turn (Fails place) same_turn does acts =
          let stay = past_by _ acts.asks in
          answers acted _ acts.answers (
            stepped (Some (Failed place)) committed (turns (Fails place) same_turn committed (Some (Failed place))
                (record { is = acts.is; commits = refl; fails = refl }, ((λ link. sent_stay stay link), (λ link. taken_stay stay link)))) (ap (λ (a : Actor). a.ended) acts.is),
            failed_here place does.0 acts.is,
            subst (λ (p : Place). p.instant ≤ given.limit) (sym does.0) does.1,
          )
      by_turn (Goes next) same_turn does acts =
          let stay = past_by _ acts.asks in
          answers acted _ acts.answers
          (stepped None committed (turns (Goes next) same_turn committed None
          (record { is = acts.is; commits = refl; fails = refl }, ((λ link. sent_stay stay link), (λ link. taken_stay stay link)))) (runs_on next acts.is does))
      by_turn (Commits reaction next) same_turn does acts =
          let stay = past_by _ acts.0.asks in
          answers acted _ acts.0.answers (
            stepped None (committed ++ last_reaction given.plan.kernel t ∷ []) (turns (Commits reaction next) same_turn (committed ++ last_reaction given.plan.kernel t ∷ []) None
                (record { is = acts.0.is; commits = ap (λ r. committed ++ r ∷ []) acts.1; fails = refl }, ((λ link. sent_stay stay link), (λ link. taken_stay stay link)))) (runs_on next acts.0.is does.0),
            eq-eqb (number + 1) (length given.plan.codes) does.1,
          )
      by_turn (Puts link item next) same_turn does acts = elim acts [
        | inl went ↦
            let p = past_by _ went.asks in
            answers acted _ went.answers
            (stepped None committed (turns (Puts link item next) same_turn committed None (
              record { is = went.is; commits = refl; fails = refl },
              (record { here = ap (λ (q : LinkPast). q.sent) p.0; others = λ other apart. ap (λ (q : LinkPast). q.sent) (p.1 other apart) }, (λ other. pushed link item p.0 p.1 other)),
            )) (runs_on next went.is does))
        | inr full ↦ answers acted _ full.answers (still None full.is (past_by _ full.asks) is)
      ]
      by_turn (Takes link next) same_turn does acts = elim acts [
        | inl went ↦
            let p = past_by _ went.1.asks in
            answers acted _ went.1.answers
            (stepped None committed (turns (Takes link next) same_turn committed None (
              went.0,
              record { is = went.1.is; commits = refl; fails = refl },
              ((λ other. popped link went.0 p.0 p.1 other), record { here = ap (λ (q : LinkPast). q.taken) p.0; others = λ other apart. ap (λ (q : LinkPast). q.taken) (p.1 other apart) }),
            )) (runs_on (next went.0) went.1.is (does went.0)))
        | inr empty ↦ answers acted _ empty.answers (still None empty.is (past_by _ empty.asks) is)
      ]

  by_ending : (ending : Option Ending) → HasDone given committed (before ending) → (acted : Acted) (asked : Asked) → Acts given.plan.kernel (turn given.plan given.flows given.limit number (actor_of s)) acted s t asked
      → PastGoesOn asked (past_of e) (past_of f) → s.step < length (code_of given.plan number).steps → HasActedAs given committed acted (behind ending)
  by_ending None is acted asked acts pasts inside =
      by_turn is asked pasts acted (turn given.plan given.flows given.limit number (actor_of s)) refl (is_turn given.plan accepted number is.member.there given.flows given.limit (actor_of s) inside) acts
  by_ending (Some ending) is acted asked acts pasts inside =
      let stops : turn given.plan given.flows given.limit number (actor_of s) ≡ Stopped =
      ap (λ b. cond b Stopped (cond (nat_lt given.limit (actor_of s).instant) AtLimit (turn_at given.plan given.flows (code_of given.plan number) (actor_of s) (slice_get (code_of given.plan number).steps s.step)))) is.member.ending in
      let left = subst (λ (tn : Turn). Acts given.plan.kernel tn acted s t asked) stops acts in
      let stay = subst (λ (q : Asked). PastGoesOn q (past_of e) (past_of f)) left.asks pasts in
      subst (λ (a : Acted). HasActedAs given committed a (behind (Some ending))) (sym left.answers) (
        still (Some ending) left.is stay is,
        ap (λ (a : Actor). a.ended) left.is ∙ is.member.ending,
      )

pub acted_as : (given : Given) → IsAccepted given.plan → (m : Member) (t : ClusterState) (f : LinkEnds) (committed : List Reaction) → IsStateOf given.plan given.flows t → IsSameActor m.state t → AreSameEnds m.ends f
    → (acted : Acted) (asked : Asked) → Acts given.plan.kernel (turn given.plan given.flows m.state.limit m.state.actor (actor_of m.state)) acted m.state t asked → PastGoesOn asked (past_of m.ends) (past_of f)
    → HasDone given committed m → HasActedAs given committed acted (record m { state = t; ends = f })
acted_as given accepted m t f committed state same ends acted asked acts pasts is =
    let limited = subst (λ limit. Acts given.plan.kernel (turn given.plan given.flows limit m.state.actor (actor_of m.state)) acted m.state t asked) is.member.limit acts in
    let numbered = subst (λ k. Acts given.plan.kernel (turn given.plan given.flows given.limit k (actor_of m.state)) acted m.state t asked) is.member.actor limited in
    by_ending given accepted m.number m.passed m.state t m.ends f m.lines committed state same ends m.ending is acted asked numbered pasts (subst (λ k. m.state.step < length (code_of given.plan k).steps) is.member.actor is.member.state.step)

pub may_act : (given : Given) → IsAccepted given.plan → (m : Member) (committed : List Reaction) → HasDone given committed m → MayUse given.plan m.state.actor (puts_of m.ends) (takes_of m.ends)
may_act given accepted m committed is =
    subst (λ k. MayUse given.plan k (puts_of m.ends) (takes_of m.ends)) (sym is.member.actor) (may_use given.plan accepted m.number is.member.there given.capacity m.ends is.member.ends)

-- ---- several steps

-- what so many steps left, each of them done
module _ (given : Given) (accepted : IsAccepted given.plan) {E : Type 0} (ends_of : E → LinkEnds) (queues : E → Option Queues) (found_full found_empty : ℕ → E → E → Type 0) (m : Member) where
  abbrev with_it : ClusterState → E → Member
  with_it t f = record m { state = t; ends = ends_of f }

  abbrev past : E → Option Past
  past f = Some (past_of (ends_of f))

  abbrev same : E → E → Type 0
  same e f = AreSameEnds (ends_of e) (ends_of f)

  one_step : (committed : List Reaction) (acted : Acted) (s t : ClusterState) (e f : E) (count_before count_after : ℕ) → DoesStep past queues found_full found_empty same given.plan given.flows acted s t e f count_before count_after
      → HasDone given committed (with_it s e) → HasActedAs given committed acted (with_it t f)
  one_step committed acted s t e f count_before count_after step is =
      acted_as given accepted (with_it s e) t (ends_of f) committed step.state step.actor step.ends acted step.takes.asked step.takes.acts step.takes.asks.tells_past is

  several : (committed : List Reaction) (count : ℕ) (s t : ClusterState) (e f : E) (count_before count_after : ℕ) → DoesSteps past queues found_full found_empty same given.plan given.flows count s t e f count_before count_after
      → HasDone given committed (with_it s e) → HasDone given committed (with_it t f)
  several committed zero s t e f count_before count_after stays is =
      subst (λ (x : ClusterState). HasDone given committed (with_it x f)) (sym stays.0) (subst (λ (x : E). HasDone given committed (with_it s x)) (sym stays.1) is)
  several committed (suc count) s t e f count_before count_after done is =
      one_step committed Done done.0 t done.1 f done.2 count_after done.4 (several committed count s done.0 e done.1 count_before done.2 done.3 is)

  same_ends_of : (count : ℕ) (s t : ClusterState) (e f : E) (count_before count_after : ℕ) → DoesSteps past queues found_full found_empty same given.plan given.flows count s t e f count_before count_after → same e f
  same_ends_of zero s t e f count_before count_after stays = subst (λ (x : E). same e x) (sym stays.1) (AreSameEnds-itself (ends_of e))
  same_ends_of (suc count) s t e f count_before count_after done =
      same_ends_then (ends_of e) (ends_of done.1) (ends_of f) (same_ends_of count s done.0 e done.1 count_before done.2 done.3) done.4.ends

  pub acted_on : (committed : List Reaction) {more : ℕ} {acted : Acted} {s t : ClusterState} {e f : E} {count_before count_after : ℕ} → ActsOn past queues found_full found_empty same given.plan given.flows more acted s t e f count_before count_after
      → HasDone given committed (with_it s e) → HasActedAs given committed acted (with_it t f)
  acted_on committed {more} {acted} {s} {t} {e} {f} {count_before} {count_after} on is =
      one_step committed acted on.mid t on.between f on.amid count_after on.last (several committed on.count s on.mid e on.between count_before on.amid on.done is)

  pub ends_stay : {more : ℕ} {acted : Acted} {s t : ClusterState} {e f : E} {count_before count_after : ℕ} → ActsOn past queues found_full found_empty same given.plan given.flows more acted s t e f count_before count_after → same e f
  ends_stay {more} {acted} {s} {t} {e} {f} {count_before} on =
      same_ends_then (ends_of e) (ends_of on.between) (ends_of f) (same_ends_of on.count s on.mid e on.between count_before on.amid on.done) on.last.ends

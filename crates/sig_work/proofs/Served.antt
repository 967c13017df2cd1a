-- A member that did a step, which ended it or not.
use Rattle.sig_work.proofs.Common.{◌≡◌, ◌<◌, ◌≤◌, ◌+◌, ◌^◌, ◌∙◌, ℕ, ℤ, Bool, true, false, List, refl, ap, sym, subst, arith, None, Option, Some, IsTrue, ◌↔◌, min, no_place, packed, Place, IsSameSeat, recorded, seen, Halt, HaltSeat, Actor, Given, Reaction, PlanView, IsOwn, Own, IsStateOf, actor_of, place_of, ClusterState, AreSameEnds-itself, sent_of, taken_of, EndsWith, HasDone, IsBehindSeen, before_stop, failure_in, own_of, word_of, HasStopped, IsServed, KeepsMember, KeepsSeat, Ending, Failed, Looked, AtLimit, Faulted, Member}
use Rattle.sig_work.proofs.LiftedShares.{behind_lower}

-- a member whose actor runs has no ending
pub no_ending : (ending : Option Ending) (ended : Bool) → EndsWith ending ended → ended ≡ false → ending ≡ None
no_ending None ended noted is = refl
no_ending (Some ending) ended noted is = absurd (let e : true ≡ false = sym noted ∙ is in cc)

pub runs_unended : (given : Given) (word : Halt) (others : ℕ) (committed : List Reaction) (m : Member) (by : HaltSeat) → m.state.ended ≡ false → IsServed given word others committed m by → m.ending ≡ None
runs_unended given word others committed m by runs is = no_ending m.ending m.state.ended is.done.member.ending runs

-- ---- a running member did a step

module _ (given : Given) (word : Halt) (others : ℕ) (committed all : List Reaction) (old new : Member) (by : HaltSeat) (runs : old.state.ended ≡ false) (is : IsServed given word others committed old by) where
  unended : old.ending ≡ None
  unended = runs_unended given word others committed old by runs is

  none_failed : recorded by ≡ min others no_place
  none_failed = is.least ∙ ap (λ e. min others (word_of (failure_in e))) unended

  -- it goes on
  pub served_on : new.ending ≡ old.ending → HasDone given all new → IsServed given word others all new by
  served_on same done =
      let none : new.ending ≡ None = same ∙ unended in record {
        done = done;
        seat = is.seat;
        least = none_failed ∙ ap (λ e. min others (word_of (failure_in e))) (sym none);
        behind = subst (λ e. IsBehindSeen (seen by) e (place_of new.state)) (sym none) tt;
      }

  -- it ended at the limit
  pub served_to_limit : HasDone given all (record new { ending = Some AtLimit }) → IsServed given word others all (record new { ending = Some AtLimit }) by
  served_to_limit done = record { done = done; seat = is.seat; least = none_failed; behind = tt }

  -- it failed, and its seat recorded the place
  pub served_to_failure : (place : Place) (now : HaltSeat) → KeepsSeat by now → recorded now ≡ min (recorded by) (packed place) → packed place ≤ no_place → place ≡ place_of new.state
      → HasDone given all (record new { ending = Some (Failed place) }) → IsServed given word others all (record new { ending = Some (Failed place) }) now
  served_to_failure place now keeps least below at done = record {
    done = done;
    seat = keeps.same.0 ∙ is.seat;
    least = (let none = none_failed in omega (arith, none, least, below));
    behind = at;
  }

-- a place within a limit is one
pub some_place : (place : Place) (limit : ℕ) → place.instant ≤ limit → limit + 1 < 2 ^ 32 → place.pos < 2 ^ 32 → packed place < no_place
some_place place limit within few fits = omega (arith, within, few, fits)

-- ---- a look, and a stop

-- the actor of a state that was ended, before that
before_ended : (s : ClusterState) → s.ended ≡ false → record (actor_of (record s { ended = true })) { ended = false } ≡ actor_of s
before_ended s runs = λ j. record (actor_of s) { ended = sym runs j }

module _ (given : Given) (committed : List Reaction) (m : Member) (runs : m.state.ended ≡ false) (is : HasDone given committed m) (kept : IsStateOf given.plan given.flows (record m.state { ended = true })) where
  none : m.ending ≡ None
  none = no_ending m.ending m.state.ended is.member.ending runs

  -- as its own steps left it
  module _ (ending : Ending) (before : (actor : Actor) → before_stop (Some ending) actor ≡ record actor { ended = false }) (fails : failure_in (Some ending) ≡ None) where
    abbrev stopped : Member
    stopped = record m { state = record m.state { ended = true }; ending = Some ending }

    actor_is : before_stop (Some ending) (actor_of stopped.state) ≡ before_stop m.ending (actor_of m.state)
    actor_is = before (actor_of stopped.state) ∙ before_ended m.state runs ∙ sym (ap (λ e. before_stop e (actor_of m.state)) none)

    failed_is : failure_in (Some ending) ≡ failure_in m.ending
    failed_is = fails ∙ sym (ap failure_in none)

    own_is : own_of stopped committed ≡ own_of m committed
    own_is = λ j. record { actor = actor_is j; sent = sent_of m.ends; taken = taken_of m.ends; committed = committed; failed = failed_is j }

    stopped_done : HasDone given committed stopped
    stopped_done = record {
      member = record {
        numbered = refl;
        there = is.member.there;
        state = kept;
        actor = is.member.actor;
        limit = is.member.limit;
        ends = is.member.ends;
        ending = refl;
      };
      own = subst (λ (own : Own). IsOwn given m.number own) (sym own_is) is.own;
    }

  pub looked_done : HasDone given committed (record m { state = record m.state { ended = true }; ending = Some Looked })
  looked_done = stopped_done Looked (λ actor. refl) refl

  pub faulted_done : HasDone given committed (record m { state = record m.state { ended = true }; ending = Some Faulted })
  faulted_done = stopped_done Faulted (λ actor. refl) refl

-- ---- after a look

pub keeps_looked : (m : Member) (s : ClusterState) → s ≡ record m.state { ended = true } → KeepsMember m (record m { state = s; ending = Some Looked })
keeps_looked m s is = record {
  same = record { number = refl; ends = AreSameEnds-itself m.ends };
  ended = λ before. ap (λ (x : ClusterState). x.ended) is;
  unfaulted = λ e. absurd (let clash : Some Looked ≡ Some Faulted = e in cc);
}

pub keeps_state : (m : Member) (s : ClusterState) → s ≡ m.state → KeepsMember m (record m { state = s })
keeps_state m s is = record {
  same = record { number = refl; ends = AreSameEnds-itself m.ends };
  ended = λ before. ap (λ (x : ClusterState). x.ended) is ∙ before;
  unfaulted = λ e. e;
}

module _ (given : Given) (word : Halt) (others : ℕ) (committed : List Reaction) (m : Member) (by now : HaltSeat) (s : ClusterState) (found : ℕ) (is : IsServed given word others committed m by)
    (same : IsSameSeat by now) (recorded_same : recorded now ≡ recorded by) (found_is : seen now ≡ found) where
  pub looked_served : m.state.ended ≡ false → found < packed (place_of m.state) → s ≡ record m.state { ended = true } → IsStateOf given.plan given.flows s
      → IsServed given word others committed (record m { state = s; ending = Some Looked }) now
  looked_served runs before state kept = subst (λ (x : ClusterState). IsServed given word others committed (record m { state = x; ending = Some Looked }) now) (sym state) (record {
    done = looked_done given committed m runs is.done (subst (λ (x : ClusterState). IsStateOf given.plan given.flows x) state kept);
    seat = same.0 ∙ is.seat;
    least = recorded_same ∙ none_failed given word others committed committed m m by runs is;
    behind = omega (arith, before, found_is);
  })

  pub unlooked_served : s ≡ m.state → found ≤ seen by → IsServed given word others committed (record m { state = s }) now
  unlooked_served state below = subst (λ (x : ClusterState). IsServed given word others committed (record m { state = x }) now) (sym state) (record {
    done = is.done;
    seat = same.0 ∙ is.seat;
    least = recorded_same ∙ is.least;
    behind = behind_lower (seen by) (seen now) (omega (arith, below, found_is)) m.ending (place_of m.state) is.behind;
  })

-- ---- after a stop

pub stops : (m : Member) (s : ClusterState) → m.state.ended ≡ false → s ≡ record m.state { ended = true } → ((plan : PlanView) (flows : List (List ℤ)) → IsStateOf plan flows m.state → IsStateOf plan flows s)
    → HasStopped m (record m { state = s; ending = Some Faulted })
stops m s runs is kept = record {
  same = record { number = refl; ends = AreSameEnds-itself m.ends };
  ended = ap (λ (x : ClusterState). x.ended) is;
  done = λ given committed done. subst (λ (x : ClusterState). HasDone given committed (record m { state = x; ending = Some Faulted })) (sym is)
      (faulted_done given committed m runs done (subst (λ (x : ClusterState). IsStateOf given.plan given.flows x) is (kept given.plan given.flows done.member.state)));
}

pub stopped_before : (m : Member) (s : ClusterState) → s ≡ m.state → m.state.ended ≡ true → HasStopped m (record m { state = s })
stopped_before m s is ended = record {
  same = record { number = refl; ends = AreSameEnds-itself m.ends };
  ended = ap (λ (x : ClusterState). x.ended) is ∙ ended;
  done = λ given committed done. subst (λ (x : ClusterState). HasDone given committed (record m { state = x })) (sym is) done;
}

-- an actor for which a look below all places did nothing had ended
pub had_ended : (ended answer : Bool) (P : Type 0) → IsTrue answer ↔ ((ended ≡ false) × P) → P → answer ≡ false → ended ≡ true
had_ended true answer P answers p not_so = refl
had_ended false answer P answers p not_so = absurd (let e : false ≡ true = sym not_so ∙ answers.1 (refl, p) in cc)

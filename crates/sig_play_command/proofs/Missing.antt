-- A run without the text of the instants that are committed writes what is missing.
use Rattle.sig_play_command.proofs.Common.{◌≡◌, ◌++◌, ◌∙◌, ◌-◌, ℕ, ℤ, List, take, drop, refl, sym, ap, subst, None, Option, Some, Trace, Place, IsCore, Shows, given_of, IsEndOf, TookBehind, TookRest, output_text, IsWholeRest, TookSomeRest, rest_joined, one_end, Actor, IsAccepted, IsEnd, PlanView, Core as ModelCore, after, state_in, ActorState, same_Some, Event, Ended, committed_in, instants_before, TookPrefix}
use Rattle.sig_interleaving.specs.declared.state.Core.{Core}
use Rattle.sig_play_command.proofs.Committed.{text_committed}

-- ---- the instants before that of an actor that a core tells of

pub before_there : (o : Option Actor) (state : ActorState) → Some state ≡ state_in o → state.instant - 1 ≡ instants_before o
before_there None state is = absurd (let e : Some state ≡ None = is in cc)
before_there (Some actor) state is =
    ap (λ (s : ActorState). s.instant - 1) (same_Some state (record { instant = actor.instant; step = actor.step; ended = actor.ended }) is)

pub before_none : (o : Option Actor) → None ≡ state_in o → 0 ≡ instants_before o
before_none None is = refl
before_none (Some actor) is = absurd (let e : None ≡ state_in (Some actor) = is in cc)

-- ---- the rest

module _ (c : Core) (is : IsCore c) (accepted : IsAccepted c.plan.now) (written : ℕ) (counts : (m : ModelCore) → Shows m c → written ≡ committed_in c.plan.now m) {S : Type 0} (took : S → List ℕ → S → Type 0) (before after_it : S) where
  behind : (Took : S → List ℕ → S → Type 0) (events : List Event) → Shows (after (given_of c) events) c → (trace : Trace) (place : Option Place) (ended : Ended)
      → IsEnd c.plan.now c.inputs.now c.limit trace place ended → Took before (output_text c.plan.now.kernel (drop written trace)) after_it
      → TookBehind Took (after (given_of c) events) c trace before after_it
  behind Took events shows trace place ended end taken = record {
    rest = output_text c.plan.now.kernel (drop written trace);
    joined = ap (λ (text : List ℕ). text ++ output_text c.plan.now.kernel (drop written trace))
        (text_committed (given_of c) accepted is.fits events trace place ended end
        ∙ ap (λ (n : ℕ). output_text c.plan.now.kernel (take n trace)) (sym (counts (after (given_of c) events) shows)))
        ∙ rest_joined c.plan.now.kernel written trace;
    taken = taken;
  }

  -- all of it
  rest_whole : (answer : Ended) → IsWholeRest c.plan.now c.inputs.now c.limit written took before after_it answer → TookRest took c before after_it
  rest_whole answer whole events shows trace place ended end =
      let same = (one_end c.plan.now accepted c.inputs.now is.fits c.limit whole.trace trace whole.place place answer ended whole.end end).0 in
      behind took events shows trace place ended end
      (subst (λ (t : Trace). took before (output_text c.plan.now.kernel (drop written t)) after_it) same whole.text)

  -- a prefix of it
  rest_part : TookSomeRest c.plan.now c.inputs.now c.limit written took before after_it → TookRest (TookPrefix took) c before after_it
  rest_part part events shows trace place ended end = behind (TookPrefix took) events shows trace place ended end (part trace end.longest)

  -- and its end
  rest_end : (answer : Ended) → IsWholeRest c.plan.now c.inputs.now c.limit written took before after_it answer → IsEndOf c answer
  rest_end answer whole trace place ended end =
      (one_end c.plan.now accepted c.inputs.now is.fits c.limit whole.trace trace whole.place place answer ended whole.end end).2

-- the same of a run of the plan over the flows and up to the limit of a core
module _ (c : Core) (is : IsCore c) (plan : PlanView) (accepted : IsAccepted plan) (flows : List (List ℤ)) (limit : ℕ) (plan_is : c.plan.now ≡ plan) (flows_are : c.inputs.now ≡ flows) (limit_is : c.limit ≡ limit)
    (written : ℕ) (counts : (m : ModelCore) → Shows m c → written ≡ committed_in plan m) {S : Type 0} (took : S → List ℕ → S → Type 0) (before after_it : S) where
  own_accepted : IsAccepted c.plan.now
  own_accepted = subst (λ (p : PlanView). IsAccepted p) (sym plan_is) accepted

  own_counts : (m : ModelCore) → Shows m c → written ≡ committed_in c.plan.now m
  own_counts m shows = counts m shows ∙ ap (λ (p : PlanView). committed_in p m) (sym plan_is)

  own_whole : (answer : Ended) → IsWholeRest plan flows limit written took before after_it answer → IsWholeRest c.plan.now c.inputs.now c.limit written took before after_it answer
  own_whole answer whole =
      subst (λ (p : PlanView). IsWholeRest p c.inputs.now c.limit written took before after_it answer) (sym plan_is)
      (subst (λ (f : List (List ℤ)). IsWholeRest plan f c.limit written took before after_it answer) (sym flows_are)
      (subst (λ (n : ℕ). IsWholeRest plan flows n written took before after_it answer) (sym limit_is) whole))

  pub took_rest : (answer : Ended) → IsWholeRest plan flows limit written took before after_it answer → TookRest took c before after_it
  took_rest answer whole = rest_whole c is own_accepted written own_counts took before after_it answer (own_whole answer whole)

  pub end_of_rest : (answer : Ended) → IsWholeRest plan flows limit written took before after_it answer → IsEndOf c answer
  end_of_rest answer whole = rest_end c is own_accepted written own_counts took before after_it answer (own_whole answer whole)

  pub took_part : TookSomeRest plan flows limit written took before after_it → TookRest (TookPrefix took) c before after_it
  took_part part =
      rest_part c is own_accepted written own_counts took before after_it
      (subst (λ (p : PlanView). TookSomeRest p c.inputs.now c.limit written took before after_it) (sym plan_is)
      (subst (λ (f : List (List ℤ)). TookSomeRest plan f c.limit written took before after_it) (sym flows_are)
      (subst (λ (n : ℕ). TookSomeRest plan flows n written took before after_it) (sym limit_is) part)))

-- A step of a member is an own step of its actor.
use Rattle.sig_work.proofs.Common.{◌≡◌, ◌<◌, ◌≤◌, ◌+◌, ◌⊎◌, inl, inr, ℕ, zero, suc, ℤ, Bool, true, false, cond, List, length, refl, sym, subst, ◌∙◌, arith, Contains, None, Option, Some, nat_lt, slice_get, ltb-false, Actor, code_of, guard_holds, moved_on, next_place, no_registers, Given, Faults, Gives, Outcome, operated, outcome, Commits, Fails, Goes, Puts, Stopped, Takes, Turn, carried, received, turn, turn_at, turn_by, turn_of_op, turn_with, CodeView, instructions_of, NamesWithin, Operation, operations_in, IsAccepted, PlanView, numbers_of, Step, StepKind, Do, Send, Receive, Report, Collect, Commit, Op, LinkInfo, plan_operations, one_reader, one_writer, step_names, actor_coded, commits_alone, DoesStep, step_does, IsOwn, IsOwnStep, LeadBy, Own, opening_own, MayDo, MayUse, HasEnds, puts_of, takes_of, LinkEnds, contains_at, some_at}
use Rattle.sig_model.specs.Turns.{AtLimit}
use Rattle.sig_work.proofs.EndLemmas.{there_put, there_take}

-- ---- the code of an actor

module _ (plan : PlanView) (accepted : IsAccepted plan) (k : ℕ) (there : k < length plan.codes) where
  abbrev code : CodeView
  code = code_of plan k

  coded : slice_get plan.codes k ≡ Some code
  coded = actor_coded plan k there

  abbrev operations : List Operation
  operations = operations_in plan.store.nodes plan.ops

  abbrev order : List ℕ
  order = numbers_of plan.order

  module _ (number : ℕ) (step : Step) (at : slice_get code.steps number ≡ Some step) where
    abbrev d : DoesStep plan accepted k code coded number step
    d = step_does plan accepted k code coded number step at

    names : (kind : StepKind) → step.kind ≡ kind → NamesWithin (length plan.ops) (length plan.links) kind
    names kind is = subst (λ (kd : StepKind). NamesWithin (length plan.ops) (length plan.links) kd) is (step_names plan accepted k code coded number step at)

    among : Contains (instructions_of operations order accepted.parts k) d.i
    among = contains_at (instructions_of operations order accepted.parts k) number d.i d.at

    writer_is : (l : ℕ) (info : LinkInfo) → slice_get plan.links l ≡ Some info → (step.kind ≡ Send l) ⊎ (step.kind ≡ Report l) → info.writer ≡ k
    writer_is l info at_l kind = sym (one_writer plan.kernel accepted.valid plan.clocks.conditions operations (plan_operations plan accepted) accepted.parts accepted.split order k l info
        (subst (λ (ls : List LinkInfo). slice_get ls l ≡ Some info) (sym accepted.links) at_l) d.i among (elim kind [ inl is ↦ inl (sym d.kind ∙ is) | inr is ↦ inr (sym d.kind ∙ is) ]))

    reader_is : (l : ℕ) (info : LinkInfo) → slice_get plan.links l ≡ Some info → (step.kind ≡ Receive l) ⊎ (step.kind ≡ Collect l) → info.reader ≡ k
    reader_is l info at_l kind = sym (one_reader plan.kernel accepted.valid plan.clocks.conditions operations (plan_operations plan accepted) accepted.parts accepted.split order k l info
        (subst (λ (ls : List LinkInfo). slice_get ls l ≡ Some info) (sym accepted.links) at_l) d.i among (elim kind [ inl is ↦ inl (sym d.kind ∙ is) | inr is ↦ inr (sym d.kind ∙ is) ]))

    -- it commits for the collector alone
    commits_last : step.kind ≡ Commit → k + 1 ≡ length plan.codes
    commits_last kind =
        let own = commits_alone plan accepted k code coded number step at kind in
        let actors = accepted.codes.actors in
        omega (arith, own, actors)

    module _ (capacity : ℕ) (ends : LinkEnds) (has : HasEnds plan capacity k ends) where
      puts : (l : ℕ) → NamesWithin (length plan.ops) (length plan.links) (Send l) → (step.kind ≡ Send l) ⊎ (step.kind ≡ Report l) → Contains (puts_of ends) l
      puts l named kind =
          let found = some_at plan.links l named in
          let put = has.writes l found.0 found.1 (writer_is l found.0 found.1 kind) in
          there_put ends l put.0 put.1

      takes : (l : ℕ) → NamesWithin (length plan.ops) (length plan.links) (Receive l) → (step.kind ≡ Receive l) ⊎ (step.kind ≡ Collect l) → Contains (takes_of ends) l
      takes l named kind =
          let found = some_at plan.links l named in
          let take = has.reads l found.0 found.1 (reader_is l found.0 found.1 kind) in
          there_take ends l take.0 take.1

      may_do : (kind : StepKind) → step.kind ≡ kind → MayDo (puts_of ends) (takes_of ends) kind
      may_do (Do o) is = tt
      may_do (Send l) is = puts l (names (Send l) is) (inl is)
      may_do (Report l) is = puts l (names (Report l) is) (inr is)
      may_do (Receive l) is = takes l (names (Receive l) is) (inl is)
      may_do (Collect l) is = takes l (names (Collect l) is) (inr is)
      may_do Commit is = tt

  -- the links of its steps are among its ends
  pub may_use : (capacity : ℕ) (ends : LinkEnds) → HasEnds plan capacity k ends → MayUse plan k (puts_of ends) (takes_of ends)
  may_use capacity ends has number step at = may_do number step at capacity ends has step.kind refl

  -- ---- what a turn does to its actor

  module _ (flows : List (List ℤ)) (limit : ℕ) (actor : Actor) where
    abbrev pub IsTurn : Turn → Type 0
    IsTurn Stopped = actor.ended ≡ true
    IsTurn AtLimit = Unit {0}
    IsTurn (Fails place) = (place ≡ next_place code actor) × (actor.instant ≤ limit)
    IsTurn (Goes next) = next.ended ≡ actor.ended
    IsTurn (Commits reaction next) = (next.ended ≡ actor.ended) × (k + 1 ≡ length plan.codes)
    IsTurn (Puts l item next) = next.ended ≡ actor.ended
    IsTurn (Takes l next) = (item : ℤ) → (next item).ended ≡ actor.ended

    moved_ended : (count : ℕ) (b : Actor) → (moved_on count b).ended ≡ b.ended
    moved_ended count b = by (nat_lt (b.step + 1) count) where
      by : (t : Bool) → (cond t (record b { step = b.step + 1 }) (record b { instant = b.instant + 1; step = 0; registers = no_registers })).ended ≡ b.ended
      by true = refl
      by false = refl

    module _ (inside : actor.step < length code.steps) where
      module _ (within : actor.instant ≤ limit) where
        by_outcome : (op : Op) (r : Outcome) → IsTurn (turn_with plan code actor op r)
        by_outcome op (Gives v) = moved_ended (length code.steps) (operated plan.kernel op v actor)
        by_outcome op (Faults cause) = (refl, within)

        by_op : (o : ℕ) → o < length plan.ops → (found : Option Op) → slice_get plan.ops o ≡ found → IsTurn (turn_of_op plan flows code actor found)
        by_op o lt None at = absurd (let found = some_at plan.ops o lt in let e : None ≡ Some found.0 = sym at ∙ found.1 in cc)
        by_op o lt (Some op) at = by_outcome op (outcome plan.kernel flows actor op)

        by_kind : (number : ℕ) (step : Step) → slice_get code.steps number ≡ Some step → (kind : StepKind) → step.kind ≡ kind → IsTurn (turn_by plan flows code actor kind)
        by_kind number step at (Do o) is = by_op o.0 (names number step at (Do o) is) (slice_get plan.ops o.0) refl
        by_kind number step at (Send l) is = moved_ended (length code.steps) actor
        by_kind number step at (Report l) is = moved_ended (length code.steps) actor
        by_kind number step at (Receive l) is = λ item. moved_ended (length code.steps) (received (carried plan.links l) item actor)
        by_kind number step at (Collect l) is = λ item. moved_ended (length code.steps) actor
        by_kind number step at Commit is = (moved_ended (length code.steps) actor, commits_last number step at is)

        by_step : (o : Option Step) → slice_get code.steps actor.step ≡ o → IsTurn (turn_at plan flows code actor o)
        by_step None at = absurd (let found = some_at code.steps actor.step inside in let e : None ≡ Some found.0 = sym at ∙ found.1 in cc)
        by_step (Some step) at = by (guard_holds plan code actor.registers step) where
          by : (b : Bool) → IsTurn (cond b (turn_by plan flows code actor step.kind) (Goes (moved_on (length code.steps) actor)))
          by true = by_kind actor.step step at step.kind refl
          by false = moved_ended (length code.steps) actor

      pub is_turn : IsTurn (turn plan flows limit k actor)
      is_turn = by actor.ended refl (nat_lt limit actor.instant) refl where
        by : (ended : Bool) → actor.ended ≡ ended → (over : Bool) → nat_lt limit actor.instant ≡ over
            → IsTurn (cond ended Stopped (cond over AtLimit (turn_at plan flows code actor (slice_get code.steps actor.step))))
        by true ended over past = ended
        by false ended true past = tt
        by false ended false past = by_step (ltb-false limit actor.instant past) (slice_get code.steps actor.step) refl

-- ---- one own step more

lead_more : (given : Given) (k n : ℕ) (a b c : Own) → LeadBy given k n a b → IsOwnStep given k b c → LeadBy given k (suc n) a c
lead_more given k zero a b c same step = (c, subst (λ (o : Own). IsOwnStep given k o c) (sym same) step, refl)
lead_more given k (suc n) a b c lead step = (lead.0, lead.1, lead_more given k n lead.0 b c lead.2 step)

pub own_more : (given : Given) (k : ℕ) (b c : Own) → IsOwn given k b → IsOwnStep given k b c → IsOwn given k c
own_more given k b c own step = (suc own.0, lead_more given k own.0 (opening_own given.plan.kernel) b c own.1 step)

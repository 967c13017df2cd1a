-- A step of an actor's own does not lower its rank.
use Rattle.sig_settling_laws.proofs.Common.{compiled_operations, compiled_order, ◌≡◌, ◌<◌, ◌≤◌, ◌+◌, ◌*◌, ◌⊎◌, inl, inr, ℕ, zero, suc, ℤ, Bool, true, false, cond, List, length, refl, ap, sym, subst, ◌∙◌, arith, None, Option, Some, nat_lt, slice_get, cases_lt, Actor, code_of, ended_at, guard_holds, moved_on, next_place, position_of, Given, Faults, Gives, Outcome, operated, outcome, AtLimit, Commits, Fails, Goes, Puts, Stopped, Takes, Turn, carried, received, turn, turn_at, turn_by, turn_of_op, turn_with, CodeView, Instruction, IsFor, StandsAt, does, sends, receives, reports, collects, commits, Operation, IsAccepted, PlanView, Step, StepKind, Do, Receive, Collect, Op, LinkInfo, positions_rise, moved_cases, DoesStep, step_does, NotAfter, HasTurned, IsOwnStep, LeadBy, Own, is_next, is_such, takes_item, slice_get_within, some_at}
use Rattle.sig_settling_laws.proofs.OrderOfSteps.{flag, flag_most, rank_of}
use Rattle.sig_settling_laws.proofs.OwnItems.{step_runs}

-- ---- an actor goes on

-- it is at the next step of its code, or in the next instant
abbrev pub HasMoved : Actor → Actor → Type 0
HasMoved a next = ((next.instant ≡ a.instant) × (next.step ≡ a.step + 1)) ⊎ (next.instant ≡ a.instant + 1)

moved : (count : ℕ) (a : Actor) → HasMoved a (moved_on count a)
moved count a = moved_cases (λ z. HasMoved a z) count a (λ less. inl (refl, refl)) (λ over. inr refl)

abbrev MovesBy : Actor → Turn → Type 0
MovesBy a (Goes next) = HasMoved a next
MovesBy a (Commits reaction next) = HasMoved a next
MovesBy a (Puts l item next) = HasMoved a next
MovesBy a (Takes l next) = (item : ℤ) → HasMoved a (next item)
MovesBy a _ = Unit {0}

module _ (given : Given) (k : ℕ) (a : Actor) where
  abbrev code : CodeView
  code = code_of given.plan k

  abbrev count : ℕ
  count = length code.steps

  op_moves : (op : Op) (r : Outcome) → MovesBy a (turn_with given.plan code a op r)
  op_moves op (Gives v) = moved count (operated given.plan.kernel op v a)
  op_moves op (Faults cause) = tt

  found_moves : (found : Option Op) → MovesBy a (turn_of_op given.plan given.flows code a found)
  found_moves None = tt
  found_moves (Some op) = op_moves op (outcome given.plan.kernel given.flows a op)

  kind_moves : (kind : StepKind) → MovesBy a (turn_by given.plan given.flows code a kind)
  kind_moves (Do o) = found_moves (slice_get given.plan.ops o.0)
  kind_moves (Receive j) = λ item. moved count (received (carried given.plan.links j) item a)
  kind_moves (Collect j) = λ item. moved count a
  kind_moves _ = moved count a

  guard_moves : (step : Step) (b : Bool) → MovesBy a (cond b (turn_by given.plan given.flows code a step.kind) (Goes (moved_on count a)))
  guard_moves step true = kind_moves step.kind
  guard_moves step false = moved count a

  step_moves : (step : Option Step) → MovesBy a (turn_at given.plan given.flows code a step)
  step_moves None = tt
  step_moves (Some step) = guard_moves step (guard_holds given.plan code a.registers step)

  within_moves : (b : Bool) → MovesBy a (cond b AtLimit (turn_at given.plan given.flows code a (slice_get code.steps a.step)))
  within_moves true = tt
  within_moves false = step_moves (slice_get code.steps a.step)

  ended_moves : (b : Bool) → MovesBy a (cond b Stopped (cond (nat_lt given.limit a.instant) AtLimit (turn_at given.plan given.flows code a (slice_get code.steps a.step))))
  ended_moves true = tt
  ended_moves false = within_moves (nat_lt given.limit a.instant)

  turn_moves : MovesBy a (turn given.plan given.flows given.limit k a)
  turn_moves = ended_moves a.ended

still_ends : (a b : Own) → b.actor ≡ ended_at a.actor → b.actor.ended ≡ false → ⊥
still_ends a b is runs = let clash : true ≡ false = ap (λ (x : Actor). x.ended) (sym is) ∙ runs in cc

moved_by : (t : Turn) (a b : Own) → MovesBy a.actor t → HasTurned t a b → b.actor.ended ≡ false → HasMoved a.actor b.actor
moved_by Stopped a b moves has runs = absurd has
moved_by AtLimit a b moves has runs = absurd (still_ends a b has.0.is runs)
moved_by (Fails place) a b moves has runs = absurd (still_ends a b has.0.is runs)
moved_by (Takes l next) a b moves has runs = subst (λ (x : Actor). HasMoved a.actor x) (sym has.1.is) (moves has.0)
moved_by _ a b moves has runs = subst (λ (x : Actor). HasMoved a.actor x) (sym has.0.is) moves

pub own_step_moves : (given : Given) (k : ℕ) (a b : Own) → IsOwnStep given k a b → b.actor.ended ≡ false → HasMoved a.actor b.actor
own_step_moves given k a b step runs = moved_by (turn given.plan given.flows given.limit k a.actor) a b (turn_moves given k a.actor) step runs

-- an actor with a step left runs
pub left_runs : (given : Given) (k n : ℕ) (a b : Own) → LeadBy given k n a b → ((n ≡ 0) → ⊥) → a.actor.ended ≡ false
left_runs given k zero a b lead some = absurd (some refl)
left_runs given k (suc n) a b lead some = step_runs given k a lead.0 lead.1

-- ---- at one position all instructions of an actor take, or none does

module _ (operations : List Operation) (order : List ℕ) (links : List LinkInfo) (clusters actor : ℕ) (full : length order ≡ length operations) where
  abbrev IsKnown : Instruction → Type 0
  IsKnown i = IsFor operations order links clusters actor i

  beside_receive : (j number : ℕ) (p : Operation) → StandsAt operations order j number p → ((p.cluster ≡ actor) → ⊥) → (i : Instruction) → IsKnown i → i.position ≡ 2 * j + 1 → takes_item i.kind ≡ true
  beside_receive j number p stands other _ (sends j2 number2 link p2 stands2 mine from) position =
      let same : j2 ≡ j = omega (arith, position) in
      let e : Some number2 ≡ Some number = sym stands2.place ∙ ap (slice_get order) same ∙ stands.place in
      let one : number2 ≡ number = cc in
      let f : Some p2 ≡ Some p = sym stands2.is ∙ ap (slice_get operations) one ∙ stands.is in
      let two : p2 ≡ p = cc in
      absurd (other (ap (λ (q : Operation). q.cluster) (sym two) ∙ mine))
  beside_receive j number p stands other _ (receives j2 number2 link p2 stands2 foreign from reader) position = refl
  beside_receive j number p stands other _ (collects link found mine there none) position = refl
  beside_receive j number p stands other _ (commits mine) position = absurd (let within = slice_get_within order j number stands.place in omega (arith, position, within, full))
  beside_receive j number p stands other _ _ position = absurd (omega (arith, position))

  beside_collect : actor ≡ clusters → (i : Instruction) → IsKnown i → i.position ≡ 2 * length operations → takes_item i.kind ≡ true
  beside_collect own _ (does j number p stands mine) position = absurd (let within = slice_get_within order j number stands.place in omega (arith, position, within, full))
  beside_collect own _ (receives j number link p stands foreign from reader) position = refl
  beside_collect own _ (reports link found apart there none writer) position = absurd (apart own)
  beside_collect own _ (collects link found mine there none) position = refl
  beside_collect own _ _ position = absurd (omega (arith, position))

  no_take : {A : Type 0} → false ≡ true → A
  no_take {A} is = absurd (let clash : false ≡ true = is in cc)

  take_alike : (i : Instruction) → IsKnown i → takes_item i.kind ≡ true → (next : Instruction) → IsKnown next → next.position ≡ i.position → takes_item next.kind ≡ true
  take_alike _ (receives j number link p stands foreign from reader) takes next known position = beside_receive j number p stands foreign next known position
  take_alike _ (collects link found mine there none) takes next known position = beside_collect mine next known position
  take_alike _ _ takes next known position = no_take takes

-- ---- so ranks rise in a code

flag_onward : (b c : Bool) → (b ≡ true → c ≡ true) → flag b ≤ flag c
flag_onward false c onward = omega arith
flag_onward true c onward = let one : flag c ≡ 1 = ap flag (onward refl) in omega (arith, one)

module _ (plan : PlanView) (accepted : IsAccepted plan) (k : ℕ) (code : CodeView) (coded : slice_get plan.codes k ≡ Some code) (a b : Actor) (a_in : a.step < length code.steps) (b_in : b.step < length code.steps) where
  a_step : (step : Step) × (slice_get code.steps a.step ≡ Some step)
  a_step = some_at code.steps a.step a_in

  b_step : (step : Step) × (slice_get code.steps b.step ≡ Some step)
  b_step = some_at code.steps b.step b_in

  d : DoesStep plan accepted k code coded a.step a_step.0
  d = step_does plan accepted k code coded a.step a_step.0 a_step.1

  e : DoesStep plan accepted k code coded b.step b_step.0
  e = step_does plan accepted k code coded b.step b_step.0 b_step.1

  a_position : (next_place code a).pos ≡ d.i.position
  a_position = ap position_of a_step.1 ∙ d.position

  b_position : (next_place code b).pos ≡ e.i.position
  b_position = ap position_of b_step.1 ∙ e.position

  a_takes : is_next takes_item code a ≡ takes_item d.i.kind
  a_takes = ap (is_such takes_item) a_step.1 ∙ ap takes_item d.kind

  b_takes : is_next takes_item code b ≡ takes_item e.i.kind
  b_takes = ap (is_such takes_item) b_step.1 ∙ ap takes_item e.kind

  flags_rise : e.i.position ≡ d.i.position → flag (is_next takes_item code a) ≤ flag (is_next takes_item code b)
  flags_rise same = flag_onward (is_next takes_item code a) (is_next takes_item code b)
      (λ takes. b_takes ∙ take_alike (compiled_operations plan) (compiled_order plan) accepted.parts.links accepted.parts.clusters k accepted.order.all d.i d.known (sym a_takes ∙ takes) e.i e.known same)

  further : b.step ≡ a.step + 1 → 2 * (next_place code a).pos + flag (is_next takes_item code a) ≤ 2 * (next_place code b).pos + flag (is_next takes_item code b)
  further next =
      let rise = positions_rise (compiled_operations plan) (compiled_order plan) accepted.parts k accepted.order.all a.step b.step d.i e.i (omega (arith, next)) d.at e.at in
      elim (cases_lt d.i.position e.i.position) [
        | inl less ↦ let most = flag_most (is_next takes_item code a) in omega (arith, less, most, a_position, b_position)
        | inr ge ↦ let flags = flags_rise (omega (arith, rise, ge)) in omega (arith, rise, flags, a_position, b_position)
      ]

  pub rank_rises : HasMoved a b → NotAfter (rank_of code a) (rank_of code b)
  rank_rises (inl both) = inr (sym both.0, further both.1)
  rank_rises (inr next) = inl (omega (arith, next))

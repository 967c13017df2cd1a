-- An instant of a plan, as its code handles it.
use Rattle.sig_machine.proofs.Common.{cells_in, ◌≡◌, ◌<◌, ◌≤◌, ◌+◌, ◌∙◌, inl, inr, ℕ, zero, suc, ℤ, Bool, true, false, List, length, Some, Ok, Err, refl, sym, ap, subst, arith, set, slice_get, slice_index_or, length-set, get_within, Actor, AreFlowsFor, Instant, IsAccepted, IsAmid, Op, PlanView, Ref, Registers, StandsAt, Trace, passed_over, seen_at, test, truths_of, Cells, Cause, EndsAt, Fault, Handles, HandlesAt, Scope, Stands, guards_in, holds_at, instructions_in, left_by, scope_in, scope_of, taken_after, EqId, Option, Place, IsEnd, IsKept, answer_of, ended_behind, IsMachineOf, Lowered, Lowers, Machine, actor_at, named, registers_of, Instruction, Work, Copy, Next, One, Two}
use Rattle.sig_machine.proofs.KnownGuards.{guard_stays}
use Rattle.sig_machine.proofs.LeftValues.{machine_behind, room_of}
use Rattle.sig_machine.proofs.MachinesWithCells.{AreAsMany, HasCells, has_registers, has_these, one_actor, with_cells}
use Rattle.sig_machine.proofs.OneInstruction.{ends_by, goes_on, input_there}
use Rattle.sig_machine.proofs.PlacesOfOrder.{stands_somewhere}

after_count : (work : Work) (taken : List ℕ) → length (taken_after work taken) ≡ length taken
after_count (Next input) taken = length-set taken input (slice_index_or taken input 0 + 1)
after_count (Copy source) taken = refl
after_count (One function a) taken = refl
after_count (Two function a b) taken = refl

module _ (plan : PlanView) (accepted : IsAccepted plan) (flows : List (List ℤ)) (fit : AreFlowsFor plan.kernel flows) (lowered : Lowered) (lowers : Lowers plan lowered)
    (old : Machine) (own : IsMachineOf plan lowered flows old) (trace : Trace) (instant : Instant) (began : IsAmid plan flows trace instant (actor_at old 0)) where
  abbrev count : ℕ
  count = length plan.kernel.signals

  abbrev scope : Scope
  scope = scope_of plan.store.nodes plan.clocks.conditions count

  abbrev guards : List Ref
  guards = guards_in lowered.code

  abbrev instructions : List Instruction
  instructions = instructions_in lowered.code

  -- a machine of the plan has these cells, and is amid the instant before a place
  record IsAt (place : ℕ) (s : Cells) : Type 0 where
    machine : Machine
    has : HasCells count old.instant s machine
    is : IsMachineOf plan lowered flows machine
    amid : IsAmid plan flows trace instant (actor_at machine place)

  abbrev first : Cells
  first = cells_in old

  at_first : IsAt 0 first
  at_first = record { machine = old; has = record { signals = own.signals; instant = refl; cells = refl; stamps = refl; taken = refl }; is = own; amid = began }

  -- ---- one place

  module _ (place : ℕ) (within : place < length plan.order) (s : Cells) (at : IsAt place s) (op : Op) (stands : StandsAt plan place op) where
    abbrev m : Machine
    m = at.machine

    -- what a guard tells of cells it tells of their machine
    by_machine : (guard : Ref) → guard ≡ op.guard → (truth : Bool) → holds_at scope old.instant guard s ≡ truth → test plan.store.nodes op.guard (truths_of plan.clocks.conditions (registers_of m)) ≡ truth
    by_machine guard same truth holds =
        ap (λ (r : Registers). test plan.store.nodes op.guard (truths_of plan.clocks.conditions r)) (has_registers count old.instant s m at.has)
        ∙ ap (λ (g : Ref). holds_at scope old.instant g s) (sym same)
        ∙ holds

    -- where it is passed over
    passed : test plan.store.nodes op.guard (truths_of plan.clocks.conditions (registers_of m)) ≡ false → IsAt (place + 1) s
    passed off = record {
      machine = m;
      has = at.has;
      is = at.is;
      amid = passed_over plan accepted flows fit trace instant (actor_at m place) at.amid op stands off;
    }

    -- where it is done
    module _ (on : test plan.store.nodes op.guard (truths_of plan.clocks.conditions (registers_of m)) ≡ true) (instruction : Instruction) (there : slice_get instructions place ≡ Some instruction)
        (value : ℤ) (gives : Ok value ≡ answer_of flows s.values s.taken instruction.work) where
      abbrev t : Cells
      t = left_by instruction value old.instant s

      many : AreAsMany m t
      many = record {
        values = length-set s.values instruction.target value ∙ ap length (sym at.has.cells);
        stamps = length-set s.stamps instruction.target old.instant ∙ ap length (sym at.has.stamps);
        taken = after_count instruction.work s.taken ∙ ap length (sym at.has.taken);
      }

      abbrev n : Machine
      n = with_cells m t

      has_next : HasCells count old.instant t n
      has_next =
          let has = has_these m t many in
          record { signals = at.has.signals; instant = at.has.instant; cells = has.cells; stamps = has.stamps; taken = has.taken }

      kept : IsKept instruction value m n
      kept = record {
        signals = refl;
        instant = refl;
        cells = has_next.cells ∙ ap (λ (xs : List ℤ). set xs instruction.target value) (sym at.has.cells);
        stamps = has_next.stamps ∙ ap (λ (xs : List ℕ). set xs instruction.target old.instant) (sym at.has.stamps) ∙ ap (λ (k : ℕ). set m.stamps.items instruction.target k) (sym at.has.instant);
        taken = has_next.taken ∙ ap (taken_after instruction.work) (sym at.has.taken);
      }

      gave : Ok value ≡ answer_of flows m.cells.items m.taken.items instruction.work
      gave =
          gives
          ∙ ap (λ (xs : List ℤ). answer_of flows xs s.taken instruction.work) (sym at.has.cells)
          ∙ ap (λ (xs : List ℕ). answer_of flows m.cells.items xs instruction.work) (sym at.has.taken)

      done : IsAt (place + 1) t
      done =
          let for_op = lowers.instructions.each place instruction there op stands in
          record {
            machine = n;
            has = has_next;
            is = machine_behind plan.kernel lowered.cells.items (room_of plan lowered lowers) flows m at.is op instruction for_op.target value n kept;
            amid = goes_on plan accepted flows fit lowered lowers m at.is place op stands on instruction for_op value gave n kept
                (input_there plan accepted flows fit lowered lowers m at.is place instruction there within) trace instant at.amid;
          }

    -- where it has no value
    module _ (on : test plan.store.nodes op.guard (truths_of plan.clocks.conditions (registers_of m)) ≡ true) (instruction : Instruction) (there : slice_get instructions place ≡ Some instruction)
        (cause : Cause) (fails : Err cause ≡ answer_of flows s.values s.taken instruction.work) where
      failed : Err cause ≡ answer_of flows m.cells.items m.taken.items instruction.work
      failed =
          fails
          ∙ ap (λ (xs : List ℤ). answer_of flows xs s.taken instruction.work) (sym at.has.cells)
          ∙ ap (λ (xs : List ℕ). answer_of flows m.cells.items xs instruction.work) (sym at.has.taken)

      ended : (limit : ℕ) → length trace < limit → (where_ : Option Place) × IsEnd plan flows limit trace where_ (ended_behind trace (named op.eq cause))
      ended = ends_by plan accepted flows fit lowered lowers m at.is place op stands on instruction (lowers.instructions.each place instruction there op stands) cause failed trace instant at.amid

  -- ---- the places before one

  guard_of : (place : ℕ) (guard : Ref) → slice_get guards place ≡ Some guard → (op : Op) → StandsAt plan place op → guard ≡ op.guard
  guard_of = lowers.guards.each

  place_within : (place : ℕ) (guard : Ref) → slice_get guards place ≡ Some guard → place < length plan.order
  place_within place guard is = let lt = get_within guards place guard is in let n = lowers.guards.count in omega (arith, lt, n)

  handled : (place : ℕ) (s t : Cells) → IsAt place s → HandlesAt scope guards instructions flows old.instant place s t → IsAt (suc place) t
  handled place s t at here =
      let within = place_within place here.guard here.is in
      let (op, stands) = stands_somewhere plan accepted place within in
      let same = guard_of place here.guard here.is op stands in
      let next : place + 1 ≡ suc place = omega arith in
      elim here.does [
        | inl (on, (instruction, there, is_done)) ↦
            subst (λ (u : Cells). IsAt (suc place) u) (sym is_done.leaves)
            (subst (λ (k : ℕ). IsAt k (left_by instruction is_done.value old.instant s)) next
            (done place within s at op stands (by_machine place within s at op stands here.guard same true on) instruction there is_done.value is_done.gives))
        | inr (off, leaves) ↦
            subst (λ (u : Cells). IsAt (suc place) u) (sym leaves)
            (subst (λ (k : ℕ). IsAt k s) next (passed place within s at op stands (by_machine place within s at op stands here.guard same false off)))
      ]

  at_place : (place : ℕ) (s : Cells) → Handles scope guards instructions flows old.instant place first s → IsAt place s
  at_place zero s is = subst (λ (u : Cells). IsAt 0 u) (sym is) at_first
  at_place (suc place) s (middle, before, here) = handled place middle s (at_place place middle before) here

  -- what a guard tells of cells at its place or behind it is what it tells of the instant
  by_instant : (place : ℕ) (guard : Ref) → slice_get guards place ≡ Some guard → (op : Op) → StandsAt plan place op → (later : ℕ) → place ≤ later → (s : Cells) → IsAt later s
      → holds_at scope old.instant guard s ≡ test plan.store.nodes op.guard (truths_of plan.clocks.conditions (seen_at instant))
  by_instant place guard is op stands later after s at =
      ap (λ (g : Ref). holds_at scope old.instant g s) (guard_of place guard is op stands)
      ∙ ap (λ (r : Registers). test plan.store.nodes op.guard (truths_of plan.clocks.conditions r)) (sym (has_registers count old.instant s at.machine at.has))
      ∙ guard_stays plan accepted flows fit trace instant (actor_at at.machine later) at.amid place op stands after

  stands_there : Stands scope guards instructions flows old.instant first
  stands_there place later guard t u is after within handles_t handles_u =
      let (op, stands) = stands_somewhere plan accepted place (place_within place guard is) in
      by_instant place guard is op stands later after u (at_place later u handles_u)
      ∙ sym (by_instant place guard is op stands place (omega arith) t (at_place place t handles_t))

  -- ---- as the code says it

  abbrev IsOf : Scope → Type 0
  IsOf asked = Stands asked guards instructions flows old.instant first

  pub code_stands : Stands (scope_in plan.store.nodes lowered.code) guards instructions flows old.instant first
  code_stands = subst IsOf (sym lowers.asks) stands_there

  -- behind all of them
  pub all_handled : (s : Cells) → Handles (scope_in plan.store.nodes lowered.code) guards instructions flows old.instant (length instructions) first s
      → (new : Machine) → HasCells count old.instant s new → IsAmid plan flows trace instant (actor_at new (length plan.order))
  all_handled s handles new has =
      let here = at_place (length instructions) s (subst (λ (asked : Scope). Handles asked guards instructions flows old.instant (length instructions) first s) lowers.asks handles) in
      subst (λ (n : ℕ). IsAmid plan flows trace instant (actor_at new n)) lowers.instructions.count
      (subst (λ (a : Actor). IsAmid plan flows trace instant a) (one_actor count old.instant s here.machine new here.has has (length instructions)) here.amid)

  -- where one has no value
  pub ends_there : (s : Cells) (fault : Fault) → EndsAt (scope_in plan.store.nodes lowered.code) guards instructions flows old.instant first s fault
      → (e : Option EqId) → ((op : Op) → StandsAt plan fault.place op → e ≡ op.eq)
      → (limit : ℕ) → length trace < limit → (where_ : Option Place) × IsEnd plan flows limit trace where_ (ended_behind trace (named e fault.cause))
  ends_there s fault asked_ends e named_by limit below =
      let ends = subst (λ (asked : Scope). EndsAt asked guards instructions flows old.instant first s fault) lowers.asks asked_ends in
      let within = place_within fault.place ends.guard ends.is in
      let (op, stands) = stands_somewhere plan accepted fault.place within in
      let here = at_place fault.place s ends.handles in
      let on = by_machine fault.place within s here op stands ends.guard (guard_of fault.place ends.guard ends.is op stands) true ends.holds in
      let (instruction, there, fails) = ends.fails in
      let (place, end) = ended fault.place within s here op stands on instruction there fault.cause fails limit below in
      (place, subst (λ (o : Option EqId). IsEnd plan flows limit trace place (ended_behind trace (named o fault.cause))) (sym (named_by op stands)) end)

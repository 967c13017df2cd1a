-- One instruction of a machine that is amid an instant.
use Rattle.sig_machine.proofs.Common.{true, inl, inr, ◌≡◌, ◌<◌, ◌+◌, ◌∙◌, ℕ, ℤ, List, length, Some, Ok, Err, is_some, IfSome, refl, sym, ap, subst, Contains, slice_get, arith, SigId, Instant, Trace, AreFlowsFor, test, IsAccepted, PlanView, numbers_of, operation_in, operations_in, Cause, Op, Actor, truths_of, place_at, Faults, Gives, Outcome, outcome, own_present, abstraction_of, read_present, seen_at, answered, IsAmid, stepped, StandsAt, guard_known, here, reads_known, compiled, fault_end, is_next, keeps, speaks, done_behind, EndsBy, GoesOn, ended_behind, HasReads, IsFor, IsTarget, Lowers, IsMachineOf, actor_at, registers_of, IsKept, ReadsWithin, as_named, came_to, instructions_in, input_taken, named, Instruction, Lowered, Machine, fitting, flow_count, Work, Next, Copy, One, Two}
use Rattle.sig_machine.proofs.LeftValues.{behind, register_value, room_of}
use Rattle.sig_machine.proofs.PlacesOfOrder.{stands_somewhere}

-- answers tell outcomes
pub gives_it : (o : Outcome) (v : ℤ) → Ok v ≡ answered o → o ≡ Gives v
gives_it (Gives w) v is = let e : Ok v ≡ Ok w = is in let same : w ≡ v = cc in ap Gives same
gives_it (Faults cause) v is = absurd (let e : Ok v ≡ Err cause = is in cc)

pub faults_it : (o : Outcome) (cause : Cause) → Err cause ≡ answered o → o ≡ Faults cause
faults_it (Gives w) cause is = absurd (let e : Err cause ≡ Ok w = is in cc)
faults_it (Faults other) cause is = let e : Err cause ≡ Err other = is in let same : other ≡ cause = cc in ap Faults same

module _ (plan : PlanView) (accepted : IsAccepted plan) (flows : List (List ℤ)) (fit : AreFlowsFor plan.kernel flows) where
  -- a guard's value at a place is that by the instant
  pub by_instant : (m : Machine) (place : ℕ) (op : Op) → StandsAt plan place op → (trace : Trace) (instant : Instant) → IsAmid plan flows trace instant (actor_at m place)
      → test plan.store.nodes op.guard (truths_of plan.clocks.conditions (registers_of m)) ≡ test plan.store.nodes op.guard (truths_of plan.clocks.conditions (seen_at instant))
  by_instant m place op stands trace instant amid = guard_known plan accepted flows fit trace instant (actor_at m place) amid op stands

  module _ (m : Machine) (place : ℕ) (op : Op) (stands : StandsAt plan place op)
      (on : test plan.store.nodes op.guard (truths_of plan.clocks.conditions (registers_of m)) ≡ true) (trace : Trace) (instant : Instant) (amid : IsAmid plan flows trace instant (actor_at m place)) where
    done : test plan.store.nodes op.guard (truths_of plan.clocks.conditions (seen_at instant)) ≡ true
    done = sym (by_instant m place op stands trace instant amid) ∙ on

    there : (x : SigId) → Contains op.reads x → is_some (seen_at instant x.0) ≡ true
    there x reads =
        let e = here plan accepted flows fit trace instant (actor_at m place) amid op stands in
        let c = compiled plan accepted in
        let is = is_next plan accepted flows fit trace instant amid.behind amid.next in
        sym (own_present plan.kernel plan.clocks.conditions (operations_in plan.store.nodes plan.ops) (numbers_of plan.order) c _ _ instant is x.0)
        ∙ read_present plan.kernel accepted.valid plan.clocks.conditions (operations_in plan.store.nodes plan.ops) c.has (truths_of plan.clocks.conditions (seen_at instant))
        (abstraction_of plan.kernel.signals instant) (speaks plan accepted flows fit trace instant amid.behind amid.next) (keeps plan accepted flows fit trace instant amid.behind amid.next)
        _ (operation_in plan.store.nodes op) x e.1 reads done

    pub has_reads : HasReads op m
    has_reads x reads =
        let known = reads_known plan accepted flows fit trace instant (actor_at m place) amid op stands done x reads in
        register_value m x.0 (ap is_some known ∙ there x reads)

  -- behind an instruction, or where it has no value
  module _ (lowered : Lowered) (lowers : Lowers plan lowered) (m : Machine) (is : IsMachineOf plan lowered flows m) (place : ℕ) (op : Op) (stands : StandsAt plan place op)
      (on : test plan.store.nodes op.guard (truths_of plan.clocks.conditions (registers_of m)) ≡ true) (instruction : Instruction) (for_op : IsFor plan.kernel lowered.cells.items op instruction) where
    comes : (trace : Trace) (instant : Instant) → IsAmid plan flows trace instant (actor_at m place) → as_named op.eq (came_to flows m instruction.work) ≡ outcome plan.kernel flows (actor_at m place) op
    comes trace instant amid = for_op.work.value flows m is.signals is.constants (has_reads m place op stands on trace instant amid) place

    pub goes_on : (v : ℤ) → Ok v ≡ answered (came_to flows m instruction.work) → (new : Machine) → IsKept instruction v m new → IfSome (input_taken instruction.work) (λ x. x.0 < length m.taken.items)
        → GoesOn plan flows m place new (place + 1)
    goes_on v gave new kept within trace instant amid =
        let value : outcome plan.kernel flows (actor_at m place) op ≡ Gives v = sym (comes trace instant amid) ∙ ap (as_named op.eq) (gives_it (came_to flows m instruction.work) v gave) in
        subst (λ (a : Actor). IsAmid plan flows trace instant (stepped a)) (sym (behind plan.kernel lowered.cells.items (room_of plan lowered lowers) flows m is op instruction for_op.target v new kept for_op.work.takes within place))
        (done_behind plan accepted flows fit trace instant (actor_at m place) amid op stands on v value)

    pub ends_by : (cause : Cause) → Err cause ≡ answered (came_to flows m instruction.work) → EndsBy plan flows m place (named op.eq cause)
    ends_by cause gave trace instant amid limit below =
        let fault : outcome plan.kernel flows (actor_at m place) op ≡ Faults (named op.eq cause) = sym (comes trace instant amid) ∙ ap (as_named op.eq) (faults_it (came_to flows m instruction.work) cause gave) in (
          Some (place_at (length trace + 1) place),
          fault_end plan accepted flows fit trace instant (actor_at m place) amid op stands on (named op.eq cause) fault limit below (ended_behind trace (named op.eq cause)) refl refl,
        )

  -- ---- what an instruction needs

  module _ (lowered : Lowered) (lowers : Lowers plan lowered) (m : Machine) (is : IsMachineOf plan lowered flows m) (place : ℕ) (instruction : Instruction)
      (at : slice_get (instructions_in lowered.code) place ≡ Some instruction) (within : place < length plan.order) where
    standing : (op : Op) × StandsAt plan place op
    standing = stands_somewhere plan accepted place within

    for_op : IsFor plan.kernel lowered.cells.items standing.0 instruction
    for_op = lowers.instructions.each place instruction at standing.0 standing.1

    inputs : length m.taken.items ≡ plan.kernel.inputs
    inputs = let a = is.inputs in let b = flow_count (fitting plan accepted flows fit) in omega (arith, a, b)

    pub reads_there : ReadsWithin (length m.taken.items) (length m.cells.items) instruction.work
    reads_there =
        subst (λ n. ReadsWithin n (length m.cells.items) instruction.work) (sym inputs)
        (subst (λ n. ReadsWithin plan.kernel.inputs n instruction.work) (sym is.cells) for_op.work.reads)

    pub target_there : instruction.target < length m.cells.items
    target_there = by for_op.target where
      by : IsTarget plan.kernel standing.0 instruction.target → instruction.target < length m.cells.items
      by (inl (x, writes, none, below, same)) = let b = is.cells in let d = lowers.cells in let s = lowers.signals in omega (arith, below, same, b, d, s)
      by (inr (y, writes, some, below, same)) = let b = is.cells in let d = lowers.cells in let s = lowers.signals in omega (arith, below, same, b, d, s)

    pub input_there : IfSome (input_taken instruction.work) (λ x. x.0 < length m.taken.items)
    input_there = by instruction.work reads_there where
      by : (work : Work) → ReadsWithin (length m.taken.items) (length m.cells.items) work → IfSome (input_taken work) (λ x. x.0 < length m.taken.items)
      by (Next input) there = there
      by (Copy source) there = tt
      by (One function a) there = tt
      by (Two function a b) there = tt

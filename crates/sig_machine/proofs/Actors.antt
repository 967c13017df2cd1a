-- What an actor does on its machine.
use Rattle.sig_machine.proofs.Common.{◌≡◌, ◌<◌, ◌≤◌, ◌∙◌, inl, inr, Bool, true, false, ℕ, ℤ, List, [], length, slice_get, Option, None, Some, IfSome, refl, sym, ap, subst, arith, get_within, SigId, PlanView, Op, Compute, Actor, Registers, code_of, input_of, is_one, operated, outcome, truths_of, with_at, with_signal, IsFor, IsTarget, HasShape, IsKept, IsPut, ReadsWithin, as_named, input_taken, named, came_to, answered, Ok, Err, Cause, HasFault, AreForSteps, AreInstructions, AreNextTold, Instructions, listed, told_at, AreVariables, HasActor, IsOpOfStep, IsStepDone, actor_in, seen_in, ActorMachine, Instruction, Work, Next, Copy, One, Two, Machine, AreOwnBelow, Own, WritesOwn, is_own, registers_of}
use Rattle.sig_machine.proofs.OneInstruction.{faults_it, gives_it}
use Rattle.sig_machine.proofs.FollowedInstructions.{kept_by}
use Rattle.sig_machine.proofs.LeftValues.{absent_behind, behind, machine_behind, others_behind}
use Rattle.sig_machine.proofs.Presence.{outcome_here}
use Rattle.sig_machine.proofs.Shapes.{shaped}
use Rattle.sig_machine.proofs.Told.{told_none, told_signal, truths_count}

pub taken_within : (inputs cells : ℕ) (work : Work) → ReadsWithin inputs cells work → IfSome (input_taken work) (λ x. x.0 < inputs)
taken_within inputs cells (Next input) within = within
taken_within inputs cells (Copy source) within = tt
taken_within inputs cells (One function a) within = tt
taken_within inputs cells (Two function a b) within = tt

-- nothing but the machine and the truths changed
abbrev pub IsOnMachine : ActorMachine → ActorMachine → Type 0
IsOnMachine old new = new ≡ record old { machine = new.machine; truths = new.truths }

module _ (old new : ActorMachine) (rest : IsOnMachine old new) where
  pub same_instructions : new.instructions ≡ old.instructions
  same_instructions = ap (λ (a : ActorMachine). a.instructions) rest

  pub same_own : new.own ≡ old.own
  same_own = ap (λ (a : ActorMachine). a.own) rest

  pub same_variables : new.variables.items ≡ old.variables.items
  same_variables = ap (λ (a : ActorMachine). a.variables.items) rest

  pub next_as_before : AreNextTold (listed old.instructions) old.variables.items old.next_told.items → AreNextTold (listed new.instructions) new.variables.items new.next_told.items
  next_as_before is = subst (λ (a : ActorMachine). AreNextTold (listed a.instructions) a.variables.items a.next_told.items) (sym rest) is

module _ (plan : PlanView) (k : ℕ) (flows : List (List ℤ)) (old : ActorMachine) (is : HasActor plan k flows old) where
  pub stamps_same : length old.machine.stamps.items ≡ length old.machine.cells.items
  stamps_same = is.machine.stamps ∙ sym is.machine.cells

  -- the instructions are within what the machine has
  pub instructions_here : AreInstructions (length old.machine.taken.items) (length old.machine.cells.items) old.instructions
  instructions_here =
      subst (λ n. AreInstructions n (length old.machine.cells.items) old.instructions) (sym is.machine.inputs)
      (subst (λ n. AreInstructions (length flows) n old.instructions) (sym is.machine.cells) is.instructions)

  signals_there : old.machine.signals ≤ length old.machine.stamps.items
  signals_there = let a = is.machine.signals in let b = is.machine.stamps in let r = is.room in omega (arith, a, b, r)

  -- what the keeping of truths needs
  pub tells : (conditions : List SigId) × (signals : ℕ) × AreVariables conditions signals old.variables.items × (length old.truths.items ≡ length conditions)
  tells = (plan.clocks.conditions, length plan.kernel.signals, is.table, ap length is.told ∙ truths_count plan.clocks.conditions (seen_in old))

  -- ---- a value that is kept

  module _ (op : Op) (instruction : Instruction) (target : IsTarget plan.kernel op instruction.target) (takes : input_taken instruction.work ≡ input_of op.kind)
      (within : IfSome (input_taken instruction.work) (λ x. x.0 < length old.machine.taken.items)) (v : ℤ) (new : ActorMachine) (kept : IsKept instruction v old.machine new.machine)
      (rest : IsOnMachine old new) where
    pub actor_behind : (step : ℕ) → actor_in new step ≡ operated plan.kernel op v (actor_in old step)
    actor_behind step = behind plan.kernel is.constants is.room flows old.machine is.machine op instruction target v new.machine kept takes within step

    registers_behind : seen_in new ≡ with_signal op.writes (Some v) (seen_in old)
    registers_behind = ap (λ (a : Actor). a.registers) (actor_behind 0)

    abbrev IsTold : List Bool → Registers → Type 0
    IsTold ts registers = ts ≡ truths_of plan.clocks.conditions registers

    told_by : IsTarget plan.kernel op instruction.target
        → IsTold (told_at (slice_get old.variables.items instruction.target) (is_one v) (truths_of plan.clocks.conditions (seen_in old))) (seen_in new)
    told_by (inl (x, writes, none, below, same)) =
        ap (λ (n : ℕ). told_at (slice_get old.variables.items n) (is_one v) (truths_of plan.clocks.conditions (seen_in old))) same
        ∙ told_signal plan.clocks.conditions old.variables.items (length plan.kernel.signals) x.0 v (seen_in old) is.table
        ∙ ap (truths_of plan.clocks.conditions) (sym (registers_behind ∙ ap (λ (o : Option SigId). with_signal o (Some v) (seen_in old)) writes))
    told_by (inr (y, writes, some, below, same)) =
        told_none old.variables.items (length plan.kernel.signals) instruction.target (is_one v) (truths_of plan.clocks.conditions (seen_in old)) is.table.count (omega (arith, same))
        ∙ ap (truths_of plan.clocks.conditions) (sym (registers_behind ∙ ap (λ (o : Option SigId). with_signal o (Some v) (seen_in old)) writes))

    -- what is told of the value is what the conditions are then
    pub told_behind : told_at (slice_get old.variables.items instruction.target) (is_one v) old.truths.items ≡ truths_of plan.clocks.conditions (seen_in new)
    told_behind = ap (told_at (slice_get old.variables.items instruction.target) (is_one v)) is.told ∙ told_by target

    pub is_behind : (instruction.target < length plan.kernel.signals → is_own old.own instruction.target ≡ true) → new.truths.items ≡ truths_of plan.clocks.conditions (seen_in new)
        → HasActor plan k flows new
    is_behind owned told = record {
      accepted = is.accepted;
      constants = is.constants;
      room = is.room;
      machine = machine_behind plan.kernel is.constants is.room flows old.machine is.machine op instruction target v new.machine kept;
      absent = absent_behind plan.kernel is.constants is.room flows old.machine is.machine op instruction target v new.machine kept is.absent;
      last = ap (λ (a : ActorMachine). length a.last.items) rest ∙ is.last;
      below = subst (AreOwnBelow (length plan.kernel.signals)) (sym (same_own old new rest)) is.below;
      writes = subst (λ (a : ActorMachine). WritesOwn a.own (length plan.kernel.signals) (listed a.instructions)) (sym rest) is.writes;
      others = subst (λ (own : Own). (signal : ℕ) → is_own own signal ≡ false → registers_of new.machine signal ≡ None) (sym (same_own old new rest))
          (others_behind plan.kernel is.constants is.room flows old.machine is.machine op instruction target v new.machine kept old.own owned is.others);
      inputs = is.inputs;
      instructions = subst (AreInstructions (length flows) (length is.constants)) (sym (same_instructions old new rest)) is.instructions;
      count = ap (λ (all : Instructions). length (listed all)) (same_instructions old new rest) ∙ is.count;
      each = subst (λ (all : Instructions). AreForSteps plan (code_of plan k).steps is.constants (listed all)) (sym (same_instructions old new rest)) is.each;
      table = subst (AreVariables plan.clocks.conditions (length plan.kernel.signals)) (sym (same_variables old new rest)) is.table;
      next = next_as_before old new rest is.next;
      told = told;
    }

  -- ---- the register of a signal

  module _ (x : SigId) (below : x.0 < length plan.kernel.signals) where
    pub cell_there : x.0 < length old.machine.cells.items
    cell_there = let b = is.machine.cells in let r = is.room in omega (arith, below, b, r)

    pub stamp_of_signal : x.0 < length old.machine.stamps.items
    stamp_of_signal = let a = cell_there in let b = stamps_same in omega (arith, a, b)

    module _ (v : ℤ) (M : Machine) (put : IsPut x.0 v old.machine M) (new : ActorMachine) (stays : new ≡ record old { machine = M; truths = new.truths })
        (truths : new.truths.items ≡ told_at (slice_get old.variables.items x.0) (is_one v) old.truths.items) where
      -- an operation that would write it
      abbrev writer : Op
      writer = record { kind = Compute; guard = record { number = 0 }; writes = Some x; reads = []; eq = None; actor = 0 }

      abbrev copy : Instruction
      copy = record { work = Copy 0; target = x.0 }

      target : IsTarget plan.kernel writer x.0
      target = inl (x, refl, refl, below, refl)

      same : new.machine ≡ M
      same = ap (λ (a : ActorMachine). a.machine) stays

      rest : IsOnMachine old new
      rest = stays ∙ ap (λ (m : Machine). let a : ActorMachine = record old { machine = m; truths = new.truths } in a) (sym same)

      kept : IsKept copy v old.machine new.machine
      kept = subst (IsKept copy v old.machine) (sym same) (kept_by copy v old.machine M put refl)

      pub seen_written : seen_in new ≡ with_at x.0 (Some v) (seen_in old)
      seen_written = registers_behind writer copy target refl tt v new kept rest

      pub actor_written : (step : ℕ) → actor_in new step ≡ record (actor_in old step) { registers = with_at x.0 (Some v) (seen_in old) }
      actor_written step = actor_behind writer copy target refl tt v new kept rest step

      pub is_written : is_own old.own x.0 ≡ true → HasActor plan k flows new
      is_written own = is_behind writer copy target refl tt v new kept rest (λ less. own) (truths ∙ told_behind writer copy target refl tt v new kept rest)

  -- ---- a step that does an operation

  pub instruction_there : (number : ℕ) (op : Op) → IsOpOfStep plan k number op → number < length (listed old.instructions)
  instruction_there number op does = let c = is.count in let w = get_within (code_of plan k).steps number does.step does.is in omega (arith, c, w)

  module _ (number : ℕ) (op : Op) (does : IsOpOfStep plan k number op) (instruction : Instruction) (at : slice_get (listed old.instructions) number ≡ Some instruction) where
    for_op : IsFor plan.kernel is.constants op instruction
    for_op = is.each number does.step instruction does.is at op does.does

    shape : HasShape plan.kernel op
    shape = shaped plan is.accepted does.does.number.0 op does.does.is

    step_reads : ReadsWithin (length old.machine.taken.items) (length old.machine.cells.items) instruction.work
    step_reads = (instructions_here.within number instruction at).reads

    comes : (step : ℕ) → as_named op.eq (came_to flows old.machine instruction.work) ≡ outcome plan.kernel flows (actor_in old step) op
    comes step = outcome_here old.machine signals_there is.absent plan.kernel is.constants op instruction.work for_op.work is.machine.signals is.machine.constants shape.within flows step

    pub step_faults : (cause : Cause) → Err cause ≡ answered (came_to flows old.machine instruction.work) → HasFault plan.kernel flows op old
    step_faults cause fails = (named op.eq cause, λ step. sym (comes step) ∙ ap (as_named op.eq) (faults_it (came_to flows old.machine instruction.work) cause fails))

    module _ (v : ℤ) (gives : Ok v ≡ answered (came_to flows old.machine instruction.work)) (new : ActorMachine) (kept : IsKept instruction v old.machine new.machine) (rest : IsOnMachine old new) where
      within : IfSome (input_taken instruction.work) (λ x. x.0 < length old.machine.taken.items)
      within = taken_within (length old.machine.taken.items) (length old.machine.cells.items) instruction.work step_reads

      pub step_done : IsStepDone plan.kernel flows op true old new
      step_done = (
        v,
        λ step. sym (comes step) ∙ ap (as_named op.eq) (gives_it (came_to flows old.machine instruction.work) v gives),
        actor_behind op instruction for_op.target for_op.work.takes within v new kept rest,
      )

      pub step_told : told_at (slice_get old.variables.items instruction.target) (is_one v) old.truths.items ≡ truths_of plan.clocks.conditions (seen_in new)
      step_told = told_behind op instruction for_op.target for_op.work.takes within v new kept rest

      pub step_is : new.truths.items ≡ truths_of plan.clocks.conditions (seen_in new) → HasActor plan k flows new
      step_is = is_behind op instruction for_op.target for_op.work.takes within v new kept rest (is.writes number instruction at)

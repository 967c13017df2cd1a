-- The machine of an actor at the opening, and in the next instant.
use Rattle.sig_machine.proofs.Common.{◌≡◌, ◌≤◌, ◌+◌, ◌∙◌, ℕ, ℤ, false, List, length, replicate, slice_get, slice_index_or, Some, refl, sym, ap, subst, arith, length-replicate, Actor, AreFlowsFor, IsAccepted, PlanView, at_next, code_of, fitting, flow_count, initial_in, no_registers, opening_actor, truths_of, actor_at, cell, memories_at, memories_of, registers_of, taken_of, AreForSteps, AreVariables, HasActor, actor_in, seen_in, truths_in, IsMachineFor, ActorMachine, Machine, AbsentAreZero, AreInstructions, AreNextTold, AreZero, Begins, if◌then◌else◌, listed, nat_lt, pos, AreOwnBelow, Registers, WritesOwn}
use Rattle.sig_machine.proofs.StepsWithMoreConstants.{are_within_more}
use Rattle.sig_machine.proofs.Openings.{none_written, replicate_get, replicate_or}
use Rattle.sig_machine.proofs.Told.{no_truths, truths_cleared}

module _ (plan : PlanView) (accepted : IsAccepted plan) (k : ℕ) (flows : List (List ℤ)) (fit : AreFlowsFor plan.kernel flows) (a : ActorMachine) (constants : List ℤ)
    (signals : a.machine.signals ≡ length plan.kernel.signals) (instant : a.machine.instant ≡ 1) (cells : a.machine.cells.items ≡ constants)
    (stamps : a.machine.stamps.items ≡ replicate (length constants) 0) (taken : a.machine.taken.items ≡ replicate (length flows) 0) where
  unstamped : (number stamp : ℕ) → slice_get a.machine.stamps.items number ≡ Some stamp → stamp ≡ 0
  unstamped number stamp there = replicate_get (length constants) number 0 stamp (subst (λ (xs : List ℕ). slice_get xs number ≡ Some stamp) stamps there)

  none : registers_of a.machine ≡ no_registers
  none = none_written a.machine (λ number stamp there. let zero = unstamped number stamp there in omega (arith, zero, instant))

  inputs_there : plan.kernel.inputs ≤ length flows
  inputs_there = let count = flow_count (fitting plan accepted flows fit) in omega (arith, count)

  pub opens : length plan.kernel.signals + length plan.kernel.signals ≤ length constants → AreZero (length plan.kernel.signals) constants → length a.last.items ≡ length constants
      → AreOwnBelow (length plan.kernel.signals) a.own → WritesOwn a.own (length plan.kernel.signals) (listed a.instructions) → AreInstructions plan.kernel.inputs (length constants) a.instructions → length (listed a.instructions) ≡ length (code_of plan k).steps
      → AreForSteps plan (code_of plan k).steps constants (listed a.instructions) → AreVariables plan.clocks.conditions (length plan.kernel.signals) a.variables.items
      → AreNextTold (listed a.instructions) a.variables.items a.next_told.items → truths_in a ≡ replicate (length plan.clocks.conditions) false → HasActor plan k flows a
  opens room cleared last below writes instructions count each table next truths = record {
    accepted = accepted;
    constants = constants;
    room = room;
    machine = record {
      signals = signals;
      cells = ap length cells;
      stamps = ap length stamps ∙ length-replicate (length constants) 0;
      constants = λ number behind within. ap (λ xs. cell xs number) cells;
      inputs = ap length taken ∙ length-replicate (length flows) 0;
      past = λ number stamp there. let zero = unstamped number stamp there in omega (arith, zero);
    };
    absent = λ signal below absent. ap (λ xs. cell xs signal) cells ∙ cleared signal (omega (arith, below, signals));
    last = last;
    below = below;
    writes = writes;
    others = λ signal own. ap (λ (r : Registers). r signal) none;
    inputs = inputs_there;
    instructions = record { within = are_within_more plan.kernel.inputs (length flows) (length constants) (listed a.instructions) inputs_there instructions.within; coded = instructions.coded };
    count = count;
    each = each;
    table = table;
    next = next;
    told = truths ∙ sym (no_truths plan.clocks.conditions) ∙ ap (truths_of plan.clocks.conditions) (sym none);
  }

  pub opens_as : memories_at (length plan.kernel.signals) constants ≡ initial_in plan.kernel.equations → actor_in a 0 ≡ opening_actor plan.kernel
  opens_as opening =
      let memories : memories_of a.machine ≡ initial_in plan.kernel.equations =
      ap (λ n. memories_at n a.machine.cells.items) signals ∙ ap (memories_at (length plan.kernel.signals)) cells ∙ opening in
      let none_taken : (input : ℕ) → taken_of a.machine input ≡ 0 = λ input. ap (λ (xs : List ℕ). slice_index_or xs input 0) taken ∙ replicate_or (length flows) input 0 refl in
      λ j. let actor : Actor = record { instant = instant j; step = 0; registers = none j; memories = memories j; taken = λ input. none_taken input j; ended = false } in actor

-- in the next instant
module _ (plan : PlanView) (k : ℕ) (flows : List (List ℤ)) (old new : ActorMachine) (is : HasActor plan k flows old)
    (machine : new.machine ≡ record old.machine { instant = old.machine.instant + 1; cells = new.machine.cells })
    (begins : Begins old.machine.signals old.machine.cells.items new.machine.cells.items) where
  abbrev later : Machine
  later = record old.machine { instant = old.machine.instant + 1; cells = new.machine.cells }

  none_later : registers_of later ≡ no_registers
  none_later = none_written later (λ number stamp there. let past = is.machine.past number stamp there in omega (arith, past))

  memory_later : (signal : ℕ) → memories_of later signal ≡ memories_of old.machine signal
  memory_later signal = ap (λ v. if nat_lt signal old.machine.signals then v else pos 0) (begins.others (old.machine.signals + signal) (omega arith))

  pub next_actor : (step : ℕ) → actor_in new 0 ≡ at_next (actor_in old step)
  next_actor step =
      let next : actor_at later 0 ≡ at_next (actor_in old step) = λ j. let actor : Actor = record (actor_at later 0) { registers = none_later j; memories = λ signal. memory_later signal j } in actor in
      ap (λ (m : Machine). actor_at m 0) machine ∙ next

  pub next_is : new ≡ record old { machine = new.machine; last = new.last; truths = new.truths } → length new.last.items ≡ length old.last.items → truths_in new ≡ replicate (length (truths_in old)) false
      → HasActor plan k flows new
  next_is rest last truths = record {
    accepted = is.accepted;
    constants = is.constants;
    room = is.room;
    machine = subst (λ (m : Machine). IsMachineFor (length plan.kernel.signals) is.constants flows m) (sym machine) (record {
      signals = is.machine.signals;
      cells = begins.count ∙ is.machine.cells;
      stamps = is.machine.stamps;
      constants = λ number behind within. begins.others number (omega (arith, behind)) ∙ is.machine.constants number behind within;
      inputs = is.machine.inputs;
      past = λ number stamp there. let before = is.machine.past number stamp there in omega (arith, before);
    });
    absent = subst (λ (m : Machine). AbsentAreZero m) (sym machine) (λ signal below none. begins.zero signal below);
    last = last ∙ is.last;
    below = subst (λ (a : ActorMachine). AreOwnBelow (length plan.kernel.signals) a.own) (sym rest) is.below;
    writes = subst (λ (a : ActorMachine). WritesOwn a.own (length plan.kernel.signals) (listed a.instructions)) (sym rest) is.writes;
    others = λ signal own. ap (λ (r : Registers). r signal) (ap registers_of machine ∙ none_later);
    inputs = is.inputs;
    instructions = subst (λ (a : ActorMachine). AreInstructions (length flows) (length is.constants) a.instructions) (sym rest) is.instructions;
    count = ap (λ (a : ActorMachine). length (listed a.instructions)) rest ∙ is.count;
    each = subst (λ (a : ActorMachine). AreForSteps plan (code_of plan k).steps is.constants (listed a.instructions)) (sym rest) is.each;
    table = subst (λ (a : ActorMachine). AreVariables plan.clocks.conditions (length plan.kernel.signals) a.variables.items) (sym rest) is.table;
    next = subst (λ (a : ActorMachine). AreNextTold (listed a.instructions) a.variables.items a.next_told.items) (sym rest) is.next;
    told =
        truths ∙ truths_cleared plan.clocks.conditions (seen_in old) (truths_in old) is.told
        ∙ ap (truths_of plan.clocks.conditions) (sym (ap registers_of machine ∙ none_later));
  }

use Rattle.sig_solve.proofs.{sym, ap, ◌∙◌, subst, arith, Err, slice_get, AreConditions, IsFreeIn, conditions_by_number, alive, condition_free, free_in, system_added, system_refused, within_memory, within_store, within_system, unsolved_at}
use Rattle.sig_solve.proofs.triangular.triangular_layers.Goals as goal
use Rattle.sig_solve.proofs.triangular.triangular_layers.Goals.{In_ok-system}

conditions : (c : In_ok-system) → AreConditions c.args.frame.now.kernel.now c.as_slice.result.now
conditions c = subst (AreConditions c.args.frame.now.kernel.now) (sym (c.as_slice.ensures.value ∙ c.in_ok-conditions.ensures)) (conditions_by_number c.args.frame.now.kernel.now)

free : (c : In_ok-system) → IsFreeIn c.args.frame.now.kernel.now c.system.new.store c.in_ok-system.system
free c =
    free_in c.args.frame.now.kernel.now c.system.new.store c.in_ok-system.system c.as_slice.result.now c.in_ok-system.ensures.store c.in_ok-system.ensures.conditions (conditions c) c.in_ok-system.ensures.system c.in_ok-system.ensures.free

pub system-requires-clause-conditions : goal.system-requires-clause-conditions
system-requires-clause-conditions c = subst (AreConditions c.args.frame.now.kernel.now) (sym (c.as_slice.ensures.value ∙ c.in_ok-conditions.ensures)) (conditions_by_number c.args.frame.now.kernel.now)

pub rounds_of-requires-clause-few : goal.rounds_of-requires-clause-few
rounds_of-requires-clause-few c = c.requires.valid.parts.signals

pub rounds_of-requires-clause-free : goal.rounds_of-requires-clause-free
rounds_of-requires-clause-free c = free (goal.at.rounds_of-requires-clause-free c).In_ok-system

pub rounds_of-requires-clause-conditions : goal.rounds_of-requires-clause-conditions
rounds_of-requires-clause-conditions c = c.in_ok-system.ensures.conditions ∙ c.as_slice.ensures.value ∙ c.in_ok-conditions.ensures

pub returns-in_err-conditions-clause-share : goal.returns-in_err-conditions-clause-share
returns-in_err-conditions-clause-share c room is = within_memory room c.args.store.now c.args.store.now c.from_residual.result (omega arith) c.from_residual.ensures.1

pub returns-in_err-system-clause-share : goal.returns-in_err-system-clause-share
returns-in_err-system-clause-share c room is =
    within_system room c.args.store.now c.system.new.store c.from_residual-in_err-system.result c.in_err-system.field-0.0
    (system_added c.args.frame.now.kernel.now room is c.requires.triangular c.args.store.now c.system.new.store _ c.in_err-system.ensures.share c.in_err-system.ensures.triangular)
    (system_refused c.args.frame.now.kernel.now room is c.requires.triangular c.args.store.now c.system.new.store _ c.in_err-system.ensures.share c.in_err-system.ensures.triangular) c.from_residual-in_err-system.ensures.1

pub returns-in_err-layers-clause-share : goal.returns-in_err-layers-clause-share
returns-in_err-layers-clause-share c room is =
    within_store room c.args.store.now c.system.new.store c.from_residual-in_err-layers.result c.in_err-layers.field-0.0
    (system_added c.args.frame.now.kernel.now room is c.requires.triangular c.args.store.now c.system.new.store _ c.in_ok-system.ensures.share c.in_ok-system.ensures.triangular)
    (λ n e. c.in_err-layers.ensures.no_budget n (ap Err e)) c.from_residual-in_err-layers.ensures.1

pub returns-in-Some-clause-refused : goal.returns-in-Some-clause-refused
returns-in-Some-clause-refused c =
    unsolved_at c.args.frame.now c.requires.frame c.in_ok-layers.layers.numbers.items c.in_ok-layers.layers.waiting.items c.in-Some.signal.now c.in_ok-layers.ensures.value
    (ap (λ xs. slice_get xs 0) (sym c.as_slice-2.ensures.value) ∙ sym c.in-Some.ensures.value) c.requires.root

pub returns-in-Some-clause-share : goal.returns-in-Some-clause-share
returns-in-Some-clause-share c room is = record { added = system_added c.args.frame.now.kernel.now room is c.requires.triangular c.args.store.now c.system.new.store _ c.in_ok-system.ensures.share c.in_ok-system.ensures.triangular; refused = tt }

pub returns-clause-free : goal.returns-clause-free
returns-clause-free c =
    let is = free (goal.at.returns-clause-free c).In_ok-system in
    (alive c.args.frame.now.kernel.now c.system.new.store c.in_ok-system.system is, condition_free c.args.frame.now.kernel.now c.system.new.store c.in_ok-system.system is)

pub returns-clause-share : goal.returns-clause-share
returns-clause-share c room is = record { added = system_added c.args.frame.now.kernel.now room is c.requires.triangular c.args.store.now c.system.new.store _ c.in_ok-system.ensures.share c.in_ok-system.ensures.triangular; refused = tt }

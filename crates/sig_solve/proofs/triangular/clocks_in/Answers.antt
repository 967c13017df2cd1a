use Rattle.sig_solve.proofs.{get_or, sym, ap, ◌∙◌, subst, slice_get, AreConditions, SystemView, AreGuards, clocks_are, leader_in, free_guards, free_in, system_added, system_refused, within_system}
use Rattle.sig_solve.proofs.triangular.clocks_in.Goals as goal
use Rattle.sig_solve.proofs.triangular.clocks_in.Goals.{In_ok-system}

pub system_in-requires-clause-conditions : goal.system_in-requires-clause-conditions
system_in-requires-clause-conditions c = subst (AreConditions c.args.frame.now.kernel.now) (sym c.as_slice.ensures.value) c.requires.conditions

guards : (c : In_ok-system) → AreGuards c.system_in.new.store.nodes c.args.frame.now c.args.conditions.items c.in_ok-system.system.present
guards c =
    subst (λ xs. AreGuards c.system_in.new.store.nodes c.args.frame.now xs c.in_ok-system.system.present) (c.in_ok-system.ensures.conditions ∙ c.as_slice.ensures.value)
    (free_guards c.args.frame.now c.requires.frame c.system_in.new.store c.in_ok-system.system
    (free_in c.args.frame.now.kernel.now c.system_in.new.store c.in_ok-system.system c.as_slice.result.now c.in_ok-system.ensures.store c.in_ok-system.ensures.conditions
    (subst (AreConditions c.args.frame.now.kernel.now) (sym c.as_slice.ensures.value) c.requires.conditions) c.in_ok-system.ensures.system c.in_ok-system.ensures.free))

pub clocks_of-requires-clause-guards : goal.clocks_of-requires-clause-guards
clocks_of-requires-clause-guards c s lt =
    let l = get_or c.args.frame.now.least.items s 0 in
    let at = (guards (goal.at.clocks_of-requires-clause-guards c).In_ok-system).each l (leader_in c.args.frame.now c.requires.frame s lt) in
    (at.0, ap (λ xs. slice_get xs l) (c.as_slice-guards.ensures.value ∙ ap (λ (s : SystemView). s.present) c.system.view_is) ∙ at.1)

pub returns-in_err-system-clause-share : goal.returns-in_err-system-clause-share
returns-in_err-system-clause-share c room is =
    within_system room c.args.store.now c.system_in.new.store c.from_residual.result c.in_err-system.field-0.0
    (system_added c.args.frame.now.kernel.now room is c.requires.triangular c.args.store.now c.system_in.new.store _ c.in_err-system.ensures.share c.in_err-system.ensures.triangular)
    (system_refused c.args.frame.now.kernel.now room is c.requires.triangular c.args.store.now c.system_in.new.store _ c.in_err-system.ensures.share c.in_err-system.ensures.triangular) c.from_residual.ensures.1

pub returns-clause-value : goal.returns-clause-value
returns-clause-value c =
    let slice = c.as_slice-guards.ensures.value ∙ ap (λ (s : SystemView). s.present) c.system.view_is in
    clocks_are c.system_in.new.store c.in_ok-system.ensures.store c.args.frame.now c.requires.frame c.args.layers.now c.requires.settled c.as_slice-guards.result.now c.args.conditions.items c.requires.has c.requires.order
    (subst (λ xs. AreGuards c.system_in.new.store.nodes c.args.frame.now c.args.conditions.items xs) (sym slice) (guards (goal.at.returns-clause-value c).In_ok-system))
    c.args.root c.requires.root _ c.in_ok-clocks_of.ensures

use Rattle.sig_solve.proofs.{length, sym, ap, ◌∙◌, subst, get_or, arith, slice_get, AreGuards, clocks_are, leader_in, conditions_within}
use Rattle.sig_solve.proofs.general.clocks.Goals as goal

pub guards_of-requires-clause-few : goal.guards_of-requires-clause-few
guards_of-requires-clause-few c =
    let few = conditions_within c.args.asked.now.frame.kernel.now in
    let signals = c.requires.asked.valid.parts.signals in
    omega (arith, few, signals, c.requires.few, ap length c.as_slice.ensures.value)

pub clocks_of-requires-clause-guards : goal.clocks_of-requires-clause-guards
clocks_of-requires-clause-guards c s lt =
    let l = get_or c.args.asked.now.frame.least.items s 0 in
    let at = c.in_ok-guards.ensures.value.each l (leader_in c.args.asked.now.frame c.requires.asked.parts s lt) in
    (at.0, ap (λ xs. slice_get xs l) c.as_slice-2.ensures.value ∙ at.1)

pub returns-clause-value : goal.returns-clause-value
returns-clause-value c =
    clocks_are c.guards_of.new.store c.in_ok-guards.ensures.store c.args.asked.now.frame c.requires.asked.parts c.args.layers.now c.requires.settled c.as_slice-2.result.now c.args.conditions.items c.requires.has c.requires.conditions
    (subst (λ xs. AreGuards c.guards_of.new.store.nodes c.args.asked.now.frame c.args.conditions.items xs) (sym c.as_slice-2.ensures.value)
    (subst (λ xs. AreGuards c.guards_of.new.store.nodes c.args.asked.now.frame xs c.in_ok-guards.guards.items) c.as_slice.ensures.value c.in_ok-guards.ensures.value))
    c.args.root c.requires.root _ c.in_ok-clocks_of.ensures

use Rattle.sig_pace.proofs.{◌≤◌, ◌∙◌, List, length, subst, take, arith, None, Some, Signal, FindsNamed, few_maximal, first_taken, none_taken}
use Rattle.sig_pace.proofs.paced.with_paces.Goals as goal

pub paces_of-requires : goal.paces_of-requires
paces_of-requires c =
    let few = few_maximal c.args.kernel.now c.args.least.now c.requires.needs.clocks in
    let some : length c.args.kernel.now.signals ≤ 512 = c.requires.valid.parts.signals in
    omega (arith, few, some)

pub returns-in-Some-clause-refused : goal.returns-in-Some-clause-refused
returns-in-Some-clause-refused c =
    first_taken c.args.kernel.now c.args.least.now c.in-Some.signal c.requires.needs
    (subst (λ (xs : List Signal). FindsNamed (take c.args.kernel.now.declared c.args.kernel.now.signals) xs (Some c.in-Some.signal)) (c.as_slice-paces.ensures.value ∙ c.in_ok-paces.ensures) c.in-Some.ensures)

pub with_free_names-requires-clause-free : goal.with_free_names-requires-clause-free
with_free_names-requires-clause-free c =
    none_taken c.args.kernel.now c.args.least.now
    (subst (λ (xs : List Signal). FindsNamed (take c.args.kernel.now.declared c.args.kernel.now.signals) xs None) (c.as_slice-paces.ensures.value ∙ c.in_ok-paces.ensures) c.in-None.ensures)

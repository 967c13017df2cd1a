use Rattle.sig_solve.proofs.{ap, ◌∙◌, arith, conditions_of, by_layer, conditions_listed, leaders_fewer}
use Rattle.sig_solve.proofs.triangular.ordered_conditions.Goals as goal

pub overflow_cast-last : goal.overflow_cast-last
overflow_cast-last c =
    let few = leaders_fewer c.args.frame.now c.requires.frame in
    let signals = c.requires.valid.parts.signals in
    record { fits = omega (arith, few, signals, c.len-last.ensures, c.args.frame.now.leaders.ok.0) }

pub by_layer-requires : goal.by_layer-requires
by_layer-requires c =
    let few = leaders_fewer c.args.frame.now c.requires.frame in
    let signals = c.requires.valid.parts.signals in
    omega (arith, few, signals, c.len-last.ensures, c.args.frame.now.leaders.ok.0)

pub returns-clause-conditions : goal.returns-clause-conditions
returns-clause-conditions c =
    conditions_listed c.args.frame.now c.requires.frame c.args.layers.now c.requires.settled c.in_ok-ordered.ordered.items
    (c.in_ok-ordered.ensures ∙ ap (λ xs. by_layer c.args.frame.now c.args.layers.now xs c.len-last.result) (c.as_slice.ensures.value ∙ c.in_ok-conditions.ensures)
    ∙ ap (by_layer c.args.frame.now c.args.layers.now (conditions_of c.args.frame.now.kernel.now)) (c.len-last.ensures ∙ c.args.frame.now.leaders.ok.0))

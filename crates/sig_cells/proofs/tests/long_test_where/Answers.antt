use Rattle.sig_cells.proofs.{scope_of, test_joined, test_narrowed}
use Rattle.sig_cells.proofs.tests.long_test_where.Goals as goal

pub joined_of-requires-clause-told : goal.joined_of-requires-clause-told
joined_of-requires-clause-told c = λ v depends. c.requires.told v (c.narrow-left.ensures.depends v depends)

pub returns-in-Some : goal.returns-in-Some
returns-in-Some c =
    let scope = scope_of c.args.store.now.nodes c.args.conditions.now c.args.signals in
    let left = c.narrow-left.result in
    let joined = c.in-Some.joined in
    let rest = c.short_test_where-rest in
    let whole = c.test_with_one in
    test_narrowed scope c.args.known c.args.guard left c.narrow-left.ensures whole.result
    (test_joined scope left.known left.guard joined rest.result whole.result c.in-Some.ensures rest.ensures whole.ensures)

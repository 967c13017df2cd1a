use Rattle.sig_cells.proofs.{scope_of, test_always, test_narrowed}
use Rattle.sig_cells.proofs.tests.short_test_where.Goals as goal

pub short_test_of-requires-clause-told : goal.short_test_of-requires-clause-told
short_test_of-requires-clause-told c = λ v depends. c.requires.told v (c.narrow-left.ensures.depends v depends)

pub returns-then-is_told : goal.returns-then-is_told
returns-then-is_told c =
    test_always (scope_of c.args.store.now.nodes c.args.conditions.now c.args.signals) c.args.known c.args.guard (c.is_told.ensures c.if-is_told.true)

pub returns-else-is_told : goal.returns-else-is_told
returns-else-is_told c =
    test_narrowed (scope_of c.args.store.now.nodes c.args.conditions.now c.args.signals) c.args.known c.args.guard c.narrow-left.result c.narrow-left.ensures c.short_test_of.result
    (c.short_test_of.ensures c.narrow-left.result.known)

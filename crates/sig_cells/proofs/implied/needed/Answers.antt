use Rattle.sig_cells.proofs.{needs_high, needs_low}
use Rattle.sig_cells.proofs.implied.needed.Goals as goal

pub returns-then-is_constant : goal.returns-then-is_constant
returns-then-is_constant c =
    needs_high c.args.store.now.nodes c.in-Some.ensures.store.reduced c.args.known.guard c.requires c.in-Some.node c.in-Some.ensures.node
    c.way_of.result c.way_of.ensures.variable c.way_of.ensures.truth c.args.known.truth (c.is_constant.ensures c.if-is_constant.true)

pub returns-then-is_constant-2 : goal.returns-then-is_constant-2
returns-then-is_constant-2 c =
    needs_low c.args.store.now.nodes c.in-Some.ensures.store.reduced c.args.known.guard c.requires c.in-Some.node c.in-Some.ensures.node
    c.way_of-then-is_constant-2.result c.way_of-then-is_constant-2.ensures.variable c.way_of-then-is_constant-2.ensures.truth c.args.known.truth (c.is_constant-else-is_constant.ensures c.if-is_constant-2.true)

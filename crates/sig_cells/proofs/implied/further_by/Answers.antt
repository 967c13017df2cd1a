use Rattle.sig_cells.proofs.{high_further, low_further}
use Rattle.sig_cells.proofs.implied.further_by.Goals as goal

pub returns-then-is_settled : goal.returns-then-is_settled
returns-then-is_settled c =
    high_further c.args.store.now.nodes c.args.pair c.pair_on-low.result c.pair_on-high.result c.args.variable c.way_of.result c.way_of-2.result
    c.way_of.ensures.variable c.way_of.ensures.truth c.way_of-2.ensures.variable c.way_of-2.ensures.truth c.pair_on-low.ensures c.pair_on-high.ensures (c.is_settled.ensures c.if-is_settled.true)

pub returns-then-is_settled-2 : goal.returns-then-is_settled-2
returns-then-is_settled-2 c =
    low_further c.args.store.now.nodes c.args.pair c.pair_on-low.result c.pair_on-high.result c.args.variable c.way_of.result c.way_of-2.result
    c.way_of.ensures.variable c.way_of.ensures.truth c.way_of-2.ensures.variable c.way_of-2.ensures.truth c.pair_on-low.ensures c.pair_on-high.ensures (c.is_settled-else-is_settled.ensures c.if-is_settled-2.true)

use Rattle.sig_cells.proofs.{Bool, sym, ap, arith, if◌then◌else◌, child_on}
use Rattle.sig_cells.proofs.implied.guard_on.Goals as goal

pub returns-then-way : goal.returns-then-way
returns-then-way c =
    let n = c.in-Some.node in
    child_on c.args.store.now.nodes c.in-Some.ensures.store.reduced c.args.guard c.requires n c.in-Some.ensures.node c.args.way
    (let same = c.if-node-way.true in omega (arith, same)) n.high
    (ap (λ (b : Bool). if b then n.high else n.low) (sym c.if-way.true))

pub returns-else-way : goal.returns-else-way
returns-else-way c =
    let n = c.in-Some.node in
    child_on c.args.store.now.nodes c.in-Some.ensures.store.reduced c.args.guard c.requires n c.in-Some.ensures.node c.args.way
    (let same = c.if-node-way.true in omega (arith, same)) n.low
    (ap (λ (b : Bool). if b then n.high else n.low) (sym c.if-way.false))

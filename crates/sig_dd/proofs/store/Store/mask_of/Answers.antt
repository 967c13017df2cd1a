use Rattle.sig_dd.proofs.{◌∙◌, sym, arith, low_below, high_below, mask_more, mask_none}
use Rattle.sig_dd.proofs.store.Store.mask_of.Goals as goal

pub bounds-masks-n : goal.bounds-masks-n
bounds-masks-n c =
    let below = low_below c.args.self.now.nodes c.node.ensures.store.reduced c.args.r c.requires.held c.in-Some.n c.in-Some.ensures.node in
    let before = c.requires.before in
    omega (arith, below, before)

pub bounds-masks-n-in-Some : goal.bounds-masks-n-in-Some
bounds-masks-n-in-Some c =
    let below = high_below c.args.self.now.nodes c.node.ensures.store.reduced c.args.r c.requires.held c.in-Some.n c.in-Some.ensures.node in
    let before = c.requires.before in
    omega (arith, below, before)

pub returns-in-Some : goal.returns-in-Some
returns-in-Some c =
    let nodes = c.args.self.now.nodes in
    let reduced = c.node.ensures.store.reduced in
    let n = c.in-Some.n in
    let before = c.requires.before in
    let low = low_below nodes reduced c.args.r c.requires.held n c.in-Some.ensures.node in
    let high = high_below nodes reduced c.args.r c.requires.held n c.in-Some.ensures.node in
    mask_more nodes reduced c.args.r c.requires.held c.args.block n c.in-Some.ensures.node c.bit_of-own.result _ _ c.bit_of-own.ensures
    (c.requires.masks n.low (omega (arith, low, before))) (c.requires.masks n.high (omega (arith, high, before)))

pub returns-in-None : goal.returns-in-None
returns-in-None c = mask_none c.args.self.now.nodes c.node.ensures.store.reduced c.args.r c.requires.held c.args.block (sym c.in-None.is ∙ c.node.ensures.node)

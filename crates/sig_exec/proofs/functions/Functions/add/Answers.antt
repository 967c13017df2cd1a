use Rattle.sig_exec.proofs.{◌≡◌, length, Some, slice_get, refl, arith, functions_more, low_before, high_before, slice_get_read, slice_get_within}
use Rattle.sig_exec.proofs.functions.Functions.add.Goals as goal

pub index-low-requires : goal.index-low-requires
index-low-requires c =
    let within = slice_get_within c.args._image.now.nodes c.args._place c.args.node c.requires.node in
    let before = low_before c.args._image.now c.requires.right c.args._place c.args.node c.requires.node within in
    let count = c.requires.first.count in omega (arith, before, count)

pub index-high-requires : goal.index-high-requires
index-high-requires c =
    let within = slice_get_within c.args._image.now.nodes c.args._place c.args.node c.requires.node in
    let before = high_before c.args._image.now c.requires.right c.args._place c.args.node c.requires.node within in
    let count = c.requires.first.count in omega (arith, before, count)

pub choice-requires-clause-low : goal.choice-requires-clause-low
choice-requires-clause-low c =
    let refs = c.args.self.now.refs.items in
    let within = slice_get_within c.args._image.now.nodes c.args._place c.args.node c.requires.node in
    let before = low_before c.args._image.now c.requires.right c.args._place c.args.node c.requires.node within in
    let count = c.requires.first.count in
    (c.requires.first.each c.args.node.low c.index-low.result.now (slice_get_read refs (length refs) c.args.node.low c.index-low.result.now refl (omega (arith, before, count)) c.index-low.ensures)).holds

pub choice-requires-clause-high : goal.choice-requires-clause-high
choice-requires-clause-high c =
    let refs = c.args.self.now.refs.items in
    let within = slice_get_within c.args._image.now.nodes c.args._place c.args.node c.requires.node in
    let before = high_before c.args._image.now c.requires.right c.args._place c.args.node c.requires.node within in
    let count = c.requires.first.count in
    (c.requires.first.each c.args.node.high c.index-high.result.now (slice_get_read refs (length refs) c.args.node.high c.index-high.result.now refl (omega (arith, before, count)) c.index-high.ensures)).holds

pub returns : goal.returns
returns c =
    let image = c.args._image.now in
    let right = c.requires.right in
    let place = c.args._place in
    let node = c.args.node in
    let refs = c.args.self.now.refs.items in
    let within = slice_get_within image.nodes place node c.requires.node in
    let low = low_before image right place node c.requires.node within in
    let high = high_before image right place node c.requires.node within in
    let count = c.requires.first.count in
    let low_is : slice_get refs node.low ≡ Some c.index-low.result.now = slice_get_read refs (length refs) node.low c.index-low.result.now refl (omega (arith, low, count)) c.index-low.ensures in
    let high_is : slice_get refs node.high ≡ Some c.index-high.result.now = slice_get_read refs (length refs) node.high c.index-high.result.now refl (omega (arith, high, count)) c.index-high.ensures in
    functions_more image right place node c.requires.node within c.args.self.now (record { store = c.choice.new.store; refs = c.push.new.self })
    c.index-low.result.now c.index-high.result.now c.in-Ok.function c.requires.first c.in-Ok.ensures.kept low_is high_is c.in-Ok.ensures.value c.in_ok-push.ensures.items

use Rattle.sig_code.proofs.{adds_then, over_more, operations_in}
use Rattle.sig_code.proofs.steps.Source.add_places.Goals as goal

pub loop-place-preserved : goal.loop-place-preserved
loop-place-preserved c =
    let nodes = c.args.self.now.store.now.nodes in
    let operations = operations_in nodes c.args.self.now.ops.now in
    adds_then nodes _ _ _ c.args.code.now c.loop-place.code c.add_place.new.code
    (over_more operations c.args.self.now.links.now c.args.actor c.args.self.now.order.now c.loop-place.place _ c.loop-place-test.true) c.loop-place.invariant c.in_ok-add_place.ensures

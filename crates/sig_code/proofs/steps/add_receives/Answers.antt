use Rattle.sig_code.proofs.{doing, receiving, adds_chosen}
use Rattle.sig_code.proofs.steps.add_receives.Goals as goal

pub loop-route-preserved : goal.loop-route-preserved
loop-route-preserved c =
    adds_chosen c.args.store.now.nodes (doing c.args.store.now.nodes c.args.at.guard c.args.at.pos) (receiving c.args.actor) c.args.routes.now c.loop-route.route-index _ c.receiving.result c.args.code.now c.loop-route.code c.add_if_any.new.code
    c.loop-route-test.true c.loop-route.invariant c.receiving.ensures c.in_ok-add_if_any.ensures

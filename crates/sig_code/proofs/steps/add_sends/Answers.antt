use Rattle.sig_code.proofs.{arith, doing, sending, Route, adds_each, all_added}
use Rattle.sig_code.proofs.steps.add_sends.Goals as goal

pub loop-route-preserved : goal.loop-route-preserved
loop-route-preserved c =
    adds_each c.args.store.now.nodes (λ (route : Route). doing c.args.store.now.nodes c.args.at.guard c.args.at.pos (sending route)) c.args.routes.now c.loop-route.route-index _ c.args.code.now c.loop-route.code c.add.new.code
    c.loop-route-test.true c.loop-route.invariant c.in_ok-add.ensures

pub returns : goal.returns
returns c =
    all_added c.args.store.now.nodes (λ (route : Route). doing c.args.store.now.nodes c.args.at.guard c.args.at.pos (sending route)) c.args.routes.now c.loop-route.route-index c.args.code.now c.loop-route.code
    (omega arith) c.loop-route.invariant

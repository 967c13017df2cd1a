use Rattle.sig_interleaving.proofs.{◌+◌, List, subst, sym, opened_more, AreOpened, ClusterState}
use Rattle.sig_interleaving.proofs.making.opened.Goals as goal

pub loop-actor-preserved : goal.loop-actor-preserved
loop-actor-preserved c =
    subst (λ (states : List ClusterState). AreOpened c.args.plan.now c.args.inputs.now c.args.limit (c.loop-actor.actor + 1) states) (sym c.in_ok-push.ensures.items)
    (opened_more c.args.plan.now c.args.inputs.now c.args.limit c.loop-actor.actor c.loop-actor.states.items c.in_ok-new.field-0 c.loop-actor.invariant (record {
      state = c.in_ok-new.ensures.state;
      opening = c.in_ok-new.ensures.opening;
      number = c.in_ok-new.ensures.number;
      limit_is = c.in_ok-new.ensures.limit;
    }))

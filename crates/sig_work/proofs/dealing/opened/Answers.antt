use Rattle.sig_work.proofs.{◌+◌, List, length, ap, refl, subst, sym, rules, LinkInfo, opened_more, AreOpened, HasNoEnds, Member}
use Rattle.sig_work.proofs.dealing.opened.Goals as goal

pub loop-actor-preserved : goal.loop-actor-preserved
loop-actor-preserved c =
    subst (λ (ms : List Member). AreOpened c.args.plan.now c.args.inputs.now c.args.limit (c.loop-actor.actor + 1) ms) (sym c.in_ok-push.ensures.items)
    (opened_more c.args.plan.now c.args.inputs.now c.args.limit c.loop-actor.actor c.loop-actor.members.items _ c.loop-actor.invariant
    (record { number = search rules; state = c.in_ok-new.ensures.state; opening = c.in_ok-new.ensures.opening; actor = c.in_ok-new.ensures.number; limit_is = c.in_ok-new.ensures.limit; running = refl })
    (subst (λ n. HasNoEnds n c.in_ok-of_none.field-0) (ap (λ (ls : List LinkInfo). length ls) c.links_in-links.ensures) c.in_ok-of_none.ensures))

use Rattle.sig_plan.proofs.{sym, ap, [], store_of, stores_of, adds_next, adds_none}
use Rattle.sig_plan.proofs.making.add_store_of.Goals as goal

pub returns-in_ok-push-in-Delay : goal.returns-in_ok-push-in-Delay
returns-in_ok-push-in-Delay c =
    let signals = c.args.source.now.signals.now in
    let clocks = c.args.source.now.clocks.now in
    adds_next clocks (λ presence. []) _ (λ presence. store_of signals presence c.args.number c.in-Delay.y c.in-Delay.x) _ c.args.ops.now.items _ c.storing.result (adds_none clocks c.args.ops.now.items) c.storing.ensures c.in_ok-push-in-Delay.ensures.items
    (λ presence. sym (ap (stores_of signals presence c.args.number) c.in-Delay.is))

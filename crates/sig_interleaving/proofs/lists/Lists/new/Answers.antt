use Rattle.sig_interleaving.proofs.{empty_pushed, Lists}
use Rattle.sig_interleaving.proofs.lists.Lists.new.Goals as goal

pub loop-preserved : goal.loop-preserved
loop-preserved c =
    empty_pushed c.loop.counter c.args.capacity (let lists : Lists = record { queues = c.loop.queues } in lists) (let lists : Lists = record { queues = c.push.new.self } in lists)
    c.in_ok-with_capacity.field-0 c.loop.invariant c.in_ok-push.ensures.items c.in_ok-with_capacity.ensures.items c.in_ok-with_capacity.ensures.exact

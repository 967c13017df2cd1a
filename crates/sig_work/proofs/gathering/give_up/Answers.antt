use Rattle.sig_work.proofs.{all_room, all_single, begins_run, run_of}
use Rattle.sig_work.proofs.gathering.give_up.Goals as goal

pub settle_links-requires-clause-linked : goal.settle_links-requires-clause-linked
settle_links-requires-clause-linked g c = c.requires.3.all.linked

pub settle_links-requires-clause-single : goal.settle_links-requires-clause-single
settle_links-requires-clause-single g c =
    all_single (run_of c.args.plan.now c.args.inputs.now c.requires.0 c.requires.1) c.plans_are_accepted.ensures c.requires.2 c.args.halt.now c.args.shares.items c.requires.3

pub settle_links-requires-clause-room : goal.settle_links-requires-clause-room
settle_links-requires-clause-room g c =
    all_room (run_of c.args.plan.now c.args.inputs.now c.requires.0 c.requires.1) c.plans_are_accepted.ensures c.requires.2 c.args.halt.now c.args.shares.items c.requires.3

pub returns : goal.returns
returns g c = λ capacity limit committed together.
    begins_run (run_of c.args.plan.now c.args.inputs.now capacity limit) c.plans_are_accepted.ensures committed c.args.halt.now c.args.shares.items together
    c.settle_links.ensures.settled c.own_steps_are_an_interleaving.ensures

use Rattle.sig_pace.proofs.{ap, ◌∙◌, leaders_of, leaders_are}
use Rattle.sig_pace.proofs.leaders.class_leaders.Goals as goal

pub returns : goal.returns
returns c = leaders_are c.args.kernel.now c.in_ok-least.least.items c.in_ok-leaders.leaders.items c.in_ok-least.ensures (c.in_ok-leaders.ensures ∙ ap leaders_of c.as_slice-classes.ensures.value)

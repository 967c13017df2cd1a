use Rattle.sig_rel.proofs.{placed_more}
use Rattle.sig_rel.proofs.placing.Placed.place_all.Goals as goal

pub loop-element-preserved : goal.loop-element-preserved
loop-element-preserved c = placed_more c.args.kernel.now c.requires.valid c.args.rules.now c.requires.rules c.loop-element.self c.loop-element.invariant c.place.new.self c.in-Some.element c.in-Some.ensures
    c.in_ok-place.ensures.list c.in_ok-place.ensures.classes c.in_ok-place.ensures.truths

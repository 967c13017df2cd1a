use Rattle.sig_rel.proofs.{is_numbered, none_any}
use Rattle.sig_rel.proofs.rules.is_listed.Goals as goal

pub returns : goal.returns
returns c = none_any (is_numbered c.args.signal) c.args.conditions.now c.loop-condition.condition-index c.loop-condition-test.false c.loop-condition.invariant

use Rattle.sig_type.proofs.{finds_then, missing_same, not_is}
use Rattle.sig_type.proofs.inits.right_side.Goals as goal

pub returns-in-Delay : goal.returns-in-Delay
returns-in-Delay c = rw (c.in-Delay.is, ← c.deref.ensures) (finds_then c.expression.ensures (missing_same c.in-Delay.init c.in-Delay.at (not_is _ c.all_have_init.ensures) c.own_init.ensures))

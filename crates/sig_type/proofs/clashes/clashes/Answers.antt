use Rattle.sig_type.proofs.{finds_then}
use Rattle.sig_type.proofs.clashes.clashes.Goals as goal

pub returns : goal.returns
returns c = rw (← c.deref.ensures.value, ← c.deref-2.ensures.value) (finds_then c.inits.ensures (finds_then c.equations.ensures c.inits-2.ensures))

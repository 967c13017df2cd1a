use Rattle.sig_type.proofs.{finds_then}
use Rattle.sig_type.proofs.bare.alone.Goals as goal

pub returns : goal.returns
returns c = rw (← c.is_constant.ensures, ← c.place_of.ensures) (finds_then c.ask.ensures c.inside.ensures)

use Rattle.sig_type.proofs.{finds_same}
use Rattle.sig_type.proofs.clashes.constant.Goals as goal

pub returns : goal.returns
returns c = rw (← c.place_of_constant.ensures) (finds_same _ c.is_unfit.ensures c.ask.ensures)

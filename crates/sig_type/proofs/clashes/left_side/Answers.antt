use Rattle.sig_type.proofs.{finds_same}
use Rattle.sig_type.proofs.clashes.left_side.Goals as goal

pub returns : goal.returns
returns c = finds_same _ (rw c.kind.ensures at c.does_not_take.ensures) c.ask.ensures

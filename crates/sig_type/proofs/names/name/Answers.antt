use Rattle.sig_type.proofs.{finds_same}
use Rattle.sig_type.proofs.names.name.Goals as goal

pub returns : goal.returns
returns c = finds_same _ c.lacks.ensures c.ask.ensures

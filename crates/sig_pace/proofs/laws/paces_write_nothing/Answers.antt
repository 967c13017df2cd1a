use Rattle.sig_pace.proofs.{text_without_paces}
use Rattle.sig_pace.proofs.laws.paces_write_nothing.Goals as goal

pub returns : goal.returns
returns c = text_without_paces

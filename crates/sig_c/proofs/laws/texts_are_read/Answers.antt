use Rattle.sig_c.proofs.UnitTexts.{text_is}
use Rattle.sig_c.proofs.laws.texts_are_read.Goals as goal

pub returns : goal.returns
returns c = text_is

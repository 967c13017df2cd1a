use Rattle.sig_c.proofs.UnitTexts.{one_unit}
use Rattle.sig_c.proofs.laws.texts_have_one_unit.Goals as goal

pub returns : goal.returns
returns c = one_unit

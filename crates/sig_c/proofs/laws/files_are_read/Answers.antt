use Rattle.sig_c.proofs.UnitTexts.{file_is}
use Rattle.sig_c.proofs.laws.files_are_read.Goals as goal

pub returns : goal.returns
returns c = file_is

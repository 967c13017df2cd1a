use Rattle.sig_c_write.proofs.ImageTexts.{image_text_is}
use Rattle.sig_c_write.proofs.laws.texts_are_units.Goals as goal

pub returns : goal.returns
returns c = image_text_is

use Rattle.sig_c.proofs.Lines.{lines_have}
use Rattle.sig_c.proofs.laws.lines_have_tokens.Goals as goal

pub returns : goal.returns
returns c = lines_have

use Rattle.sig_words.proofs.{one}
use Rattle.sig_words.proofs.laws.one_command.Goals as goal

pub returns : goal.returns
returns c = one

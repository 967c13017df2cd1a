use Rattle.sig_lex.proofs.{tokens_or_fault}
use Rattle.sig_lex.proofs.laws.some_reading.Goals as goal

pub returns : goal.returns
returns c = tokens_or_fault

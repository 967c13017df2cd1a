use Rattle.sig_meaning_laws.proofs.{some_end, end_at_first, one_end}
use Rattle.sig_meaning_laws.proofs.laws_accepted.named_causes_exist_once.Goals as goal

pub returns : goal.returns
returns c = record { some = some_end; one = one_end; first = end_at_first }

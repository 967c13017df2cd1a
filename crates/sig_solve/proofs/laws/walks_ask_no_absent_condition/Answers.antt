use Rattle.sig_solve.proofs.{asks_no_absent}
use Rattle.sig_solve.proofs.laws.walks_ask_no_absent_condition.Goals as goal

pub returns : goal.returns
returns c = asks_no_absent

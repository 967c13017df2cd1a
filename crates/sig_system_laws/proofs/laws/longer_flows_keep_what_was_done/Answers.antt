use Rattle.sig_system_laws.proofs.{reached_with_more}
use Rattle.sig_system_laws.proofs.laws.longer_flows_keep_what_was_done.Goals as goal

pub returns : goal.returns
returns c = reached_with_more

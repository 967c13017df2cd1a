use Rattle.sig_tool.proofs.{done_status}
use Rattle.sig_tool.proofs.top.good_commands_are_done.Goals as goal

pub returns : goal.returns
returns c = done_status

use Rattle.sig_system_laws.proofs.{with_room}
use Rattle.sig_system_laws.proofs.laws.links_with_room_change_nothing.Goals as goal

pub returns : goal.returns
returns c = with_room

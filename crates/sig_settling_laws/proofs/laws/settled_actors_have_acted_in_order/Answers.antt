use Rattle.sig_settling_laws.proofs.{acted_then_looked}
use Rattle.sig_settling_laws.proofs.laws.settled_actors_have_acted_in_order.Goals as goal

pub returns : goal.returns
returns c = acted_then_looked

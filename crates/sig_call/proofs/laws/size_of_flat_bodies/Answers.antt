use Rattle.sig_call.proofs.{body_size, no_more}
use Rattle.sig_call.proofs.laws.size_of_flat_bodies.Goals as goal

pub returns-clause-weights : goal.returns-clause-weights
returns-clause-weights c = body_size

pub returns-clause-equations : goal.returns-clause-equations
returns-clause-equations c = no_more

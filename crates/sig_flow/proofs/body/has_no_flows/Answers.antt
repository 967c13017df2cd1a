use Rattle.sig_flow.proofs.{refl, nobody}
use Rattle.sig_flow.proofs.body.has_no_flows.Goals as goal

pub returns-in-Some : goal.returns-in-Some
returns-in-Some c = rw (c.in-Some.ensures.found.kind nobody) refl

pub returns-in-None : goal.returns-in-None
returns-in-None c = rw c.in-None.ensures.absent refl

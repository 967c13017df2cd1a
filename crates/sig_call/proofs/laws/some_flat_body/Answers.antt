use Rattle.sig_call.proofs.{some_body}
use Rattle.sig_call.proofs.laws.some_flat_body.Goals as goal

pub returns : goal.returns
returns c = some_body

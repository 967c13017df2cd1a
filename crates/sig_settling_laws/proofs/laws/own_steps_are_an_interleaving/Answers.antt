use Rattle.sig_settling_laws.proofs.{own_acted}
use Rattle.sig_settling_laws.proofs.laws.own_steps_are_an_interleaving.Goals as goal

pub returns : goal.returns
returns c = λ given accepted fit room own links balanced. let found = own_acted given accepted fit room own links balanced in (found.0, found.1.come)

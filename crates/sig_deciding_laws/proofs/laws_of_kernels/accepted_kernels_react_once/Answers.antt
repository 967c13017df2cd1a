use Rattle.sig_deciding_laws.proofs.{reacts_once, one_at_most}
use Rattle.sig_deciding_laws.proofs.laws_of_kernels.accepted_kernels_react_once.Goals as goal

pub returns-clause-one : goal.returns-clause-one
returns-clause-one c = reacts_once

pub returns-clause-at_most : goal.returns-clause-at_most
returns-clause-at_most c = one_at_most

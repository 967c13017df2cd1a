use Rattle.sig_plan.proofs.{accepted_or_refused, fault_once}
use Rattle.sig_plan.proofs.laws.a_kernel_has_one_fault_at_most.Goals as goal

pub returns-clause-one : goal.returns-clause-one
returns-clause-one c = λ kernel a b valid. fault_once kernel valid a b

pub returns-clause-apart : goal.returns-clause-apart
returns-clause-apart c = λ kernel fault valid. accepted_or_refused kernel valid fault

use Rattle.sig_kernel.proofs.{few_constants, initial_value, sampled_value}
use Rattle.sig_kernel.proofs.laws.constants_are_values.Goals as goal

pub returns-clause-bits : goal.returns-clause-bits
returns-clause-bits c = λ kernel equation constant valid. few_constants kernel equation constant valid.equations

pub returns-clause-initial : goal.returns-clause-initial
returns-clause-initial c = λ kernel y x initial at kind valid. initial_value kernel y x initial at kind valid.equations

pub returns-clause-sampled : goal.returns-clause-sampled
returns-clause-sampled c = λ kernel y b constant at kind valid. sampled_value kernel y b constant at kind valid.equations

use Rattle.sig_kernel.proofs.{remembered_value}
use Rattle.sig_kernel.proofs.laws.delays_remember_values.Goals as goal

pub returns : goal.returns
returns c = λ range kernel trace y x initial at kind valid. remembered_value range kernel trace y x initial at kind valid.equations

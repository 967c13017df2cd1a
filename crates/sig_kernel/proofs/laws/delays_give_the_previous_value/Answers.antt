use Rattle.sig_kernel.proofs.{delay_flow}
use Rattle.sig_kernel.proofs.laws.delays_give_the_previous_value.Goals as goal

pub returns : goal.returns
returns c = delay_flow

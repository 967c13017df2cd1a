use Rattle.sig_kernel.proofs.{one_longest, IsKernelTrace}
use Rattle.sig_kernel.proofs.laws.a_kernel_has_one_longest_trace.Goals as goal

pub returns : goal.returns
returns c = λ kernel. one_longest (IsKernelTrace kernel)

use Rattle.sig_deciding_laws.proofs.{some_kernel_end, one_kernel_end, kernel_end_at_first}
use Rattle.sig_deciding_laws.proofs.laws_of_kernels.accepted_kernels_have_one_end.Goals as goal

pub returns : goal.returns
returns c = record { some = some_kernel_end; one = one_kernel_end; first = kernel_end_at_first }

use Rattle.sig_kernel.proofs.{text_reduced, reduced_trace, silent_put_in}
use Rattle.sig_kernel.proofs.laws.silent_instants_make_no_difference.Goals as goal

pub returns-clause-taken_out : goal.returns-clause-taken_out
returns-clause-taken_out c = reduced_trace

pub returns-clause-put_in : goal.returns-clause-put_in
returns-clause-put_in c = silent_put_in

pub returns-clause-text : goal.returns-clause-text
returns-clause-text c = text_reduced

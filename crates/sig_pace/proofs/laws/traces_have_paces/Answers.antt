use Rattle.sig_pace.proofs.{has_paces, paced_kernel}
use Rattle.sig_pace.proofs.laws.traces_have_paces.Goals as goal

pub returns : goal.returns
returns c = λ kernel least valid are flows fit trace is fits.
    has_paces kernel least valid flows fit (c.flows_hold_values.ensures.values kernel flows fit) (c.flows_hold_values.ensures.fit (paced_kernel kernel least))
    (c.paced_kernels_have_the_old_traces.ensures kernel least valid are) trace is fits

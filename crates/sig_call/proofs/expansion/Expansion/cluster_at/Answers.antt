use Rattle.sig_call.proofs.{◌∙◌, ap, cluster_at, cluster_here, cluster_past}
use Rattle.sig_call.proofs.expansion.Expansion.cluster_at.Goals as goal

pub returns-in-Some : goal.returns-in-Some
returns-in-Some c =
    let found = c.in-Some.ensures.lookup in
    cluster_here c.deref.result.now c.args.signal.0 c.in-Some.signal.now found.3.0 found.1 ∙ ap (λ l. cluster_at l c.args.signal.0) c.deref.ensures.value

pub returns-in-None : goal.returns-in-None
returns-in-None c =
    let found = c.in-None.ensures.lookup in
    cluster_past c.deref.result.now c.args.signal.0 found.3 ∙ ap (λ l. cluster_at l c.args.signal.0) c.deref.ensures.value

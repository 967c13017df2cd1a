use Rattle.sig_flat.proofs.{◌≡◌, ◌∙◌, ap, Made, cluster_at, cluster_here, cluster_past}
use Rattle.sig_flat.proofs.draft.Draft.cluster.Goals as goal

pub returns-in-Some : goal.returns-in-Some
returns-in-Some c =
    let found = c.in-Some.ensures.lookup in
    let seen : cluster_at c.deref.result.now c.args.signal.0 ≡ cluster_at c.args.self.now.signals c.args.signal.0 = ap (λ l. cluster_at l c.args.signal.0) c.deref.ensures.value ∙ ap (λ (m : Made). cluster_at m.signals c.args.signal.0) c.self.view_is in
    cluster_here c.deref.result.now c.args.signal.0 c.in-Some.signal.now found.3.0 found.1 ∙ seen

pub returns-in-None : goal.returns-in-None
returns-in-None c =
    let found = c.in-None.ensures.lookup in
    let seen : cluster_at c.deref.result.now c.args.signal.0 ≡ cluster_at c.args.self.now.signals c.args.signal.0 = ap (λ l. cluster_at l c.args.signal.0) c.deref.ensures.value ∙ ap (λ (m : Made). cluster_at m.signals c.args.signal.0) c.self.view_is in
    cluster_past c.deref.result.now c.args.signal.0 found.3 ∙ seen

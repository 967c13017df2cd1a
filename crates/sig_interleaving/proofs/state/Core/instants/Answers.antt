use Rattle.sig_interleaving.proofs.{◌≡◌, ◌-◌, ◌∙◌, arith, List, length, ap, sym, Some, slice_get, ClusterState}
use Rattle.sig_interleaving.proofs.state.Core.instants.Goals as goal

pub overflow_sub-result : goal.overflow_sub-result
overflow_sub-result c =
    let last = length c.deref.result.now - 1 in
    let there : slice_get c.args.self.now.states.items last ≡ Some c.in-Some.collector.now =
    ap (λ (xs : List ClusterState). slice_get xs last) (sym c.deref.ensures.value) ∙ sym c.in-Some.ensures.value in
    let from = (c.requires.states last c.in-Some.collector.now there).state.from in
    let is = c.instant.ensures in
    omega (arith, from, is)

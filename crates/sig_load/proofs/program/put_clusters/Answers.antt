use Rattle.sig_load.proofs.{◌≡◌, ℕ, arith, subst, on_ok_weaker, Appends, each, cluster, behind, each_more, each_none}
use Rattle.sig_load.proofs.program.put_clusters.Goals as goal

pub loop-before-init : goal.loop-before-init
loop-before-init c = each_none _ cluster

pub loop-before-preserved : goal.loop-before-preserved
loop-before-preserved c = each_more cluster c.loop-before.before c.loop-before.invariant c.in_ok-put_cluster.ensures

pub returns : goal.returns
returns c =
    let all : c.loop-before.before ≡ c.args.stages = omega arith in
    let pieces = subst (λ (n : ℕ). Appends c.put.new.text.items (each cluster n) c.loop-before.text.items) all c.loop-before.invariant in
    on_ok_weaker c.put-2.result (λ last. behind c.in_ok-put.ensures (behind pieces last)) c.put-2.ensures

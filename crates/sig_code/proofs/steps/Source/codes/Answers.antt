use Rattle.sig_code.proofs.{◌≡◌, ℕ, List, arith, subst, AreCodesOf, parts_of, codes_more, codes_none, Instruction, instructions_of, operations_in, numbers_of}
use Rattle.sig_code.proofs.steps.Source.codes.Goals as goal

pub loop-cluster-init : goal.loop-cluster-init
loop-cluster-init c = codes_none _ _ _ c.new-codes.ensures.items

pub loop-cluster-preserved : goal.loop-cluster-preserved
loop-cluster-preserved c = codes_more _ _ c.loop-cluster.cluster c.loop-cluster.codes.items _ _ c.in_ok-push.ensures.items c.loop-cluster.invariant c.in_ok-code_of.ensures

pub returns : goal.returns
returns c =
    let source = c.args.self.now in
    let nodes = source.store.now.nodes in
    let last : c.loop-cluster.cluster ≡ source.clusters = omega arith in
    let instructions : ℕ → List Instruction = instructions_of (operations_in nodes source.ops.now) (numbers_of source.order.now) (parts_of source.clusters source.links.now) in
    codes_more nodes instructions source.clusters c.loop-cluster.codes.items _ _ c.in_ok-push-2.ensures.items
    (subst (λ (n : ℕ). AreCodesOf nodes instructions n c.loop-cluster.codes.items) last c.loop-cluster.invariant) c.in_ok-code_of-2.ensures

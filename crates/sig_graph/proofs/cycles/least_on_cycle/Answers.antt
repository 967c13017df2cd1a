use Rattle.sig_graph.proofs.{◌≡◌, ◌<◌, ◌+◌, ℕ, Bool, get_or, sym, subst, ◌∙◌, length, arith, refl, true, false, false≢true, get_or_read, IsLeastOnCycle, least_not_here, least_with_here, read_is}
use Rattle.sig_graph.proofs.cycles.least_on_cycle.Goals as goal
use Rattle.sig_graph.proofs.cycles.least_on_cycle.Goals.{then-index, else-index}

pub loop-number-preserved : goal.loop-number-preserved
loop-number-preserved c =
    let graph = c.args.graph.now in
    let n = c.loop-number.number in
    let op = c.index-ops-number.result in
    let is = read_is c.args.ops.now n op c.loop-number-test.true c.index-ops-number.is in
    let marks = c.in_ok-reaching.reaching.items in
    let below : n < length c.args.ops.now = c.loop-number-test.true in
    let few : length graph ≡ length c.args.ops.now = c.requires.count in
    let count : length marks ≡ length graph = c.in_ok-reaching.ensures.count in
    let lt : n < length marks = omega (arith, below, few, count) in
    let read : (b : Bool) → c.index.result.now ≡ b → get_or marks n false ≡ b = λ b e. sym (get_or_read marks n c.index.result.now lt c.index.ensures false) ∙ e in
    elim c.if-index.branch [
      | then-index w ↦ subst (IsLeastOnCycle graph c.args.ops.now (n + 1)) (sym (w.least-is ∙ w.lesser-least.ensures))
          (least_with_here graph c.args.ops.now n op is c.loop-number.least op.writes refl c.loop-number.invariant ((c.in_ok-reaching.ensures.exact n).0 (read true w.if-index.true)))
      | else-index w ↦ subst (IsLeastOnCycle graph c.args.ops.now (n + 1)) (sym w.least-is)
          (least_not_here graph c.args.ops.now n op is c.loop-number.least c.loop-number.invariant (λ cycle. false≢true (sym (read false w.if-index.false) ∙ (c.in_ok-reaching.ensures.exact n).1 cycle)))
    ]

pub returns : goal.returns
returns c =
    let last = c.loop-number-test.false in
    let most = c.loop-number.auto.number-end in
    let same : c.loop-number.number ≡ length c.args.ops.now = omega (arith, last, most) in
    subst (λ (n : ℕ). IsLeastOnCycle c.args.graph.now c.args.ops.now n c.loop-number.least) same c.loop-number.invariant

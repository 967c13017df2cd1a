use Rattle.sig_recursion.proofs.{ℕ, List, ◌≤◌, subst, arith, All, take_all, All-more, rank_of}
use Rattle.sig_recursion.proofs.ranks.falls_to.Goals as goal

pub loop-callee-preserved : goal.loop-callee-preserved
loop-callee-preserved c =
    let a = c.rank_at.ensures in
    let b = c.rank_at-in-loop-callee.ensures in
    All-more (λ callee. rank_of c.args.ranks.now callee ≤ rank_of c.args.ranks.now c.args.caller) c.args.callees.now c.loop-callee.callee-index 0 c.loop-callee-test.true c.loop-callee.invariant (omega (arith, a, b, c.if-rank_at.false))

pub returns : goal.returns
returns c _ =
    let P : List ℕ → Type 0 = λ l. All (λ callee. rank_of c.args.ranks.now callee ≤ rank_of c.args.ranks.now c.args.caller) l in
    subst P (take_all _ c.args.callees.now c.loop-callee-test.false) c.loop-callee.invariant

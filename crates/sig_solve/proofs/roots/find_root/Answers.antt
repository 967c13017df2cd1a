use Rattle.sig_solve.proofs.{get_or, subst, arith, Implies, Ref, present_over, implied_root, leader_at, none_root}
use Rattle.sig_solve.proofs.roots.find_root.Goals as goal

pub presence-requires : goal.presence-requires
presence-requires c =
    let below = leader_at c.args.asked.now.frame c.requires.parts c.as_slice-leader-items.result.now c.loop-leader.leader-index c.as_slice-leader-items.ensures.value c.loop-leader-test.true in
    omega (arith, below, c.requires.is_system.presences)

pub within-requires-clause-g : goal.within-requires-clause-g
within-requires-clause-g c =
    let s = get_or c.as_slice-leader-items.result.now c.loop-leader.leader-index 0 in
    (present_over c.args.store.now c.args.asked.now c.requires s (leader_at c.args.asked.now.frame c.requires.parts c.as_slice-leader-items.result.now c.loop-leader.leader-index c.as_slice-leader-items.ensures.value c.loop-leader-test.true) c.presence.result c.presence.ensures).held

pub returns-then-branch-clause-value : goal.returns-then-branch-clause-value
returns-then-branch-clause-value c =
    let s = get_or c.as_slice-leader-items.result.now c.loop-leader.leader-index 0 in
    implied_root c.args.store.now c.args.asked.now c.requires s (leader_at c.args.asked.now.frame c.requires.parts c.as_slice-leader-items.result.now c.loop-leader.leader-index c.as_slice-leader-items.ensures.value c.loop-leader-test.true)
    (subst (λ (r : Ref). Implies c.args.store.now.nodes c.args.asked.now.solutions r) c.presence.ensures (c.in_ok-within.ensures.value.0 c.if-branch.true))

pub returns-clause-value : goal.returns-clause-value
returns-clause-value c =
    none_root c.args.store.now c.args.asked.now c.requires c.as_slice-leader-items.result.now c.as_slice-leader-items.ensures.value (λ k lt. c.loop-leader.invariant k (omega arith))

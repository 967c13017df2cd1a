use Rattle.sig_solve.proofs.{get_or, sym, ◌∙◌, subst, arith, false≢true, Overlap, Ref, present_over, first_is_least, leader_at, none_met, below_more_of}
use Rattle.sig_solve.proofs.roots.first_met.Goals as goal

pub presence-requires : goal.presence-requires
presence-requires c =
    let below = leader_at c.args.asked.now.frame c.requires.asked.parts c.as_slice-leader-items.result.now c.loop-leader.leader-index c.as_slice-leader-items.ensures.value c.loop-leader-test.true in
    omega (arith, below, c.requires.asked.is_system.presences)

pub overlap-requires-clause-g : goal.overlap-requires-clause-g
overlap-requires-clause-g c =
    let s = get_or c.as_slice-leader-items.result.now c.loop-leader.leader-index 0 in
    (present_over c.args.store.now c.args.asked.now c.requires.asked s (leader_at c.args.asked.now.frame c.requires.asked.parts c.as_slice-leader-items.result.now c.loop-leader.leader-index c.as_slice-leader-items.ensures.value c.loop-leader-test.true) c.presence.result c.presence.ensures).held

pub returns-then-branch-clause-value : goal.returns-then-branch-clause-value
returns-then-branch-clause-value c =
    first_is_least c.args.store.now c.args.asked.now c.requires.asked c.args.part c.as_slice-leader-items.result.now c.as_slice-leader-items.ensures.value c.loop-leader.leader-index c.loop-leader-test.true c.loop-leader.invariant
    (subst (λ (r : Ref). Overlap c.args.store.now.nodes c.args.part r) c.presence.ensures (c.in_ok-overlap.ensures.value.0 c.if-branch.true))

pub loop-leader-preserved : goal.loop-leader-preserved
loop-leader-preserved c =
    below_more_of (λ s. Overlap c.args.store.now.nodes c.args.part (get_or c.args.asked.now.system.present s c.args.asked.now.system.residue) → ⊥) c.as_slice-leader-items.result.now c.loop-leader.leader-index c.loop-leader.invariant
    (λ met. false≢true (sym c.if-branch.false ∙ c.in_ok-overlap.ensures.value.1 (subst (λ (r : Ref). Overlap c.args.store.now.nodes c.args.part r) (sym c.presence.ensures) met)))

pub unreachable-requires : goal.unreachable-requires
unreachable-requires c =
    c.requires.some (none_met c.args.store.now c.args.asked.now c.requires.asked c.args.part c.as_slice-leader-items.result.now c.as_slice-leader-items.ensures.value (λ k lt. c.loop-leader.invariant k (omega arith)))

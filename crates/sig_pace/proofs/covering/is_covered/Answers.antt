use Rattle.sig_pace.proofs.{get_or, sym, subst, arith, Contains-get_or, Holds, Implies, Ref, presence_in, covered_below, presence_held}
use Rattle.sig_pace.proofs.covering.is_covered.Goals as goal

pub presence-present-requires : goal.presence-present-requires
presence-present-requires c = let lt = c.requires.signal in let count = c.requires.asked.is_system.presences in omega (arith, lt, count)

pub presence-requires : goal.presence-requires
presence-requires c =
    let lt = c.requires.others (get_or c.args.others.now c.loop-other.other-index 0) (Contains-get_or c.args.others.now c.loop-other.other-index 0 c.loop-other-test.true) in
    let count = c.requires.asked.is_system.presences in
    omega (arith, lt, count)

pub within-requires-clause-f : goal.within-requires-clause-f
within-requires-clause-f c = subst (λ (r : Ref). Holds c.args.store.now.nodes r) (sym c.presence-present.ensures) (presence_held c.args.store.now c.args.asked.now c.requires.asked c.args.signal c.requires.signal)

pub within-requires-clause-g : goal.within-requires-clause-g
within-requires-clause-g c =
    let x = get_or c.args.others.now c.loop-other.other-index 0 in
    let lt = c.requires.others x (Contains-get_or c.args.others.now c.loop-other.other-index 0 c.loop-other-test.true) in
    subst (λ (r : Ref). Holds c.args.store.now.nodes r) (sym c.presence.ensures) (presence_held c.args.store.now c.args.asked.now c.requires.asked x lt)

pub returns-then-branch-clause-value : goal.returns-then-branch-clause-value
returns-then-branch-clause-value c _ =
    let x = get_or c.args.others.now c.loop-other.other-index 0 in
    let there = Contains-get_or c.args.others.now c.loop-other.other-index 0 c.loop-other-test.true in
    let implies = c.in_ok-within.ensures.value.0 c.if-branch.true in
    let own = subst (λ (r : Ref). Implies c.args.store.now.nodes r c.presence.result) c.presence-present.ensures implies in
    let other = subst (λ (r : Ref). Implies c.args.store.now.nodes (presence_in c.args.asked.now.system c.args.signal) r) c.presence.ensures own in
    (x, there, covered_below c.args.store.now c.args.asked.now c.requires.asked c.args.signal x c.requires.signal (c.requires.others x there) other)

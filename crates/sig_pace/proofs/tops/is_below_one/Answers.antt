use Rattle.sig_pace.proofs.{Contains, get_or, inl, inr, refl, take_all, sym, ◌∙◌, subst, arith, false≢true, Contains-get_or, Holds, Implies, Ref, IsBelow, Candidate, nothing, taken_cases}
use Rattle.sig_pace.proofs.tops.is_below_one.Goals as goal

pub presence-requires : goal.presence-requires
presence-requires c =
    let m = get_or c.args.others.now c.loop-other.other-index nothing in
    let lt = (c.requires.others.each m (Contains-get_or c.args.others.now c.loop-other.other-index nothing c.loop-other-test.true)).is in
    let count = c.requires.others.presences.count in
    omega (arith, lt, count)

pub within-requires-clause-g : goal.within-requires-clause-g
within-requires-clause-g c =
    let m = get_or c.args.others.now c.loop-other.other-index nothing in
    let lt = (c.requires.others.each m (Contains-get_or c.args.others.now c.loop-other.other-index nothing c.loop-other-test.true)).is in
    subst (λ (r : Ref). Holds c.args.store.now.nodes r) (sym c.presence.ensures) (c.requires.others.presences.held m.signal lt)

pub returns-then-branch-clause-value : goal.returns-then-branch-clause-value
returns-then-branch-clause-value c =
    let m = get_or c.args.others.now c.loop-other.other-index nothing in
    let there = Contains-get_or c.args.others.now c.loop-other.other-index nothing c.loop-other-test.true in
    let lt = (c.requires.others.each m there).is in
    let implies = subst (λ (r : Ref). Implies c.args.store.now.nodes c.args.candidate.reactions r) c.presence.ensures (c.in_ok-within.ensures.value.0 c.if-branch.true) in
    ((λ _. (m, there, (c.requires.candidate.below m.signal lt).0 implies)), (λ _. refl))

pub loop-other-init : goal.loop-other-init
loop-other-init c = λ m there below. let lt = there.1 in omega (arith, lt)

pub loop-other-preserved : goal.loop-other-preserved
loop-other-preserved c = λ m there below.
    let d = get_or c.args.others.now c.loop-other.other-index nothing in
    let lt = (c.requires.others.each d (Contains-get_or c.args.others.now c.loop-other.other-index nothing c.loop-other-test.true)).is in
    elim (taken_cases c.args.others.now c.loop-other.other-index nothing m c.loop-other-test.true there) [
      | inl before ↦ c.loop-other.invariant m before below
      | inr e ↦
          let own = subst (λ (z : Candidate). IsBelow c.args.asked.now.kernel.now c.args.candidate.signal z.signal) (sym e) below in
          let implies = subst (λ (r : Ref). Implies c.args.store.now.nodes c.args.candidate.reactions r) (sym c.presence.ensures) ((c.requires.candidate.below d.signal lt).1 own) in
          false≢true (sym c.if-branch.false ∙ c.in_ok-within.ensures.value.1 implies)
    ]

pub returns-clause-value : goal.returns-clause-value
returns-clause-value c = (
  (λ t. absurd (false≢true t)),
  (λ at. absurd (c.loop-other.invariant at.0 (subst (λ xs. Contains xs at.0) (sym (take_all c.loop-other.other-index c.args.others.now c.loop-other-test.false)) at.1) at.2)),
)

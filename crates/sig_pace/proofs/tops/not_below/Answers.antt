use Rattle.sig_pace.proofs.{◌+◌, get_or, sym, ap, ◌∙◌, subst, arith, false≢true, Contains-get_or, Implies, Ref, AreNotBelowYet, all_passed, drop_below, keep_other, nothing}
use Rattle.sig_pace.proofs.tops.not_below.Goals as goal
use Rattle.sig_pace.proofs.tops.not_below.Goals.{then-not-branch+in_ok-push, else-not-branch}

pub within-requires-clause-f : goal.within-requires-clause-f
within-requires-clause-f c = (c.requires.candidates.each (get_or c.args.candidates.now c.loop-candidate.candidate-index nothing) (Contains-get_or c.args.candidates.now c.loop-candidate.candidate-index nothing c.loop-candidate-test.true)).held

pub loop-candidate-preserved : goal.loop-candidate-preserved
loop-candidate-preserved c =
    let kernel = c.args.asked.now.kernel.now in
    let k = c.loop-candidate.candidate-index in
    let d = get_or c.args.candidates.now k nothing in
    let own = c.requires.candidates.each d (Contains-get_or c.args.candidates.now k nothing c.loop-candidate-test.true) in
    elim c.if-not-branch.branch [
      | then-not-branch+in_ok-push w ↦
          subst (AreNotBelowYet kernel c.args.signal c.args.candidates.now (k + 1)) (sym (ap (λ v. v.items) w.others-is ∙ w.in_ok-push.ensures.items))
          (keep_other kernel c.args.signal c.args.candidates.now k c.loop-candidate-test.true c.loop-candidate.others.items c.loop-candidate.invariant
          (λ below. false≢true (sym w.if-not-branch.true ∙ c.in_ok-within.ensures.value.1
          (subst (λ (r : Ref). Implies c.args.store.now.nodes d.reactions r) (sym c.presence-present.ensures) ((own.below c.args.signal c.requires.signal).1 below)))))
      | else-not-branch w ↦
          subst (AreNotBelowYet kernel c.args.signal c.args.candidates.now (k + 1)) (sym (ap (λ v. v.items) w.others-is))
          (drop_below kernel c.args.signal c.args.candidates.now k c.loop-candidate-test.true c.loop-candidate.others.items c.loop-candidate.invariant
          ((own.below c.args.signal c.requires.signal).0
          (subst (λ (r : Ref). Implies c.args.store.now.nodes d.reactions r) c.presence-present.ensures (c.in_ok-within.ensures.value.0 w.if-not-branch.false))))
    ]

pub returns-clause-value : goal.returns-clause-value
returns-clause-value c =
    let low = c.loop-candidate-test.false in
    let high = c.loop-candidate.auto.candidate-index-end in
    all_passed c.args.asked.now.kernel.now c.args.signal c.args.candidates.now c.loop-candidate.candidate-index c.loop-candidate.others.items (omega (arith, low, high)) c.loop-candidate.invariant

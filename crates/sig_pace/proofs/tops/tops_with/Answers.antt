use Rattle.sig_pace.proofs.{List, sym, ◌∙◌, subst, false≢true, AddsTop, AreNotBelow, IsBelowCandidate, Candidate, push_top, skip_below, skip_never}
use Rattle.sig_pace.proofs.tops.tops_with.Goals as goal

pub returns-then-not-branch-clause-value : goal.returns-then-not-branch-clause-value
returns-then-not-branch-clause-value c =
    skip_never c.args.asked.now.kernel.now c.args.tops.items c.args.candidate (λ possible. false≢true (sym c.if-not-branch.true ∙ c.in_ok-overlap.ensures.value.1 (c.requires.candidate.possible.1 possible)))

pub returns-then-branch-clause-value : goal.returns-then-branch-clause-value
returns-then-branch-clause-value c =
    skip_below c.args.asked.now.kernel.now c.args.tops.items c.args.candidate (subst (IsBelowCandidate c.args.asked.now.kernel.now c.args.candidate.signal) c.as_slice.ensures.value (c.in_ok-is_below_one.ensures.value.0 c.if-branch.true))

pub returns-clause-value : goal.returns-clause-value
returns-clause-value c =
    subst (AddsTop c.args.asked.now.kernel.now c.args.tops.items c.args.candidate) (sym c.in_ok-push.ensures.items)
    (push_top c.args.asked.now.kernel.now c.args.tops.items c.args.candidate (c.requires.candidate.possible.0 (c.in_ok-overlap.ensures.value.0 c.if-not-branch.false))
    (λ below. false≢true (sym c.if-branch.false ∙ c.in_ok-is_below_one.ensures.value.1 (subst (IsBelowCandidate c.args.asked.now.kernel.now c.args.candidate.signal) (sym c.as_slice.ensures.value) below)))
    c.in_ok-others.others.items (subst (λ (tops : List Candidate). AreNotBelow c.args.asked.now.kernel.now c.args.candidate.signal tops c.in_ok-others.others.items) c.as_slice-2.ensures.value c.in_ok-others.ensures.value))

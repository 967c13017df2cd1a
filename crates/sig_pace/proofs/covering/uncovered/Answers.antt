use Rattle.sig_pace.proofs.{◌+◌, ℕ, List, Contains, get_or, take, take_all, sym, ap, ◌∙◌, subst, Contains-get_or, IsBelowOne, IsCover, cover_none, cover_push, cover_skip, taken_whole}
use Rattle.sig_pace.proofs.covering.uncovered.Goals as goal
use Rattle.sig_pace.proofs.covering.uncovered.Goals.{then-not-branch+in_ok-push, else-not-branch}

pub loop-signal-init : goal.loop-signal-init
loop-signal-init c = subst (IsCover c.args.asked.now.kernel.now (take 0 c.args.signals.now)) (sym c.new-found.ensures.items) (cover_none c.args.asked.now.kernel.now c.args.signals.now)

pub is_covered-requires-clause-others : goal.is_covered-requires-clause-others
is_covered-requires-clause-others c = λ x there.
    c.requires.signals x (taken_whole c.args.signals.now c.loop-signal.signal-index x
    (c.loop-signal.invariant.among x (subst (λ (xs : List ℕ). Contains xs x) c.as_slice.ensures.value there)))

pub is_covered-requires-clause-signal : goal.is_covered-requires-clause-signal
is_covered-requires-clause-signal c = c.requires.signals (get_or c.args.signals.now c.loop-signal.signal-index 0) (Contains-get_or c.args.signals.now c.loop-signal.signal-index 0 c.loop-signal-test.true)

pub loop-signal-preserved : goal.loop-signal-preserved
loop-signal-preserved c =
    let kernel = c.args.asked.now.kernel.now in
    let k = c.loop-signal.signal-index in
    elim c.if-not-branch.branch [
      | then-not-branch+in_ok-push w ↦
          subst (IsCover kernel (take (k + 1) c.args.signals.now)) (sym (ap (λ v. v.items) w.found-is ∙ w.in_ok-push.ensures.items))
          (cover_push kernel c.args.signals.now c.requires.order k c.loop-signal-test.true c.loop-signal.found.items c.loop-signal.invariant)
      | else-not-branch w ↦
          subst (IsCover kernel (take (k + 1) c.args.signals.now)) (sym (ap (λ v. v.items) w.found-is))
          (cover_skip kernel c.args.signals.now c.requires.order k c.loop-signal-test.true c.loop-signal.found.items c.loop-signal.invariant
          (subst (IsBelowOne kernel (get_or c.args.signals.now k 0)) c.as_slice.ensures.value (c.in_ok-is_covered.ensures.value w.if-not-branch.false)))
    ]

pub returns-clause-value : goal.returns-clause-value
returns-clause-value c =
    subst (λ (xs : List ℕ). IsCover c.args.asked.now.kernel.now xs c.loop-signal.found.items) (take_all c.loop-signal.signal-index c.args.signals.now c.loop-signal-test.false) c.loop-signal.invariant

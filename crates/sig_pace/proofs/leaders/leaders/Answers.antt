use Rattle.sig_pace.proofs.{ℕ, eqb, [], ◌∷◌, ◌++◌, sym, ap, ◌∙◌, get_or, eq-eqb, filter, range_with_len, ne_eqb, range_drops, range_keeps}
use Rattle.sig_pace.proofs.leaders.leaders.Goals as goal
use Rattle.sig_pace.proofs.leaders.leaders.Goals.{then-class-signal+in_ok-push, else-class-signal}

pub loop-signal-preserved : goal.loop-signal-preserved
loop-signal-preserved c =
    let p = λ (s : ℕ). eqb (get_or c.args.least.now s 0) s in
    elim c.if-class-signal.branch [
      | then-class-signal+in_ok-push w ↦
          ap (λ v. v.items) w.leaders-is ∙ w.in_ok-push.ensures.items ∙ ap (λ xs. xs ++ get_or c.args.least.now c.loop-signal.signal 0 ∷ []) c.loop-signal.invariant
          ∙ ap (λ k. filter p (range_with_len 0 c.loop-signal.signal) ++ k ∷ []) w.if-class-signal.true ∙ sym (range_keeps p c.loop-signal.signal (eq-eqb _ _ w.if-class-signal.true))
      | else-class-signal w ↦ ap (λ v. v.items) w.leaders-is ∙ c.loop-signal.invariant ∙ sym (range_drops p c.loop-signal.signal (ne_eqb _ _ w.if-class-signal.false))
    ]

use Rattle.sig_rel.proofs.{◌++◌, ◌∷◌, [], ◌∙◌, sym, arith, map-range_with_len_more, defined_for}
use Rattle.sig_rel.proofs.rules.defined_of.Goals as goal

pub loop-signal-preserved : goal.loop-signal-preserved
loop-signal-preserved c =
    let k = c.loop-signal.signal in
    c.in_ok-push.ensures.items ∙ (λ j. c.loop-signal.invariant j ++ c.defined_for.ensures j ∷ [])
    ∙ sym (map-range_with_len_more (defined_for c.args.kernel.now c.args.conditions.now) 0 k k (omega arith))

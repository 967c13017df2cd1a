use Rattle.sig_lex.proofs.{◌∙◌, step_newline, step_other}
use Rattle.sig_lex.proofs.place.advanced.Goals as goal
use Rattle.sig_lex.proofs.place.advanced.Goals.{then-byte-eq10, else-byte-eq10}

pub loop-byte-preserved : goal.loop-byte-preserved
loop-byte-preserved c = elim c.if-byte-eq10.branch [
  | then-byte-eq10 w ↦
      let step = step_newline _ _ _ _ c.loop-byte-test.true _ w.if-byte-eq10.true c.loop-byte.invariant.line in
      record { line = w.line-is ∙ step.0; col = w.col-is ∙ step.1 }
  | else-byte-eq10 w ↦
      let step = step_other _ _ _ _ c.loop-byte-test.true _ _ w.if-byte-eq10.false c.loop-byte.invariant.line c.loop-byte.invariant.col in
      record { line = w.line-is ∙ step.0; col = w.col-is ∙ step.1 }
]

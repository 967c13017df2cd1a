use Rattle.sig_kernel.proofs.{refl, arith, false≢true, fit_all, fit_not}
use Rattle.sig_kernel.proofs.flow.Inputs.fits.Goals as goal

pub returns-then-not-has_values_of : goal.returns-then-not-has_values_of
returns-then-not-has_values_of c = (
  (λ no. absurd (false≢true no)),
  (λ fits. absurd (fit_not c.args.kernel.now c.inputs-inputs.result.now c.as_slice-flows.result.now c.args.self.now
      c.loop-i.i c.index-inputs-i.result c.index-flows-i.result c.as_slice.result.now c.inputs-inputs.ensures c.as_slice-flows.ensures
      c.if-inputs-flows.false c.loop-i-test.true c.index-inputs-i.is c.index-flows-i.is c.as_slice.ensures (grind (arith, c.has_values_of.ensures, c.if-not-has_values_of.true)) fits)),
)

pub returns : goal.returns
returns c = (
  (λ _. fit_all c.args.kernel.now c.inputs-inputs.result.now c.as_slice-flows.result.now c.args.self.now c.loop-i.i
      c.inputs-inputs.ensures c.as_slice-flows.ensures c.if-inputs-flows.false (omega arith) c.loop-i.invariant),
  (λ _. refl),
)

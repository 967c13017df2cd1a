use Rattle.sig_kernel.proofs.{◌≡◌, length, refl, ap, arith, false≢true, each_once}
use Rattle.sig_kernel.proofs.valid.defines_each.Goals as goal
use Rattle.sig_kernel.proofs.valid.defines_each.Goals.{then-signal-kernel, else-signal-kernel}

pub returns-then-definitions-wanted : goal.returns-then-definitions-wanted
returns-then-definitions-wanted c = (
  (λ no. absurd (false≢true no)),
  (λ each.
      let count : length c.as_slice-count.result.now ≡ length c.args.kernel.now.signals = ap length c.as_slice-count.ensures in
      absurd (elim c.if-signal-kernel.branch [
        | then-signal-kernel w ↦ let found = each.inputs c.loop-signal.signal (omega arith) in omega arith
        | else-signal-kernel w ↦ let found = each.others c.loop-signal.signal (omega arith) (omega arith) in omega arith
      ])),
)

pub returns : goal.returns
returns c =
    let count : length c.as_slice-count.result.now ≡ length c.args.kernel.now.signals = ap length c.as_slice-count.ensures in
    ((λ _. each_once c.args.kernel.now (omega arith) (λ k lt. c.loop-signal.invariant k (omega arith))), (λ _. refl))

use Rattle.sig_kernel.proofs.{◌≡◌, ℕ, ◌<◌, cond, count_by, nat_lt, defines}
use Rattle.sig_kernel.proofs.valid.defines_each.Given as goal

abbrev pub invariant-loop-signal : goal.invariant-loop-signal
invariant-loop-signal l = (k : ℕ) → k < l.signal → count_by (defines k) l.kernel.equations ≡ cond (nat_lt k l.kernel.inputs) 0 1

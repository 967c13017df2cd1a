use Rattle.sig_rel.proofs.{◌≡◌, ◌<◌, ℕ, true}
use Rattle.sig_rel.specs.inner.Tables.{has_both}
use Rattle.sig_rel.proofs.placing.Placed.is_whole.Given as goal

abbrev pub invariant-loop-signal : goal.invariant-loop-signal
invariant-loop-signal l = (signal : ℕ) → signal < l.signal → has_both l.kernel l.rules l.self signal ≡ true

use Rattle.sig_rel.proofs.{◌≡◌, ◌<◌, ℕ, false, is_top_class}
use Rattle.sig_rel.proofs.rules.top_of.Given as goal

abbrev pub invariant-loop-class : goal.invariant-loop-class
invariant-loop-class l = (class : ℕ) → class < l.class → is_top_class l.kernel l.least class ≡ false

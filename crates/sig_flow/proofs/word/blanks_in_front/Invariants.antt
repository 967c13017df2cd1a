use Rattle.sig_flow.proofs.{◌≡◌, ℕ, ◌<◌, get_or, true, is_blank}
use Rattle.sig_flow.proofs.word.blanks_in_front.Given as goal

abbrev pub invariant-loop-i : goal.invariant-loop-i
invariant-loop-i l = (k : ℕ) → k < l.i → is_blank (get_or l.line k 0) ≡ true

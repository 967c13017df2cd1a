use Rattle.sig_parse.proofs.{◌≡◌, ℕ, ◌<◌, get_or, words}
use Rattle.sig_parse.proofs.keyword.reserved.Given as goal

abbrev pub invariant-loop-keyword : goal.invariant-loop-keyword
invariant-loop-keyword l = (k : ℕ) → k < l.keyword-index → get_or words k l.text ≡ l.text → ⊥

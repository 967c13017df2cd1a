use Rattle.sig_parse.proofs.{◌≡◌, ℕ, ◌<◌, get_or, marks}
use Rattle.sig_parse.proofs.keyword.sign.Given as goal

abbrev pub invariant-loop-keyword : goal.invariant-loop-keyword
invariant-loop-keyword l = (k : ℕ) → k < l.keyword-index → get_or marks k l.text ≡ l.text → ⊥

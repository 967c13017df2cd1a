-- no input so far has the name
use Rattle.sig_flow.proofs.{◌≡◌, ◌<◌, ℕ, get_or, Signal}
use Rattle.sig_flow.proofs.named.input_named.Given as goal

abbrev pub invariant-loop-i : goal.invariant-loop-i
invariant-loop-i l = (k : ℕ) (d : Signal) → k < l.i → (get_or l.inputs k d).name ≡ l.name → ⊥

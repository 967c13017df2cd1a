use Rattle.sig_print.proofs.{codes, take, ◌≡◌, ◌++◌, ◌∷◌, [], spaced_text, further, mark, name}
use Rattle.sig_print.proofs.equation.further_names.Given as goal

abbrev pub invariant-loop-name : goal.invariant-loop-name
invariant-loop-name l = l.words ≡ l.initial.words ++ spaced_text (further (λ n. name n ∷ []) (mark (codes ",")) (take l.name-index l.names))

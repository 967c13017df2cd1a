use Rattle.sig_print.proofs.{codes, take, ◌≡◌, ◌++◌, spaced_text, Mark, equations_of, body_words, further, on_new_line}
use Rattle.sig_print.proofs.equation.+body.Given as goal

abbrev pub invariant-all_bodies-loop-one : goal.invariant-all_bodies-loop-one
invariant-all_bodies-loop-one l = l.words ≡ l.initial.words ++ spaced_text (further (λ b. body_words (equations_of b)) (on_new_line Mark (codes "|")) (take l.one-index l.rest))

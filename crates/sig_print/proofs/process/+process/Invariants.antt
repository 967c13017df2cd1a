use Rattle.sig_print.proofs.{◌≡◌, ◌++◌, take, flat_map, spaced_text, model_of, process_words}
use Rattle.sig_print.proofs.process.+process.Given as goal

abbrev pub invariant-processes-loop-one : goal.invariant-processes-loop-one
invariant-processes-loop-one l = l.words ≡ l.initial.words ++ spaced_text (flat_map (λ p. process_words (model_of p)) (take l.one-index l.all))

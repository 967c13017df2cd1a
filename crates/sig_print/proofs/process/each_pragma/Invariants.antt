use Rattle.sig_print.proofs.{◌≡◌, ◌++◌, take, flat_map, spaced_text, placement_of, pragma_words}
use Rattle.sig_print.proofs.process.each_pragma.Given as goal

abbrev pub invariant-loop-one : goal.invariant-loop-one
invariant-loop-one l = l.words ≡ l.initial.words ++ spaced_text (flat_map (λ p. pragma_words (placement_of p)) (take l.one-index l.all))

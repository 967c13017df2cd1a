use Rattle.sig_print.proofs.{[], ◌∷◌, codes, ◌≡◌, ◌++◌, take, flat_map, spaced_text, declared_of, group_words, mark}
use Rattle.sig_print.proofs.process.locals.Given as goal

abbrev pub invariant-loop-one : goal.invariant-loop-one
invariant-loop-one l = l.words ≡ l.initial.words ++ spaced_text (flat_map (λ g. group_words (declared_of g) ++ mark (codes ";") ∷ []) (take l.one-index l.all))

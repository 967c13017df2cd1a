use Rattle.sig_print.proofs.{rules, [], ◌∷◌, codes, mark, name, one_word, further_step}
use Rattle.sig_print.proofs.equation.further_names.Goals as goal

pub loop-name-preserved : goal.loop-name-preserved
loop-name-preserved c = further_step (λ n. name n ∷ []) (mark (codes ",")) _ _ _ _ c.args.names.now _ c.name-item.result
    c.name-item.is (search rules) c.loop-name.invariant c.in_ok-word.ensures
    (one_word _ _ (name c.name-item.result) (rw (← c.as_bytes.ensures) c.in_ok-word-2.ensures))

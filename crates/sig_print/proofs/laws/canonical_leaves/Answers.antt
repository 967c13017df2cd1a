use Rattle.sig_print.proofs.{List, sym, subst, map, flat_map, Leaf, both_limits, leaves_of, Each, IsModel, unplaced_model, canonical_text, process_words, each_read, model_read, leaves_read, some_process}
use Rattle.sig_print.proofs.laws.canonical_leaves.Goals as goal

pub returns : goal.returns
returns c = λ text processes (tokens, are, tree).
    let t = c.words_are_tokens.ensures text processes (tokens, are, tree) in (
      t.0,
      t.1,
      (
        some_process processes tree.0,
        subst (λ (ls : List Leaf). Each (λ p. IsModel both_limits p 0) (map unplaced_model processes) ls) (sym (leaves_read (canonical_text processes) t.0 (flat_map process_words processes) t.2))
            (each_read (λ p. IsModel both_limits p 0) (λ p. IsModel both_limits p 0) unplaced_model process_words (λ p ls h. model_read both_limits p 0 ls h) processes (leaves_of text tokens) tree.1),
      ),
    )

use Rattle.sig_call.proofs.{all_processes_bounded, all_spelled, tree_of_text, all_processes}
use Rattle.sig_call.proofs.laws.trees_of_texts.Goals as goal

pub returns-clause-tree : goal.returns-clause-tree
returns-clause-tree c = λ text program is.
    let words = c.each_token.ensures.words text is.0 is.1 in
    (tree_of_text text is.0 words.0 program words.1 words.2 (c.slices_in_order.ensures.order text is.0 is.1) (c.slices_in_order.ensures.last text is.0 is.1) is.2).tree

pub returns-clause-bounded : goal.returns-clause-bounded
returns-clause-bounded c = λ text program is.
    let words = c.each_token.ensures.words text is.0 is.1 in
    all_processes_bounded (all_processes program)
    (tree_of_text text is.0 words.0 program words.1 words.2 (c.slices_in_order.ensures.order text is.0 is.1) (c.slices_in_order.ensures.last text is.0 is.1) is.2).bounded
    (all_spelled text is.0 words.0 program words.1 words.2 is.2)

pub returns-clause-sized : goal.returns-clause-sized
returns-clause-sized c = λ text program is.
    let words = c.each_token.ensures.words text is.0 is.1 in
    (tree_of_text text is.0 words.0 program words.1 words.2 (c.slices_in_order.ensures.order text is.0 is.1) (c.slices_in_order.ensures.last text is.0 is.1) is.2).sized

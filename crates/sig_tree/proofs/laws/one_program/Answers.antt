use Rattle.sig_tree.proofs.{subst, sym, List, Token, leaves_of, HasTree}
use Rattle.sig_tree.proofs.laws.one_program.Goals as goal

pub returns : goal.returns
returns c = λ text p q (tokens, are, has) (others, also, has_other).
    c.one_tree.ensures.tree (leaves_of text tokens) p q has
    (subst (λ (l : List Token). HasTree (leaves_of text l) q) (sym (c.one_reading.ensures.tokens text tokens others are also)) has_other)

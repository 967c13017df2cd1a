use Rattle.sig_print.proofs.{rules, [], ◌∷◌, codes, ◌++◌, declared_of, group_words, mark, joined, one_word, each_step, each_end}
use Rattle.sig_print.proofs.process.locals.Goals as goal

pub loop-one-preserved : goal.loop-one-preserved
loop-one-preserved c = each_step (λ g. group_words (declared_of g) ++ mark (codes ";") ∷ []) _ _ _ c.args.all.now _ c.one-item.result
    c.one-item.is (search rules) c.loop-one.invariant
    (joined _ _ _ (group_words (declared_of c.one-item.result)) _ c.in_ok-group.ensures (one_word _ _ (mark (codes ";")) c.in_ok-word.ensures))

pub returns : goal.returns
returns c = each_end (λ g. group_words g ++ mark (codes ";") ∷ []) declared_of _ _ c.args.all.now _ c.loop-one-test.false c.loop-one.invariant

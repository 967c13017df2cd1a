use Rattle.sig_print.proofs.{rules, codes, constant_words, mark, further_step}
use Rattle.sig_print.proofs.equation.further_constants.Goals as goal

pub loop-one-preserved : goal.loop-one-preserved
loop-one-preserved c = further_step constant_words (mark (codes ",")) _ _ _ _ c.args.all.now _ c.one-item.result
    c.one-item.is (search rules) c.loop-one.invariant c.in_ok-word.ensures c.in_ok-constant.ensures

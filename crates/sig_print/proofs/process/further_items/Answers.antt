use Rattle.sig_print.proofs.{rules, codes, item_words, mark, further_step}
use Rattle.sig_print.proofs.process.further_items.Goals as goal

pub loop-one-preserved : goal.loop-one-preserved
loop-one-preserved c = further_step item_words (mark (codes ",")) _ _ _ _ c.args.all.now _ c.one-item.result
    c.one-item.is (search rules) c.loop-one.invariant c.in_ok-word.ensures c.in_ok-item.ensures

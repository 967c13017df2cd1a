use Rattle.sig_print.proofs.{rules, placement_of, pragma_words, each_step, each_end}
use Rattle.sig_print.proofs.process.each_pragma.Goals as goal

pub loop-one-preserved : goal.loop-one-preserved
loop-one-preserved c = each_step (λ p. pragma_words (placement_of p)) _ _ _ c.args.all.now _ c.one-item.result
    c.one-item.is (search rules) c.loop-one.invariant c.in_ok-pragma.ensures

pub returns : goal.returns
returns c = each_end pragma_words placement_of _ _ c.args.all.now _ c.loop-one-test.false c.loop-one.invariant

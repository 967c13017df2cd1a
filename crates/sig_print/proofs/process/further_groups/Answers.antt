use Rattle.sig_print.proofs.{rules, ◌∷◌, codes, declared_of, group_words, mark, further_step, each_end}
use Rattle.sig_print.proofs.process.further_groups.Goals as goal

pub loop-one-preserved : goal.loop-one-preserved
loop-one-preserved c = further_step (λ g. group_words (declared_of g)) (mark (codes ";")) _ _ _ _ c.args.all.now _ c.one-item.result
    c.one-item.is (search rules) c.loop-one.invariant c.in_ok-word.ensures c.in_ok-group.ensures

pub returns : goal.returns
returns c = each_end (λ g. mark (codes ";") ∷ group_words g) declared_of _ _ c.args.all.now _ c.loop-one-test.false c.loop-one.invariant

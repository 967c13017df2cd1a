use Rattle.sig_pace.proofs.{get_or, Contains-get_or, nothing, one_more_top, taken_whole}
use Rattle.sig_pace.proofs.tops.tops_among.Goals as goal

pub tops_with-requires-clause-tops : goal.tops_with-requires-clause-tops
tops_with-requires-clause-tops c = record {
  presences = c.requires.candidates.presences;
  each = λ m there. c.requires.candidates.each m (taken_whole c.args.candidates.now c.loop-candidate.candidate-index m (c.loop-candidate.invariant.among m there));
}

pub tops_with-requires-clause-candidate : goal.tops_with-requires-clause-candidate
tops_with-requires-clause-candidate c =
    c.requires.candidates.each (get_or c.args.candidates.now c.loop-candidate.candidate-index nothing) (Contains-get_or c.args.candidates.now c.loop-candidate.candidate-index nothing c.loop-candidate-test.true)

pub loop-candidate-preserved : goal.loop-candidate-preserved
loop-candidate-preserved c =
    one_more_top c.args.asked.now.kernel.now c.args.candidates.now c.requires.order c.loop-candidate.candidate-index c.loop-candidate-test.true c.loop-candidate.tops.items _ c.loop-candidate.invariant c.in_ok-tops.ensures.value

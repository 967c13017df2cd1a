use Rattle.sig_solve.proofs.{◌≡◌, true, subst, Some, status_at, AreHalves, asked_stays, image_stays, condition_is_signal}
use Rattle.sig_solve.proofs.pinned.halves.Goals as goal

pub where_true-requires-clause-signal : goal.where_true-requires-clause-signal
where_true-requires-clause-signal c = condition_is_signal c.args.asked.now.frame.kernel.now c.args.condition.0 c.requires.condition

pub where_false-requires-clause-asked : goal.where_false-requires-clause-asked
where_false-requires-clause-asked c = asked_stays c.args.store.now c.where_true.new.store c.in_ok-high.ensures.kept c.args.asked.now c.in_ok-high.ensures.store c.requires.asked

pub where_false-requires-clause-signal : goal.where_false-requires-clause-signal
where_false-requires-clause-signal c = condition_is_signal c.args.asked.now.frame.kernel.now c.args.condition.0 c.requires.condition

pub returns-clause-value : goal.returns-clause-value
returns-clause-value c =
    let is = asked_stays c.args.store.now c.where_true.new.store c.in_ok-high.ensures.kept c.args.asked.now c.in_ok-high.ensures.store c.requires.asked in
    subst (λ xs. AreHalves c.where_false.new.store.nodes c.args.asked.now xs c.args.condition.0 c.in_ok-high.high c.in_ok-low.low) c.as_slice-forgotten.ensures.value
    (record {
      high_is = image_stays c.where_true.new.store c.args.asked.now is c.where_false.new.store c.in_ok-low.ensures.kept c.as_slice-forgotten.result.now (λ reaction. status_at reaction c.args.condition.0 ≡ Some true) c.in_ok-high.high c.in_ok-high.ensures.value;
      low_is = c.in_ok-low.ensures.value;
    })

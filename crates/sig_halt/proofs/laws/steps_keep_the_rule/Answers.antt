use Rattle.sig_halt.proofs.RuleKept.{begins, splits, looks, fails, joins, closes}
use Rattle.sig_halt.proofs.laws.steps_keep_the_rule.Goals as goal

pub returns : goal.returns
returns c = record {
  making = begins;
  split = splits;
  load = looks;
  fetch_min = fails;
  join = joins;
  close = closes;
}

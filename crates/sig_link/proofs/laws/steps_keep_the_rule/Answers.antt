use Rattle.sig_link.proofs.RuleKept.{begins, forks, pushes, full, pops, empty, merges, settles}
use Rattle.sig_link.proofs.laws.steps_keep_the_rule.Goals as goal

pub returns : goal.returns
returns g c = record {
  making = begins;
  second_end = forks;
  push = pushes;
  push_full = full;
  pop = pops;
  pop_empty = empty;
  settling = merges;
  settled = settles;
}

use Rattle.sig_plan.proofs.{clocks_kept, guards_held, presence_stays}
use Rattle.sig_plan.proofs.laws.clocks_stay.Goals as goal

pub returns : goal.returns
returns c = record {
  clocks = clocks_kept;
  guards = λ kernel old new clocks kept are. presence_stays old new kept clocks (guards_held kernel old.nodes clocks are);
}

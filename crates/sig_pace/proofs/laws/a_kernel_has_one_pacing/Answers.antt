use Rattle.sig_pace.proofs.{many_or_paced, one_pacing, one_taken, same_clocks, taken_or_many, taken_or_paced}
use Rattle.sig_pace.proofs.laws.a_kernel_has_one_pacing.Goals as goal

pub returns : goal.returns
returns c = record {
  clocks = same_clocks;
  paced = one_pacing;
  taken = λ kernel paced signal is taken. taken_or_paced kernel signal paced taken is;
  many = λ kernel paced is many. many_or_paced kernel paced many is;
  same_taken = one_taken;
  one_by_one = taken_or_many;
}

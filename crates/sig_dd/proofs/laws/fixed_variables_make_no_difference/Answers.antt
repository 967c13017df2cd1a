use Rattle.sig_dd.proofs.{fixed, forgotten, some_truth, truth_some}
use Rattle.sig_dd.proofs.laws.fixed_variables_make_no_difference.Goals as goal

pub returns : goal.returns
returns c = record {
  fixed = fixed;
  forgotten = forgotten;
  some_truth = λ nodes f v ts. (some_truth nodes f v ts, truth_some nodes f v ts);
}

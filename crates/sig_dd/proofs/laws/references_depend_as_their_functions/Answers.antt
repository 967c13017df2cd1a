use Rattle.sig_dd.proofs.{ref_depends, function_depends}
use Rattle.sig_dd.proofs.laws.references_depend_as_their_functions.Goals as goal

pub returns : goal.returns
returns c = record {
  depends = λ nodes f r is v. (ref_depends nodes f r is v, function_depends nodes f r is v);
  spans = λ nodes r vs ws among spans v d. among v (spans v d);
}

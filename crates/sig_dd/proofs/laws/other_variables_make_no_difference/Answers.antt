use Rattle.sig_dd.proofs.{asked_agree, depends_agree, spans_agree}
use Rattle.sig_dd.proofs.laws.other_variables_make_no_difference.Goals as goal

pub returns : goal.returns
returns c = record {
  depends = depends_agree;
  spans = spans_agree;
  asked = asked_agree;
}

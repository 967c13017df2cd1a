use Rattle.sig_tree.proofs.{without_silence, with_silence, each_reduced}
use Rattle.sig_tree.proofs.meaning.silence_in_traces.Goals as goal

pub returns-clause-out : goal.returns-clause-out
returns-clause-out c = λ flat t are h. record {
  kinds = each_reduced _ t h.kinds;
  holds = without_silence c.functions_give_one_value.ensures.one t flat.equations are h.holds;
}

pub returns-clause-into : goal.returns-clause-into
returns-clause-into c = λ flat t are kinds h. record {
  kinds = kinds;
  holds = with_silence c.functions_give_one_value.ensures.one t flat.equations are h.holds;
}

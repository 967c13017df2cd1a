use Rattle.sig_dd.proofs.{Keeps-itself, Keeps-trans, Holds-kept, Agree-kept, Spans-kept}
use Rattle.sig_dd.proofs.laws.older_references_stay.Goals as goal

pub returns : goal.returns
returns c = record {
  none = Keeps-itself;
  then = Keeps-trans;
  held = Holds-kept;
  function = Agree-kept;
  spans = Spans-kept;
}

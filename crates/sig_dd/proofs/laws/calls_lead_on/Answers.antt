use Rattle.sig_dd.proofs.{Trail-begins, Trail-fails, Trail-next}
use Rattle.sig_dd.proofs.laws.calls_lead_on.Goals as goal

pub returns : goal.returns
returns c = record {
  begins = Trail-begins;
  next = Trail-next;
  fails = Trail-fails;
}

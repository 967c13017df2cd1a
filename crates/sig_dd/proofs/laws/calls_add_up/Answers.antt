use Rattle.sig_dd.proofs.{Share-none, Share-then, Share-wider, allowance_rises}
use Rattle.sig_dd.proofs.laws.calls_add_up.Goals as goal

pub returns : goal.returns
returns c = record {
  none = λ vs s. Share-none s vs;
  then = λ m n vs r s t why first rest. Share-then r s t m n vs why first rest;
  wider = λ m n vs ws s t why le share. Share-wider s t m n vs ws why le share;
  rises = allowance_rises;
}

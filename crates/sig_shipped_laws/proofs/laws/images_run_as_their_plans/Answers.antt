use Rattle.sig_shipped_laws.proofs.{runs_as}
use Rattle.sig_shipped_laws.proofs.laws.images_run_as_their_plans.Goals as goal

pub returns : goal.returns
returns c = runs_as

use Rattle.sig_c_step.proofs.StepCalls.{steps_run}
use Rattle.sig_c_step.proofs.laws.steps_run_as_images.Goals as goal

pub returns : goal.returns
returns c = steps_run

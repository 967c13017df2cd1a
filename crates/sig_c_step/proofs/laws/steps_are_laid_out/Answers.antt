use Rattle.sig_c_step.proofs.LaidOut.{ends_printable, laid_helpers, step_laid}
use Rattle.sig_c_step.proofs.laws.steps_are_laid_out.Goals as goal

pub returns : goal.returns
returns c image names right = (step_laid image right names, laid_helpers image, ends_printable image right)

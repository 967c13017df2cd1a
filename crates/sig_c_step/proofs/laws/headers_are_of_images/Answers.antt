use Rattle.sig_c_step.proofs.Headers.{done_first, header_is}
use Rattle.sig_c_step.proofs.laws.headers_are_of_images.Goals as goal

pub returns-clause-header : goal.returns-clause-header
returns-clause-header c = header_is

pub returns-clause-done : goal.returns-clause-done
returns-clause-done c image names = done_first image

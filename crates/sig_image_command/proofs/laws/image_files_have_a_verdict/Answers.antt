use Rattle.sig_image_command.proofs.{image_apart, one_image_line, one_sound, image_verdict}
use Rattle.sig_image_command.proofs.laws.image_files_have_a_verdict.Goals as goal

pub returns-clause-some : goal.returns-clause-some
returns-clause-some c = image_verdict

pub returns-clause-image : goal.returns-clause-image
returns-clause-image c = one_sound

pub returns-clause-line : goal.returns-clause-line
returns-clause-line c = one_image_line

pub returns-clause-apart : goal.returns-clause-apart
returns-clause-apart c = image_apart

use Rattle.sig_verify.proofs.{none_first, one_first, verdict}
use Rattle.sig_verify.proofs.laws.images_are_sound_or_not.Goals as goal

pub returns-clause-verdict : goal.returns-clause-verdict
returns-clause-verdict c = verdict

pub returns-clause-apart : goal.returns-clause-apart
returns-clause-apart c = λ image n sound. none_first image sound n

pub returns-clause-one : goal.returns-clause-one
returns-clause-one c = one_first

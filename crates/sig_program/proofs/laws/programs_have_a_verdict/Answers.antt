use Rattle.sig_program.proofs.{program_verdict}
use Rattle.sig_program.proofs.laws.programs_have_a_verdict.Goals as goal

pub returns : goal.returns
returns c = program_verdict c.texts_have_a_verdict.ensures.kernel c.kernels_of_texts.ensures.valid c.kernels_have_a_verdict.ensures

use Rattle.sig_code.proofs.{code_text_once}
use Rattle.sig_code.proofs.laws.a_kernel_has_one_code_text.Goals as goal

pub returns : goal.returns
returns c = code_text_once

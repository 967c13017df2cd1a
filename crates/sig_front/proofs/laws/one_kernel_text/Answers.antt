use Rattle.sig_front.proofs.{kernel_once, no_kernel_once, kernel_or_refusal}
use Rattle.sig_front.proofs.laws.one_kernel_text.Goals as goal

pub returns-clause-kernel : goal.returns-clause-kernel
returns-clause-kernel c = kernel_once

pub returns-clause-refusal : goal.returns-clause-refusal
returns-clause-refusal c = no_kernel_once

pub returns-clause-apart : goal.returns-clause-apart
returns-clause-apart c = kernel_or_refusal

use Rattle.sig_front.proofs.{IsKernelText, IsNoKernelText, given, refused, kernel_once, kernel_or_refusal, no_kernel_once, IfOk-weaker}
use Rattle.sig_front.proofs.kernel.front.Goals as goal

pub returns-clause-valid : goal.returns-clause-valid
returns-clause-valid c =
    IfOk-weaker c.kernel_of.result _ _ (λ kernel. c.kernels_of_texts.ensures.valid c.args.bytes.now kernel c.requires.short) c.kernel_of.ensures.kernel

pub returns-clause-traces : goal.returns-clause-traces
returns-clause-traces c = IfOk-weaker c.kernel_of.result _ _ (c.kernels_of_texts.ensures.traces c.args.bytes.now) c.kernel_of.ensures.kernel

pub returns-clause-small : goal.returns-clause-small
returns-clause-small c =
    IfOk-weaker c.kernel_of.result _ _ (λ kernel. c.kernels_of_texts.ensures.small c.args.bytes.now kernel c.requires.short) c.kernel_of.ensures.kernel

pub returns-clause-names : goal.returns-clause-names
returns-clause-names c =
    IfOk-weaker c.kernel_of.result _ _ (λ kernel. c.kernels_of_texts.ensures.names c.args.bytes.now kernel c.requires.short) c.kernel_of.ensures.kernel

pub returns-clause-given : goal.returns-clause-given
returns-clause-given c =
    given (λ kernel. kernel) (IsKernelText c.args.bytes.now) (IsNoKernelText c.args.bytes.now) (kernel_once c.args.bytes.now) (kernel_or_refusal c.args.bytes.now)
    c.kernel_of.result c.kernel_of.ensures.kernel c.kernel_of.ensures.fault

pub returns-clause-refused : goal.returns-clause-refused
returns-clause-refused c =
    refused (λ kernel. kernel) (IsKernelText c.args.bytes.now) (IsNoKernelText c.args.bytes.now) (no_kernel_once c.args.bytes.now) (kernel_or_refusal c.args.bytes.now)
    c.kernel_of.result c.kernel_of.ensures.kernel c.kernel_of.ensures.fault

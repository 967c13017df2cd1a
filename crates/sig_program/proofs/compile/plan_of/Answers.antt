use Rattle.sig_program.proofs.{HasSignalNames, subst, sym, own_names}
use Rattle.sig_program.proofs.compile.plan_of.Goals as goal

pub returns-in-Ok-clause-names : goal.returns-in-Ok-clause-names
returns-in-Ok-clause-names c = λ unpaced.
    subst HasSignalNames (sym c.in-Ok.ensures.plan)
    (own_names c.kernels_of_texts.ensures.names c.args.bytes.now c.requires.short c.args.pace unpaced c.in_ok-kernel.kernel c.in_ok-kernel.ensures.kernel)

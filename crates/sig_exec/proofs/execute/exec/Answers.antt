use Rattle.sig_exec.proofs.{subst, ImageView, TookSome}
use Rattle.sig_exec.proofs.execute.exec.Goals as goal

pub returns-clause-prefix : goal.returns-clause-prefix
returns-clause-prefix g c = λ same.
    subst (λ (image : ImageView). TookSome image c.args.inputs.now c.args.limit g.S.Sink.took c.args.sink.now c.run.new.sink) c.image_of-image.ensures.image c.in-Err.ensures.prefix

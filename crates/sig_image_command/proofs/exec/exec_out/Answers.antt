use Rattle.sig_image_command.proofs.{◌∙◌, ℕ, List, Err, ap, subst, sym, err_from_is_err_and, TookPrefix-whole, flushed, one_image_run}
use Rattle.sig_image_command.proofs.exec.exec_out.Goals as goal

pub returns-in-Ok-clause-whole : goal.returns-in-Ok-clause-whole
returns-in-Ok-clause-whole g c =
    let run = c.in_ok-end.ensures.whole in
    (run.0, run.1, flushed g.S.Sink.took g.met.S.Sink.took_both run.0 c.args.out.now c.exec.new.sink c.flush.new.self run.2 c.flush.ensures.bytes)

pub returns-in-Err-clause-prefix : goal.returns-in-Err-clause-prefix
returns-in-Err-clause-prefix g c = λ is text end runs.
    let run = c.in_ok-end.ensures.whole in
    let same = one_image_run c.args.image.now c.args.inputs.now c.args.limit run.0 text c.in_ok-end.end end run.1 runs in
    TookPrefix-whole g.S.Sink.took c.args.out.now c.flush.new.self text
    (subst (λ (t : List ℕ). g.S.Sink.took c.args.out.now t c.flush.new.self) same.0
    (flushed g.S.Sink.took g.met.S.Sink.took_both run.0 c.args.out.now c.exec.new.sink c.flush.new.self run.2 c.flush.ensures.bytes))

pub returns-in_err-end-clause-prefix : goal.returns-in_err-end-clause-prefix
returns-in_err-end-clause-prefix g c = λ is text end runs.
    let p = err_from_is_err_and c.from_residual.result c.from_residual.ensures.1 in
    c.in_err-end.ensures.prefix (ap Err (sym p.2) ∙ sym p.1 ∙ is) text end runs

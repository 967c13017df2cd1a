use Rattle.sig_outcome.proofs.{[], flat_map, subst, append-nil}
use Rattle.sig_outcome.proofs.report.say.Goals as goal

pub returns-in-Ok : goal.returns-in-Ok
returns-in-Ok g c = λ stays.
    subst (λ bytes. g.E.Sink.took c.args.err.now bytes c.flush.new.self) (append-nil (flat_map (λ piece. piece.now) c.args.line.now))
    (g.met.E.Sink.took_both c.args.err.now c.put_pieces.new.sink c.flush.new.self (flat_map (λ piece. piece.now) c.args.line.now) [] c.in-Ok.ensures.all c.flush.ensures.bytes)

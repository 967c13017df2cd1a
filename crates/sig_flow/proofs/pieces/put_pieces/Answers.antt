use Rattle.sig_flow.proofs.{err_from_is_err_and, prefix_of_pieces}
use Rattle.sig_flow.proofs.pieces.put_pieces.Goals as goal

pub returns-in_err-put_all-clause-prefix : goal.returns-in_err-put_all-clause-prefix
returns-in_err-put_all-clause-prefix g c =
    let p = err_from_is_err_and c.from_residual.result c.from_residual.ensures.1 in
    rw p.1 (prefix_of_pieces g.S.Sink.took g.met.S.Sink.took_both c.args.pieces.now c.loop-piece.piece-index _ c.args.sink.now c.loop-piece.sink c.put_all.new.sink c.loop-piece-test.true c.loop-piece.invariant.taken c.in_err-put_all.ensures.prefix)

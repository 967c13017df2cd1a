-- the pieces so far were taken
use Rattle.sig_outcome.proofs.{◌≤◌, take, flat_map}
use Rattle.sig_outcome.proofs.pieces.put_pieces.Given as goal

abbrev pub invariant-loop-piece : goal.invariant-loop-piece
invariant-loop-piece g l = record {
  taken : g.S.Sink.took l.fn.sink (flat_map (λ piece. piece.now) (take l.piece-index l.pieces)) l.sink;
  faults : g.S.Sink.faults l.fn.sink ≤ g.S.Sink.faults l.sink;
}

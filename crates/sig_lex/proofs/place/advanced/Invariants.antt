use Rattle.sig_lex.proofs.{◌≡◌, ◌+◌, take, place_after}
use Rattle.sig_lex.proofs.place.advanced.Given as goal

abbrev pub invariant-loop-byte : goal.invariant-loop-byte
invariant-loop-byte l = record {
  line : l.line ≡ (place_after (take (l.start + l.byte-index) l.bytes)).line;
  col : l.col ≡ (place_after (take (l.start + l.byte-index) l.bytes)).col;
}

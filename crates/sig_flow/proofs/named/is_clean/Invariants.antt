-- so far all bytes may stand in a line
use Rattle.sig_flow.proofs.{◌≡◌, take, list_all, is_line_byte}
use Rattle.sig_flow.proofs.named.is_clean.Given as goal

abbrev pub invariant-loop-byte : goal.invariant-loop-byte
invariant-loop-byte l = l.clean ≡ list_all is_line_byte (take l.byte-index l.line)

use Rattle.sig_program.proofs.{take, HasWritten, IsPlainFormatter, shown}
use Rattle.sig_program.proofs.taken.ShownDisplay.fmt.Given as goal

abbrev pub invariant-loop-byte : goal.invariant-loop-byte
invariant-loop-byte g l = IsPlainFormatter l.fn.f → HasWritten g.W.Write.write_str_gives l.fn.f (shown (take l.byte-index l.byte-items)) l.f

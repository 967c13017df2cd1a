use Rattle.sig_type.proofs.{IsDigit, take, AllByRecursion}
use Rattle.sig_type.proofs.pragmas.are_digits.Given as goal

abbrev pub invariant-loop-byte : goal.invariant-loop-byte
invariant-loop-byte l = AllByRecursion IsDigit (take l.byte-index l.label)

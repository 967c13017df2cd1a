-- The lines of faults, each without its newline.
use Rattle.sig_lex.specs.Prelude.{ℕ, List, codes, refusal_at, refusal}
use Rattle.sig_lex.specs.declared.answer.LexAnswer.{LexAnswer}
use Rattle.sig_lex.specs.declared.answer.LexAnswer.TheVariants.{BadByte, OpenComment, LongNumber, OutOfMemory}

abbrev pub fault_line : LexAnswer → List ℕ
fault_line (BadByte at) = refusal_at at (codes "unexpected byte")
fault_line (OpenComment at) = refusal_at at (codes "comment not closed")
fault_line (LongNumber at) = refusal_at at (codes "number too large")
fault_line OutOfMemory = refusal (codes "out of memory")

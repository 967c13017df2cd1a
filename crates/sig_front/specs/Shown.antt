-- The lines of refusals, each without its newline.
use Rattle.std.specs.Prelude.{◌++◌}
use Rattle.sig_front.specs.Prelude.{ℕ, List, codes, decimal, refusal, fault_line, answer_line, type_line}
use Rattle.sig_front.specs.declared.answer.FrontAnswer.{FrontAnswer}
use Rattle.sig_front.specs.declared.answer.FrontAnswer.TheVariants.{Lex, Parse, «Type» as TypeRefused, TooManySignals, OutOfMemory}

abbrev pub front_line : FrontAnswer → List ℕ
front_line (Lex answer) = fault_line answer
front_line (Parse answer) = answer_line answer
front_line (TypeRefused answer) = type_line answer
front_line (TooManySignals limit) = refusal (codes "more than " ++ (decimal limit ++ codes " signals"))
front_line OutOfMemory = refusal (codes "out of memory")

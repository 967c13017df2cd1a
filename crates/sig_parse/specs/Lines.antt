-- The lines of the parser's answers, each without its newline.
use Rattle.std.specs.Prelude.{◌++◌, ◌==◌, if◌then◌else◌}
use Rattle.sig_parse.specs.Prelude.{ℕ, List, codes, decimal, refusal_at, refusal, OPERATORS}
use Rattle.sig_parse.specs.declared.parse_answer.ParseAnswer.{ParseAnswer}
use Rattle.sig_parse.specs.declared.parse_answer.ParseAnswer.TheVariants.{Syntax, Nesting, OutOfMemory}

abbrev pub answer_line : ParseAnswer → List ℕ
answer_line (Syntax at) = refusal_at at (codes "syntax")
answer_line (Nesting limit at) = refusal_at at (if limit == OPERATORS
    then codes "more than " ++ decimal limit ++ codes " operators"
    else codes "nesting deeper than " ++ decimal limit)
answer_line OutOfMemory = refusal (codes "out of memory")

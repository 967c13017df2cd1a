-- The refusals of trace files as texts: what stands on standard error behind `error: ` and the file's
-- name with a colon.
use Rattle.std.specs.Prelude.{◌++◌}
use Rattle.sig_judge.specs.Prelude.{ℕ, List, codes, decimal}
use Rattle.sig_judge.specs.declared.trace_answer.TraceAnswer.{TraceAnswer}
use Rattle.sig_judge.specs.declared.trace_answer.TraceAnswer.TheVariants.{BadLine, BadHeader, BadWidth, BadValue, OutOfRange, TooMany, OutOfMemory}

abbrev pub trace_text : TraceAnswer → List ℕ
trace_text (BadLine line) = decimal line ++ codes ": bad line"
trace_text (BadHeader line) = decimal line ++ codes ": bad header"
trace_text (BadWidth line) = decimal line ++ codes ": bad width"
trace_text (BadValue line col) = decimal line ++ codes ":" ++ decimal col ++ codes ": bad value"
trace_text (OutOfRange line col) = decimal line ++ codes ":" ++ decimal col ++ codes ": out of range"
trace_text (TooMany limit) = codes " more than " ++ decimal limit ++ codes " cells"
trace_text OutOfMemory = codes " out of memory"

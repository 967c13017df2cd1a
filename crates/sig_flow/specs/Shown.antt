-- The refusals of files as texts: what stands on standard error behind `error: ` and the file's name
-- with a colon.
use Rattle.std.specs.Prelude.{◌++◌}
use Rattle.sig_flow.specs.Prelude.{ℕ, List, codes, decimal}
use Rattle.sig_flow.specs.declared.answer.EventAnswer.{EventAnswer}
use Rattle.sig_flow.specs.declared.answer.FlowAnswer.{FlowAnswer}
use Rattle.sig_flow.specs.declared.answer.EventAnswer.TheVariants.{BadEvent, TooMany as TooManyEvents, OutOfMemory as NoMemory}
use Rattle.sig_flow.specs.declared.answer.FlowAnswer.TheVariants.{BadLine, NotAnInput, BadValue, OutOfRange, TooMany, OutOfMemory}

abbrev pub flow_text : FlowAnswer → List ℕ
flow_text (BadLine line) = decimal line ++ codes ": bad line"
flow_text (NotAnInput line) = decimal line ++ codes ": not an input"
flow_text (BadValue line col) = decimal line ++ codes ":" ++ decimal col ++ codes ": bad value"
flow_text (OutOfRange line col) = decimal line ++ codes ":" ++ decimal col ++ codes ": out of range"
flow_text (TooMany limit) = codes " more than " ++ decimal limit ++ codes " values"
flow_text OutOfMemory = codes " out of memory"

abbrev pub event_text : EventAnswer → List ℕ
event_text (BadEvent line) = decimal line ++ codes ": bad event"
event_text (TooManyEvents limit) = codes " more than " ++ decimal limit ++ codes " events"
event_text NoMemory = codes " out of memory"

-- What the code sees of a signal, as the definition of traces has it.
use Rattle.sig_judge.specs.Prelude.{None, Some, Seen as SeenAt}
use Rattle.sig_judge.specs.declared.trace.Seen.{Seen}
use Rattle.sig_judge.specs.declared.trace.Seen.TheVariants.{Absent, Value}

abbrev pub seen_of : Seen → SeenAt
seen_of Absent = None
seen_of (Value v) = Some v

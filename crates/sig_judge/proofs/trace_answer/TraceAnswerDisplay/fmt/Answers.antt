use Rattle.sig_judge.proofs.{append_assoc}
use Rattle.sig_judge.proofs.trace_answer.TraceAnswerDisplay.fmt.Goals as goal

pub returns-in-OutOfRange-clause-writes : goal.returns-in-OutOfRange-clause-writes
returns-in-OutOfRange-clause-writes g c = rw c.in-OutOfRange.is (simp append_assoc c.write-in-OutOfRange.ensures.writes)

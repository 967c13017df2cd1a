use Rattle.sig_type.proofs.{append_assoc}
use Rattle.sig_type.proofs.answer.TypeAnswerDisplay.fmt.Goals as goal

pub returns-in-Unknown-clause-writes : goal.returns-in-Unknown-clause-writes
returns-in-Unknown-clause-writes g c plain ok = rw c.in-Unknown.is (simp append_assoc (simp append_assoc at (c.write.ensures.writes plain ok)))

pub returns-in-Undefined-clause-writes : goal.returns-in-Undefined-clause-writes
returns-in-Undefined-clause-writes g c plain ok = rw c.in-Undefined.is (simp append_assoc (simp append_assoc at (c.write-in-Undefined.ensures.writes plain ok)))

pub returns-in-Clash-clause-writes : goal.returns-in-Clash-clause-writes
returns-in-Clash-clause-writes g c plain ok = rw c.in-Clash.is (simp append_assoc (simp append_assoc at (c.write-in-Clash.ensures.writes plain ok)))

pub returns-in-BadCall-clause-writes : goal.returns-in-BadCall-clause-writes
returns-in-BadCall-clause-writes g c plain ok = rw c.in-BadCall.is (simp append_assoc (simp append_assoc at (c.write-in-BadCall.ensures.writes plain ok)))

pub returns-in-BadPragma-clause-writes : goal.returns-in-BadPragma-clause-writes
returns-in-BadPragma-clause-writes g c plain ok = rw c.in-BadPragma.is (simp append_assoc (simp append_assoc at (c.write-in-BadPragma.ensures.writes plain ok)))

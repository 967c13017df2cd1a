use Rattle.sig_hier.proofs.{◌≡◌, ◌++◌, take, others_text}
use Rattle.sig_hier.proofs.text.write_others.Given as goal

abbrev pub invariant-loop-other : goal.invariant-loop-other
invariant-loop-other l = l.text.items ≡ l.initial.text.items ++ others_text l.signals (take l.other-index l.others)

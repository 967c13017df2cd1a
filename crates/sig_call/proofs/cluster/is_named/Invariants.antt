-- none so far has the name
use Rattle.sig_call.proofs.{◌≡◌, drop, is_named}
use Rattle.sig_call.proofs.cluster.is_named.Given as goal

abbrev pub invariant-loop-name : goal.invariant-loop-name
invariant-loop-name l = is_named l.text (drop l.name-index l.names) ≡ is_named l.text l.names

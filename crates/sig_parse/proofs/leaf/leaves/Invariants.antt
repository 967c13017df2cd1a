use Rattle.sig_parse.proofs.{◌≡◌, map, take, leaves_of, leaf_seen}
use Rattle.sig_parse.proofs.leaf.leaves.Given as goal

abbrev pub invariant-loop-token : goal.invariant-loop-token
invariant-loop-token l = map leaf_seen l.leaves.items ≡ leaves_of l.bytes (take l.token-index l.tokens)

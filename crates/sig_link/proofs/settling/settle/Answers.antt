use Rattle.sig_link.proofs.RuleKept.{merges}
use Rattle.sig_link.proofs.settling.settle.Goals as goal

pub absorb-requires-clause-rule : goal.absorb-requires-clause-rule
absorb-requires-clause-rule g c = merges _ _ _ _ c.args.put.puts c.args.take.takes

use Rattle.std.proofs.Common.{All}
use Rattle.sig_dd.specs.Nodes.{Holds}
use Rattle.sig_rows_clocks.proofs.stores.held_in.Given as goal

abbrev pub invariant-loop-word : goal.invariant-loop-word
invariant-loop-word l = All (Holds l.fn.store.nodes) l.held.items

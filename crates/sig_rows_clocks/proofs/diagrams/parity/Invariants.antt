use Rattle.std.proofs.Common.{length, ◌≤◌}
use Rattle.sig_dd.specs.Nodes.{Holds}
use Rattle.sig_rows_clocks.proofs.diagrams.parity.Given as goal

abbrev pub invariant-loop-v : goal.invariant-loop-v
invariant-loop-v l = (length l.fn.store.nodes ≤ length l.store.nodes) × Holds l.store.nodes l.odd

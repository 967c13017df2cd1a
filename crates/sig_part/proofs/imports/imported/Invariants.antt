use Rattle.sig_part.proofs.{◌≡◌, List, length, SigId, Node, AreImportedBy, AreNeeded, operations_in}
use Rattle.sig_part.proofs.imports.imported.Given as goal

abbrev pub invariant-loop-cluster : goal.invariant-loop-cluster
invariant-loop-cluster l = record {
  count : length l.marks.items ≡ l.cluster;
  each : (conditions : List SigId) (nodes : List Node) → AreNeeded conditions nodes l.ops l.needs → AreImportedBy l.kernel conditions (operations_in nodes l.ops) l.cluster l.marks.items;
}

use Rattle.sig_file.proofs.{◌≡◌, ◌++◌, take, flat_map, node_bytes}
use Rattle.sig_file.proofs.write.put_nodes.Given as goal

abbrev pub invariant-loop-node : goal.invariant-loop-node
invariant-loop-node l = l.out.items ≡ l.fn.out.items ++ flat_map node_bytes (take l.node-index l.nodes)

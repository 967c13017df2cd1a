use Rattle.sig_code.proofs.{AreCodesOf, parts_of, instructions_of, operations_in, numbers_of}
use Rattle.sig_code.proofs.steps.Source.codes.Given as goal

abbrev pub invariant-loop-cluster : goal.invariant-loop-cluster
invariant-loop-cluster l =
    let source = l.self in
    AreCodesOf source.store.now.nodes (instructions_of (operations_in source.store.now.nodes source.ops.now) (numbers_of source.order.now) (parts_of source.clusters source.links.now))
    l.cluster l.codes.items

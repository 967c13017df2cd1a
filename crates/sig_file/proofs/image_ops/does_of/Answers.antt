use Rattle.sig_file.proofs.image_ops.does_of.Goals as goal

pub returns-in-Compute : goal.returns-in-Compute
returns-in-Compute c = rw c.in-Compute.is (c.computed.ensures c.args.memory)

pub returns-in-Left : goal.returns-in-Left
returns-in-Left c = rw c.in-Left.is (c.left.ensures c.args.memory)

pub returns-in-Right : goal.returns-in-Right
returns-in-Right c = rw c.in-Right.is (c.right.ensures c.args.memory)

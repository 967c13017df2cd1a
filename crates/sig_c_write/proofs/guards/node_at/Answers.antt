use Rattle.sig_c_write.proofs.GuardParts.{low_before, high_before}
use Rattle.sig_c_write.proofs.guards.node_at.Goals as goal

pub returns-clause-low : goal.returns-clause-low
returns-clause-low c =
    low_before c.args.image.now.nodes c.args.place c.node_of.result (c.nodes_of_images_are_reduced.ensures c.args.image.now c.images_are_right.ensures) c.node_of.ensures

pub returns-clause-high : goal.returns-clause-high
returns-clause-high c =
    high_before c.args.image.now.nodes c.args.place c.node_of.result (c.nodes_of_images_are_reduced.ensures c.args.image.now c.images_are_right.ensures) c.node_of.ensures

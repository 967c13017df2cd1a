use Rattle.sig_file.proofs.{◌∙◌, ap, not, set_with}
use Rattle.sig_file.proofs.node_set.NodeSet.add.Goals as goal

pub returns-clause-new : goal.returns-clause-new
returns-clause-new c = λ nodes is. c.in_ok-insert.ensures.added ∙ ap not (is c.args.node)

pub returns-clause-added : goal.returns-clause-added
returns-clause-added c = λ nodes is n. c.in_ok-insert.ensures.updates.0 n ∙ set_with nodes c.args.node n _ (is n)

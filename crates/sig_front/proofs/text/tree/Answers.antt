use Rattle.sig_front.proofs.{IsText, program_of, IsNoText, given, refused, tree_once, refusal_once, tree_or_refusal}
use Rattle.sig_front.proofs.text.tree.Goals as goal

pub returns-clause-given : goal.returns-clause-given
returns-clause-given c =
    given program_of (IsText c.args.bytes.now) (IsNoText c.args.bytes.now) (tree_once c.args.bytes.now) (tree_or_refusal c.args.bytes.now) c.tree_of.result c.tree_of.ensures.tree c.tree_of.ensures.fault

pub returns-clause-refused : goal.returns-clause-refused
returns-clause-refused c =
    refused program_of (IsText c.args.bytes.now) (IsNoText c.args.bytes.now) (refusal_once c.args.bytes.now) (tree_or_refusal c.args.bytes.now) c.tree_of.result c.tree_of.ensures.tree c.tree_of.ensures.fault

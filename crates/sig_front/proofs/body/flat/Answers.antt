use Rattle.sig_front.proofs.{flat_body_of, IsFlatText, IsNoFlatText, given, refused, flat_once, no_flat_once, flat_or_refusal, names, small}
use Rattle.sig_front.proofs.body.flat.Goals as goal

pub returns-clause-given : goal.returns-clause-given
returns-clause-given c =
    given flat_body_of (IsFlatText c.args.bytes.now) (IsNoFlatText c.args.bytes.now) (flat_once c.args.bytes.now) (flat_or_refusal c.args.bytes.now) c.flat_of.result c.flat_of.ensures.flat c.flat_of.ensures.fault

pub returns-clause-refused : goal.returns-clause-refused
returns-clause-refused c =
    refused flat_body_of (IsFlatText c.args.bytes.now) (IsNoFlatText c.args.bytes.now) (no_flat_once c.args.bytes.now) (flat_or_refusal c.args.bytes.now) c.flat_of.result c.flat_of.ensures.flat c.flat_of.ensures.fault

pub returns-clause-small : goal.returns-clause-small
returns-clause-small c =
    small c.trees_of_texts.ensures.tree c.trees_of_texts.ensures.sized c.size_of_flat_bodies.ensures.weights c.size_of_flat_bodies.ensures.equations c.args.bytes.now c.flat_of.result c.requires.short c.flat_of.ensures.flat

pub returns-clause-names : goal.returns-clause-names
returns-clause-names c =
    names c.names_of_flat_bodies.ensures.differ c.args.bytes.now c.flat_of.result c.flat_of.ensures.flat

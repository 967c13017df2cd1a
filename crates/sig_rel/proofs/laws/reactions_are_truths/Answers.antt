use Rattle.sig_rel.proofs.{truths_of_reaction}
use Rattle.sig_rel.proofs.laws.reactions_are_truths.Goals as goal

pub returns : goal.returns
returns c kernel count nodes relation is reaction possible = truths_of_reaction kernel count relation.present relation.truth is.unknowns reaction possible

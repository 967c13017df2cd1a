use Rattle.sig_interleaving.proofs.{end_of, goes_on_of, reference_of, text_of, word_of}
use Rattle.sig_interleaving.proofs.laws.cores_keep_to_the_plan.Goals as goal

pub returns-clause-text : goal.returns-clause-text
returns-clause-text c = text_of c.args.core.now c.requires c.plans_are_accepted.ensures

pub returns-clause-reference : goal.returns-clause-reference
returns-clause-reference c = reference_of c.args.core.now c.requires c.plans_are_accepted.ensures

pub returns-clause-word : goal.returns-clause-word
returns-clause-word c = word_of c.args.core.now c.requires c.plans_are_accepted.ensures

pub returns-clause-enabled : goal.returns-clause-enabled
returns-clause-enabled c = goes_on_of c.args.core.now c.requires c.plans_are_accepted.ensures

pub returns-clause-end : goal.returns-clause-end
returns-clause-end c = end_of c.args.core.now c.requires c.plans_are_accepted.ensures

use Rattle.sig_interleaving.proofs.{all_bounded, each_end, each_goes_on, each_reference, each_text, each_word}
use Rattle.sig_interleaving.proofs.laws.runs_keep_to_the_plan.Goals as goal

pub returns-clause-text : goal.returns-clause-text
returns-clause-text c = each_text c.args.plan.now c.plans_are_accepted.ensures c.args.inputs.now c.requires.fits

pub returns-clause-reference : goal.returns-clause-reference
returns-clause-reference c = each_reference c.args.plan.now c.plans_are_accepted.ensures c.args.inputs.now c.requires.fits

pub returns-clause-word : goal.returns-clause-word
returns-clause-word c = each_word c.args.plan.now c.plans_are_accepted.ensures c.args.inputs.now c.requires.fits

pub returns-clause-enabled : goal.returns-clause-enabled
returns-clause-enabled c = each_goes_on c.args.plan.now c.plans_are_accepted.ensures c.args.inputs.now c.requires.fits

pub returns-clause-end : goal.returns-clause-end
returns-clause-end c = each_end c.args.plan.now c.plans_are_accepted.ensures c.args.inputs.now c.requires.fits

pub returns-clause-bound : goal.returns-clause-bound
returns-clause-bound c = all_bounded c.args.plan.now c.plans_are_accepted.ensures c.args.inputs.now c.requires.fits

use Rattle.sig_tree.proofs.{hold_step, step_hold, hold_after, hold_before}
use Rattle.sig_tree.proofs.steps.equations_step.Goals as goal

pub returns-clause-first : goal.returns-clause-first
returns-clause-first c = λ equation now t a. hold_step t now equation a

pub returns-clause-holds : goal.returns-clause-holds
returns-clause-holds c = λ equation next now t a. step_hold t now equation next a

pub returns-clause-behind : goal.returns-clause-behind
returns-clause-behind c = λ equation next now t a. hold_after c.functions_give_one_value.ensures.one t now equation next a

pub returns-clause-whole : goal.returns-clause-whole
returns-clause-whole c = λ equation next now t a. hold_before c.functions_give_one_value.ensures.one t now equation next a

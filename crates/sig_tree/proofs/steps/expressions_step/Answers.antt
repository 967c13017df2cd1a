use Rattle.sig_tree.proofs.{[], first_step, step_first, first_is, next_after, next_before}
use Rattle.sig_tree.proofs.steps.expressions_step.Goals as goal

pub returns-clause-first : goal.returns-clause-first
returns-clause-first c = λ e now t o a. first_step t now e o a

pub returns-clause-is : goal.returns-clause-is
returns-clause-is c = λ e now t o next a. step_first t now e o next a

pub returns-clause-one : goal.returns-clause-one
returns-clause-one c = λ e now o p next other a b.
    first_is c.functions_give_one_value.ensures.one [] now e p other b o (step_first [] now e o next a)

pub returns-clause-behind : goal.returns-clause-behind
returns-clause-behind c = λ e now t o next a. next_after c.functions_give_one_value.ensures.one t now e o next a

pub returns-clause-whole : goal.returns-clause-whole
returns-clause-whole c = λ e now t o next a. next_before c.functions_give_one_value.ensures.one t now e o next a

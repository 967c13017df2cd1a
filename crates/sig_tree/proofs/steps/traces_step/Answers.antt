use Rattle.sig_tree.proofs.{leads_through, through_leads, same_behind, leads_more}
use Rattle.sig_tree.proofs.steps.traces_step.Goals as goal

pub returns-clause-leads : goal.returns-clause-leads
returns-clause-leads c = λ equations t h. through_leads c.functions_give_one_value.ensures.one t equations h

pub returns-clause-hold : goal.returns-clause-hold
returns-clause-hold c = λ equations nexts t h. leads_through c.functions_give_one_value.ensures.one t equations nexts h

pub returns-clause-behind : goal.returns-clause-behind
returns-clause-behind c = λ equations nexts front rest h. same_behind c.functions_give_one_value.ensures.one front rest equations nexts h

pub returns-clause-more : goal.returns-clause-more
returns-clause-more c = λ equations behind nexts front now h s. leads_more front now equations behind nexts h s

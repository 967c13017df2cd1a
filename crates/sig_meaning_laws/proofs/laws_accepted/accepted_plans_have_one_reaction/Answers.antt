use Rattle.sig_meaning_laws.proofs.{operations_in, numbers_of, compiled, same_instant, one_reaction}
use Rattle.sig_meaning_laws.proofs.laws_accepted.accepted_plans_have_one_reaction.Goals as goal

pub returns : goal.returns
returns c = record {
  one = λ plan accepted. one_reaction plan.kernel plan.clocks.conditions (operations_in plan.store.nodes plan.ops) (numbers_of plan.order) (compiled plan accepted);
  at_most = λ plan accepted memory next a b is also.
      same_instant plan.kernel plan.clocks.conditions (operations_in plan.store.nodes plan.ops) (numbers_of plan.order) (compiled plan accepted) memory next a b is also;
}

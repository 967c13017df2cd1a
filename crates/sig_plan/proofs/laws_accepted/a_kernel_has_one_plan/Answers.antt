use Rattle.sig_plan.proofs.{codes_alike, same_actors, same_conditions, same_ids, same_links, same_operations}
use Rattle.sig_plan.proofs.laws_accepted.a_kernel_has_one_plan.Goals as goal

pub returns : goal.returns
returns c = record {
  conditions = same_conditions;
  operations = same_operations;
  order = same_ids;
  links = same_links;
  actors = same_actors;
  codes = codes_alike;
}

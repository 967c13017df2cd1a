use Rattle.sig_plan.proofs.{step_has_conditions, step_has_outputs, step_has_reads, step_has_sent}
use Rattle.sig_plan.proofs.laws_accepted.steps_have_what_they_need.Goals as goal

pub returns : goal.returns
returns c = record {
  conditions = step_has_conditions;
  reads = step_has_reads;
  sends = step_has_sent;
  commits = step_has_outputs;
}

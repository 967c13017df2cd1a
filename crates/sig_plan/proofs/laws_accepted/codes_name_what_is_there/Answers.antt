use Rattle.sig_plan.proofs.{order_names, slot_parent, step_instruction, step_names, step_slot}
use Rattle.sig_plan.proofs.laws_accepted.codes_name_what_is_there.Goals as goal

pub returns : goal.returns
returns c = record {
  instructions = step_instruction;
  steps = step_names;
  slots = step_slot;
  parents = slot_parent;
  order = order_names;
}

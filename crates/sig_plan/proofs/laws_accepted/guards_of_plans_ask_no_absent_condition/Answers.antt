use Rattle.sig_plan.proofs.{guard_agrees, guard_alone, guard_asks, guard_held}
use Rattle.sig_plan.proofs.laws_accepted.guards_of_plans_ask_no_absent_condition.Goals as goal

pub returns : goal.returns
returns c = record { held = guard_held; variables = guard_alone; asks = guard_asks; agree = guard_agrees }

-- When a run is ready to begin.
use Rattle.std.specs.Prelude.{◌≡◌, ◌≤◌}
use Rattle.sig_alone.specs.Prelude.{ℤ, List, PlanView, IsMachineOf, Lowers, actor_at, longest_lines, opening_actor, outputs_of}
use Rattle.sig_alone.specs.declared.ready.ReadyRun.{ReadyRun}

-- A run of a plan over flows is ready to begin: it has the instructions of the plan, its machine stands at the opening, and the
-- lines of all outputs have room.
pub record IsReady (plan : PlanView) (flows : List (List ℤ)) (ready : ReadyRun) : Type 0 where
  pub lowers : Lowers plan ready.lowered
  pub machine : IsMachineOf plan ready.lowered flows ready.machine
  pub opening : actor_at ready.machine 0 ≡ opening_actor plan.kernel
  pub lines : longest_lines (outputs_of plan.kernel) ≤ ready.lines.size

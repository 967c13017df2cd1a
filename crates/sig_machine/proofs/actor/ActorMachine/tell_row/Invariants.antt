use Rattle.sig_machine.proofs.{◌≡◌, ◌≤◌, ◌-◌, AreToldBetween, listed, ActorMachine}
use Rattle.sig_machine.proofs.actor.ActorMachine.tell_row.Given as goal

abbrev pub decreases-loop-place : goal.decreases-loop-place
decreases-loop-place l = l.to - l.place

abbrev pub invariant-loop-place : goal.invariant-loop-place
invariant-loop-place l = record {
  later : l.from ≤ l.place;
  within : l.place ≤ l.to;
  told : AreToldBetween (listed l.fn.self.instructions) l.fn.self.variables.items l.fn.self.machine.cells.items l.from l.place l.fn.self.truths.items l.self.truths.items;
  stays : (let same : ActorMachine = record l.fn.self { truths = l.self.truths } in l.self ≡ same);
}

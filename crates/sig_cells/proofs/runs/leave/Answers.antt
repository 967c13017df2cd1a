use Rattle.sig_cells.proofs.{◌∙◌, as_many}
use Rattle.sig_cells.proofs.runs.leave.Goals.{then-not-is_inside, else-not-is_inside}
use Rattle.sig_cells.proofs.runs.leave.Goals as goal

pub loop-behind-preserved : goal.loop-behind-preserved
loop-behind-preserved c = elim c.if-not-is_inside.branch [
  | then-not-is_inside w ↦
      rw w.runs-is (record {
        count = as_many c.loop-behind.runs.items w.leave_at.new.runs.items w.leave_at.ensures.guards ∙ c.loop-behind.invariant.count;
        guards = w.leave_at.ensures.guards ∙ c.loop-behind.invariant.guards;
        each = w.leave_at.ensures.each;
      })
  | else-not-is_inside w ↦ rw w.runs-is c.loop-behind.invariant
]

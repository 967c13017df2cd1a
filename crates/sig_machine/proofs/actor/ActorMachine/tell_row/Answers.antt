use Rattle.sig_machine.proofs.{◌∙◌, arith, ap, subst, listed, AreToldBetween, ActorMachine, told_further}
use Rattle.sig_machine.proofs.actor.ActorMachine.tell_row.Goals as goal

pub loop-place-preserved : goal.loop-place-preserved
loop-place-preserved c =
    let a = c.args.self.now in
    let mid = c.loop-place.self in
    let new = c.tell_next-place.new.self in
    let later = c.loop-place.invariant.later in
    let on = c.tell_next-place.ensures.later in
    let told : AreToldBetween (listed a.instructions) a.variables.items a.machine.cells.items c.loop-place.place c.tell_next-place.result mid.truths.items new.truths.items =
    subst (λ (b : ActorMachine). AreToldBetween (listed b.instructions) b.variables.items b.machine.cells.items c.loop-place.place c.tell_next-place.result mid.truths.items new.truths.items)
    c.loop-place.invariant.stays c.tell_next-place.ensures.told in
    record {
      later = omega (arith, later, on);
      within = c.tell_next-place.ensures.within;
      told = told_further (listed a.instructions) a.variables.items a.machine.cells.items c.args.from c.loop-place.place c.tell_next-place.result a.truths.items mid.truths.items new.truths.items later
          (omega (arith, on)) c.loop-place.invariant.told told;
      stays = c.tell_next-place.ensures.stays ∙ ap (λ (b : ActorMachine). let d : ActorMachine = record b { truths = new.truths } in d) c.loop-place.invariant.stays;
    }

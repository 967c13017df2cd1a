use Rattle.sig_flow.proofs.{◌≡◌, length, inr, arith, sym, subst, common_steps, err_from_is_err_and, EventAnswer, IsFirstBadEvent, wrong_from, wrong_here}
use Rattle.sig_flow.proofs.EventLemmas.{all_read}
use Rattle.sig_flow.proofs.event.events_by_line.Goals as goal

pub returns-in_err-event-clause-fault : goal.returns-in_err-event-clause-fault
returns-in_err-event-clause-fault c =
    let p = err_from_is_err_and c.from_residual.result c.from_residual.ensures.1 in
    let so_far : wrong_from c.len.result c.loop-rest.number c.loop-rest.rest.now ≡ wrong_from 0 1 c.args.bytes.now = grind (arith, common_steps) in
    let first = wrong_here c.args.bytes.now c.loop-rest.rest.now c.next_line.result.0.now c.next_line.result.1.now c.loop-rest.number c.next_line.ensures.lines c.len.result c.in_err-event.field-0.0 c.in_err-event.ensures.fault so_far in
    rw p.1 (inr (subst (λ (e : EventAnswer). IsFirstBadEvent c.args.bytes.now e) (sym p.2) first))

pub returns-clause-events : goal.returns-clause-events
returns-clause-events c =
    let none : length c.loop-rest.rest.now ≡ 0 = grind (arith, common_steps) in
    all_read c.args.bytes.now c.loop-rest.rest.now c.loop-rest.number c.loop-rest.events.items none c.loop-rest.invariant.judged c.loop-rest.invariant.events

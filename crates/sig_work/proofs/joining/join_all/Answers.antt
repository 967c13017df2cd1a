use Rattle.sig_work.proofs.{◌≡◌, ◌<◌, ℕ, get_or, length, List, subst, arith, None, Some, slice_get, LinkInfo, put_room, take_room, link_within, slice_get-get_or}
use Rattle.sig_work.proofs.Joints.{joined_more}
use Rattle.sig_work.proofs.joining.join_all.Goals as goal

abbrev none : LinkInfo
none = record { signal = None; writer = 0; reader = 0 }

-- the link of a number, as one of the plan
module _ (links : List LinkInfo) (items : List LinkInfo) (same : items ≡ links) (n : ℕ) (lt : n < length items) where
  info_at : slice_get links n ≡ Some (get_or items n none)
  info_at = subst (λ (ls : List LinkInfo). slice_get ls n ≡ Some (get_or items n none)) same (slice_get-get_or items n none lt)

pub give_put-requires-clause-there : goal.give_put-requires-clause-there
give_put-requires-clause-there c =
    let items = c.links_in-info-items.result.now in
    let at = info_at c.args.plan.now.links items c.links_in-info-items.ensures c.loop-number.number c.loop-number-test.true in
    let writer = (link_within c.args.plan.now c.plans_are_accepted.ensures c.loop-number.number (get_or items c.loop-number.number none) at).0 in
    let count = c.requires.count in
    let many = c.loop-number.invariant.count in
    omega (arith, writer, count, many)

pub give_put-requires-clause-room : goal.give_put-requires-clause-room
give_put-requires-clause-room c =
    let items = c.links_in-info-items.result.now in
    let at = info_at c.args.plan.now.links items c.links_in-info-items.ensures c.loop-number.number c.loop-number-test.true in
    put_room c.args.plan.now.links c.args.capacity c.loop-number.number c.args.members.now c.loop-number.members c.loop-number.invariant (get_or items c.loop-number.number none) at

pub give_take-requires-clause-there : goal.give_take-requires-clause-there
give_take-requires-clause-there c =
    let items = c.links_in-info-items.result.now in
    let at = info_at c.args.plan.now.links items c.links_in-info-items.ensures c.loop-number.number c.loop-number-test.true in
    let reader = (link_within c.args.plan.now c.plans_are_accepted.ensures c.loop-number.number (get_or items c.loop-number.number none) at).1 in
    let count = c.requires.count in
    let many = c.loop-number.invariant.count in
    let more = c.give_put.ensures.count in
    omega (arith, reader, count, many, more)

pub give_take-requires-clause-room : goal.give_take-requires-clause-room
give_take-requires-clause-room c =
    let items = c.links_in-info-items.result.now in
    let at = info_at c.args.plan.now.links items c.links_in-info-items.ensures c.loop-number.number c.loop-number-test.true in
    take_room c.args.plan.now.links c.args.capacity c.loop-number.number c.args.members.now c.loop-number.members c.loop-number.invariant (get_or items c.loop-number.number none) at
    c.give_put.new.members c.in_ok-put.put c.give_put.ensures

pub loop-number-preserved : goal.loop-number-preserved
loop-number-preserved c =
    let items = c.links_in-info-items.result.now in
    let info = get_or items c.loop-number.number none in
    let at = info_at c.args.plan.now.links items c.links_in-info-items.ensures c.loop-number.number c.loop-number-test.true in
    let within = link_within c.args.plan.now c.plans_are_accepted.ensures c.loop-number.number info at in
    let count = c.requires.count in
    let many = c.loop-number.invariant.count in
    let more = c.give_put.ensures.count in
    joined_more c.args.plan.now.links c.args.capacity c.loop-number.number c.args.members.now c.loop-number.members c.give_put.new.members c.give_take.new.members c.loop-number.invariant info at
    c.in_ok-put.put c.in_ok-put.take c.in_ok-put.ensures.ends.0 c.in_ok-put.ensures.ends.1 c.in_ok-put.ensures.empty.0 c.in_ok-put.ensures.empty.1
    c.give_put.ensures c.give_take.ensures (omega (arith, within, count, many)) (omega (arith, within, count, many, more))

use Rattle.sig_work.proofs.{◌≡◌, ◌-◌, ◌∙◌, ℕ, List, length, sym, subst, arith, actor_of, done_run, holds_finished, is_end, closed_left, parts_left, seats_left, all_room, all_single, there, AreSingle, Is, run_of, From, IsClosed, IsLeastWord, NamesCause, Share, slice_get_within}
use Rattle.sig_work.proofs.gathering.gather.Goals as goal

pub ended_by-ended-requires : goal.ended_by-ended-requires
ended_by-ended-requires g c =
    let given = run_of c.args.plan.now c.args.inputs.now c.requires.0 c.requires.1 in
    subst (λ (xs : List Share). AreSingle xs) (sym c.as_slice.ensures.value)
    (all_single given c.plans_are_accepted.ensures c.requires.2 c.args.halt c.args.shares.items (done_run given c.requires.2 c.args.halt c.args.shares.items c.requires.3))

pub settle_links-shares-requires-clause-linked : goal.settle_links-shares-requires-clause-linked
settle_links-shares-requires-clause-linked g c = c.requires.3.all.linked

pub settle_links-shares-requires-clause-single : goal.settle_links-shares-requires-clause-single
settle_links-shares-requires-clause-single g c =
    let given = run_of c.args.plan.now c.args.inputs.now c.requires.0 c.requires.1 in
    all_single given c.plans_are_accepted.ensures c.requires.2 c.args.halt c.args.shares.items (done_run given c.requires.2 c.args.halt c.args.shares.items c.requires.3)

pub settle_links-shares-requires-clause-room : goal.settle_links-shares-requires-clause-room
settle_links-shares-requires-clause-room g c =
    let given = run_of c.args.plan.now c.args.inputs.now c.requires.0 c.requires.1 in
    all_room given c.plans_are_accepted.ensures c.requires.2 c.args.halt c.args.shares.items (done_run given c.requires.2 c.args.halt c.args.shares.items c.requires.3)

pub close-requires-clause-some : goal.close-requires-clause-some
close-requires-clause-some g c =
    let given = run_of c.args.plan.now c.args.inputs.now c.requires.0 c.requires.1 in
    let some = c.plans_are_accepted.ensures.codes.actors in
    let found = there given c.plans_are_accepted.ensures c.requires.2 c.args.halt c.args.shares.items (done_run given c.requires.2 c.args.halt c.args.shares.items c.requires.3) 0 (omega (arith, some)) in
    let lt = slice_get_within c.args.shares.items found.2.at found.2.share found.2.there in
    let count = c.settle_links-shares.ensures.left.count in
    omega (arith, lt, count)

pub close-requires-clause-seats : goal.close-requires-clause-seats
close-requires-clause-seats g c =
    seats_left (From (length c.args.plan.now.links)) (From (length c.args.plan.now.links)) c.args.shares.items c.settle_links-shares.result.items c.settle_links-shares.ensures.left c.args.halt
    (λ at share inside. (c.requires.3.serving at share inside).seat.seat)

pub close-requires-clause-parts : goal.close-requires-clause-parts
close-requires-clause-parts g c =
    parts_left (From (length c.args.plan.now.links)) (From (length c.args.plan.now.links)) c.args.shares.items c.settle_links-shares.result.items c.settle_links-shares.ensures.left
    ∙ c.requires.3.all.parts

pub returns-clause-finished : goal.returns-clause-finished
returns-clause-finished g c = λ capacity limit committed done. (
    let cause = subst (λ (xs : List Share). (word : ℕ) × IsLeastWord xs word × NamesCause c.args.plan.now c.args.inputs.now xs word c.ended_by-ended.result.cause) c.as_slice.ensures.value c.ended_by-ended.ensures.cause in
    let closed : IsClosed c.args.shares.items c.close.result =
    closed_left (From (length c.args.plan.now.links)) (From (length c.args.plan.now.links)) c.args.shares.items c.settle_links-shares.result.items c.settle_links-shares.ensures.left c.close.result c.close.ensures in
    holds_finished (run_of c.args.plan.now c.args.inputs.now capacity limit) c.plans_are_accepted.ensures committed c.args.halt c.args.shares.items done
    c.settle_links-shares.ensures.settled cause.0 cause.1 c.close.result closed c.settled_actors_have_acted_in_order.ensures)

pub returns-clause-end : goal.returns-clause-end
returns-clause-end g c = λ capacity limit committed done. (
    let cause = subst (λ (xs : List Share). (word : ℕ) × IsLeastWord xs word × NamesCause c.args.plan.now c.args.inputs.now xs word c.ended_by-ended.result.cause) c.as_slice.ensures.value c.ended_by-ended.ensures.cause in
    let closed : IsClosed c.args.shares.items c.close.result =
    closed_left (From (length c.args.plan.now.links)) (From (length c.args.plan.now.links)) c.args.shares.items c.settle_links-shares.result.items c.settle_links-shares.ensures.left c.close.result c.close.ensures in
    is_end (run_of c.args.plan.now c.args.inputs.now capacity limit) c.plans_are_accepted.ensures committed c.args.halt c.args.shares.items done
    c.settle_links-shares.ensures.settled cause.0 cause.1 c.close.result closed c.settled_actors_have_acted_in_order.ensures c.ended_by-ended.result
    (subst (λ (xs : List Share). Is xs (length c.args.plan.now.codes - 1) (λ m. c.ended_by-ended.result.instants ≡ (actor_of m.state).instant - 1)) c.as_slice.ensures.value c.ended_by-ended.ensures.instants)
    cause.2)

use Rattle.sig_solve.proofs.{false, variables_of, over_spans, present_over, constant_spans, rest_made}
use Rattle.sig_solve.proofs.awaiting.rest_of.Goals as goal

pub returns-clause-value : goal.returns-clause-value
returns-clause-value c =
    rest_made c.args.store.now c.args.asked.now c.requires.asked c.ite.new.self c.ite.ensures.kept c.args.signal c.requires.signal c.presence.result c.constant-never.result c.presence.ensures c.constant-never.ensures.value c.ite.result
    c.ite.ensures.value

pub returns-clause-share : goal.returns-clause-share
returns-clause-share c =
    let vs = variables_of c.args.asked.now.system in
    let over = present_over c.args.store.now c.args.asked.now c.requires.asked c.args.signal c.requires.signal c.presence.result c.presence.ensures in
    let first = over_spans c.args.store.now.nodes c.args.asked.now.system c.presence.result over in
    let second = constant_spans c.args.store.now.nodes false c.constant-never.result c.constant-never.ensures.value vs in
    let third = over_spans c.args.store.now.nodes c.args.asked.now.system c.args.asked.now.solutions c.requires.asked.over in
    c.ite.ensures.spends.over vs (first, (second, (third, tt))) tt

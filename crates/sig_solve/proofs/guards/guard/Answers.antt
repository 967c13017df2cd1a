use Rattle.sig_solve.proofs.{◌+◌, ◌*◌, arith, subst, Keeps-trans, refused, Share, refusal, Share-then, variables_of, guard_ok, asked_stays, over_spans, more_calls, variables_count}
use Rattle.sig_solve.proofs.guards.guard.Goals as goal

pub returns-clause-value : goal.returns-clause-value
returns-clause-value c =
    guard_ok c.where_present.new.store c.args.asked.now (asked_stays c.args.store.now c.where_present.new.store c.in_ok-proposed.ensures.kept c.args.asked.now c.in_ok-proposed.ensures.store c.requires.asked)
    c.args.conditions.now c.requires.conditions c.args.forgotten.now c.requires.known c.args.places.now c.requires.places c.args.signal c.in_ok-proposed.proposed c.in_ok-proposed.ensures.value
    c.rename.new.self c.rename.result c.rename.ensures.value c.rename.ensures.depends

pub returns-clause-share : goal.returns-clause-share
returns-clause-share c =
    let n = c.args.asked.now.system.variables in
    let vs = variables_of c.args.asked.now.system in
    more_calls (n + 1 + (n + 1)) (2 + 2 * n) vs c.args.store.now c.rename.new.self (refusal c.rename.result) (omega arith)
    (Share-then c.args.store.now c.where_present.new.store c.rename.new.self (n + 1) (n + 1) vs (refusal c.rename.result) c.in_ok-proposed.ensures.share
    (subst (λ m. Share (m + 1) vs c.where_present.new.store c.rename.new.self (refusal c.rename.result)) (variables_count c.args.asked.now.system)
    (c.rename.ensures.spends vs (over_spans c.where_present.new.store.nodes c.args.asked.now.system c.in_ok-proposed.proposed c.in_ok-proposed.ensures.value.over))))

pub returns-clause-kept : goal.returns-clause-kept
returns-clause-kept c = Keeps-trans c.args.store.now c.where_present.new.store c.rename.new.self c.in_ok-proposed.ensures.kept c.rename.ensures.kept

pub returns-in_err-proposed-clause-share : goal.returns-in_err-proposed-clause-share
returns-in_err-proposed-clause-share c =
    let n = c.args.asked.now.system.variables in
    let vs = variables_of c.args.asked.now.system in
    refused (2 + 2 * n) vs c.args.store.now c.where_present.new.store c.from_residual.result c.in_err-proposed.field-0.0 c.from_residual.ensures.1
    (more_calls (n + 1) (2 + 2 * n) vs c.args.store.now c.where_present.new.store _ (omega arith) c.in_err-proposed.ensures.share)

pub returns-in_err-proposed-clause-kept : goal.returns-in_err-proposed-clause-kept
returns-in_err-proposed-clause-kept c = c.in_err-proposed.ensures.kept

pub returns-in_err-proposed-clause-store : goal.returns-in_err-proposed-clause-store
returns-in_err-proposed-clause-store c = c.in_err-proposed.ensures.store

pub returns-clause-store : goal.returns-clause-store
returns-clause-store c = c.rename.ensures.store

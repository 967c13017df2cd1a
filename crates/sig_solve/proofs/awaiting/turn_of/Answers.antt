use Rattle.sig_solve.proofs.{◌≡◌, ◌+◌, ◌*◌, ◌∙◌, ℕ, subst, sym, arith, None, Some, Share-then, variables_of, IsApart, asked_stays, apart_open, rest_kept, more_calls, refused}
use Rattle.sig_solve.proofs.awaiting.turn_of.Goals as goal

pub returns-in_err-rest-clause-share : goal.returns-in_err-rest-clause-share
returns-in_err-rest-clause-share c =
    let n = c.args.asked.now.system.variables in
    let vs = variables_of c.args.asked.now.system in
    refused (3 + 2 * n) vs c.args.store.now c.rest_of.new.store c.from_residual.result c.in_err-rest.field-0.0 c.from_residual.ensures.1
    (more_calls 1 (3 + 2 * n) vs c.args.store.now c.rest_of.new.store _ (omega arith) c.in_err-rest.ensures.share)

pub is_awaited-requires-clause-asked : goal.is_awaited-requires-clause-asked
is_awaited-requires-clause-asked c = asked_stays c.args.store.now c.rest_of.new.store c.in_ok-rest.ensures.kept c.args.asked.now c.in_ok-rest.ensures.store c.requires.asked

pub returns-in_err-is_awaited-clause-share : goal.returns-in_err-is_awaited-clause-share
returns-in_err-is_awaited-clause-share c =
    let n = c.args.asked.now.system.variables in
    let vs = variables_of c.args.asked.now.system in
    refused (3 + 2 * n) vs c.args.store.now c.is_awaited.new.store c.from_residual-in_err-is_awaited.result c.in_err-is_awaited.field-0.0 c.from_residual-in_err-is_awaited.ensures.1
    (more_calls (1 + (n + 1)) (3 + 2 * n) vs c.args.store.now c.is_awaited.new.store _ (omega arith)
    (Share-then c.args.store.now c.rest_of.new.store c.is_awaited.new.store 1 (n + 1) vs _ c.in_ok-rest.ensures.share c.in_err-is_awaited.ensures.share))

pub returns-then-branch-clause-awaits : goal.returns-then-branch-clause-awaits
returns-then-branch-clause-awaits c v is =
    let found = c.in_ok-is_awaited.ensures.value c.if-branch.true in
    let both : Some found.0 ≡ Some v = sym found.1 ∙ is in
    let same : found.0 ≡ v = cc in
    subst (λ (w : ℕ). IsApart c.is_awaited.new.store.nodes c.args.asked.now w c.args.signal) same found.3

pub returns-then-branch-clause-value : goal.returns-then-branch-clause-value
returns-then-branch-clause-value c =
    let old = c.args.store.now in
    let mid = c.rest_of.new.store in
    let new = c.is_awaited.new.store in
    let of = c.args.asked.now in
    let found = c.in_ok-is_awaited.ensures.value c.if-branch.true in
    let asked_mid = asked_stays old mid c.in_ok-rest.ensures.kept of c.in_ok-rest.ensures.store c.requires.asked in
    apart_open new of (asked_stays mid new c.in_ok-is_awaited.ensures.kept of c.in_ok-is_awaited.ensures.store asked_mid) c.requires.entered.0 c.args.known.now.conditions.items c.args.known.now.forgotten.items c.requires.known
    c.requires.entered.1 c.args.signal found.0 found.2 found.3

pub returns-then-branch-clause-share : goal.returns-then-branch-clause-share
returns-then-branch-clause-share c =
    let n = c.args.asked.now.system.variables in
    let vs = variables_of c.args.asked.now.system in
    more_calls (1 + (n + 1)) (3 + 2 * n) vs c.args.store.now c.is_awaited.new.store None (omega arith)
    (Share-then c.args.store.now c.rest_of.new.store c.is_awaited.new.store 1 (n + 1) vs None c.in_ok-rest.ensures.share c.in_ok-is_awaited.ensures.share)

pub is_open-requires-clause-asked : goal.is_open-requires-clause-asked
is_open-requires-clause-asked c =
    asked_stays c.rest_of.new.store c.is_awaited.new.store c.in_ok-is_awaited.ensures.kept c.args.asked.now c.in_ok-is_awaited.ensures.store
    (asked_stays c.args.store.now c.rest_of.new.store c.in_ok-rest.ensures.kept c.args.asked.now c.in_ok-rest.ensures.store c.requires.asked)

pub is_open-requires-clause-rest : goal.is_open-requires-clause-rest
is_open-requires-clause-rest c =
    rest_kept c.rest_of.new.store c.args.asked.now (asked_stays c.args.store.now c.rest_of.new.store c.in_ok-rest.ensures.kept c.args.asked.now c.in_ok-rest.ensures.store c.requires.asked)
    c.is_awaited.new.store c.in_ok-is_awaited.ensures.kept c.args.signal c.in_ok-rest.rest c.in_ok-rest.ensures.value

pub returns-in_err-open-clause-share : goal.returns-in_err-open-clause-share
returns-in_err-open-clause-share c =
    let n = c.args.asked.now.system.variables in
    let vs = variables_of c.args.asked.now.system in
    refused (3 + 2 * n) vs c.args.store.now c.is_open.new.store c.from_residual-in_err-open.result c.in_err-open.field-0.0 c.from_residual-in_err-open.ensures.1
    (more_calls (1 + (n + 1) + (n + 1)) (3 + 2 * n) vs c.args.store.now c.is_open.new.store _ (omega arith)
    (Share-then c.args.store.now c.is_awaited.new.store c.is_open.new.store (1 + (n + 1)) (n + 1) vs _
    (Share-then c.args.store.now c.rest_of.new.store c.is_awaited.new.store 1 (n + 1) vs None c.in_ok-rest.ensures.share c.in_ok-is_awaited.ensures.share) c.in_err-open.ensures.share))

pub returns-clause-share : goal.returns-clause-share
returns-clause-share c =
    let n = c.args.asked.now.system.variables in
    let vs = variables_of c.args.asked.now.system in
    more_calls (1 + (n + 1) + (n + 1)) (3 + 2 * n) vs c.args.store.now c.is_open.new.store None (omega arith)
    (Share-then c.args.store.now c.is_awaited.new.store c.is_open.new.store (1 + (n + 1)) (n + 1) vs None
    (Share-then c.args.store.now c.rest_of.new.store c.is_awaited.new.store 1 (n + 1) vs None c.in_ok-rest.ensures.share c.in_ok-is_awaited.ensures.share) c.in_ok-open.ensures.share)

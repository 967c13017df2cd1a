use Rattle.sig_solve.proofs.{◌+◌, ◌*◌, arith, None, Share-none, variables_of, apart_open, awaited_set, more_calls, refused}
use Rattle.sig_solve.proofs.awaiting.stays_open.Goals as goal

pub returns-then-is_waiting-clause-value : goal.returns-then-is_waiting-clause-value
returns-then-is_waiting-clause-value c =
    let waits = c.is_waiting.ensures c.if-is_waiting.true in
    apart_open c.args.store.now c.args.asked.now c.requires.asked c.requires.entered.0 c.args.known.now.conditions.items c.args.known.now.forgotten.items c.requires.known c.requires.entered.1 c.args.class
    waits.0 waits.2 (c.requires.awaited.each c.args.class waits.0 waits.1)

pub returns-then-is_waiting-clause-share : goal.returns-then-is_waiting-clause-share
returns-then-is_waiting-clause-share c =
    let vs = variables_of c.args.asked.now.system in
    more_calls 0 (3 + 2 * c.args.asked.now.system.variables) vs c.args.store.now c.args.store.now None (omega arith) (Share-none c.args.store.now vs)

pub returns-in_err-turn-clause-share : goal.returns-in_err-turn-clause-share
returns-in_err-turn-clause-share c =
    refused (3 + 2 * c.args.asked.now.system.variables) (variables_of c.args.asked.now.system) c.args.store.now c.turn_at.new.store c.from_residual.result c.in_err-turn.field-0.0 c.from_residual.ensures.1 c.in_err-turn.ensures.share

pub bounds-awaited-class : goal.bounds-awaited-class
bounds-awaited-class c = let lt = c.requires.class in let count = c.requires.awaited.count in omega (arith, lt, count)

pub returns-clause-awaited : goal.returns-clause-awaited
returns-clause-awaited c =
    awaited_set c.args.store.now c.args.asked.now c.requires.asked c.turn_at.new.store c.in_ok-turn.ensures.kept c.args.awaited.now c.args.class c.in_ok-turn.turn.awaits c.requires.awaited c.in_ok-turn.ensures.awaits

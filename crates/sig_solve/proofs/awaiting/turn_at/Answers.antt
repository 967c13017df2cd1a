use Rattle.sig_solve.proofs.{◌+◌, ◌*◌, arith, None, Share-none, variables_of, more_calls}
use Rattle.sig_solve.proofs.StoreLemmas.{asked}
use Rattle.sig_solve.proofs.awaiting.turn_at.Goals as goal

pub returns-then-is_empty-clause-share : goal.returns-then-is_empty-clause-share
returns-then-is_empty-clause-share c =
    let n = 3 + 2 * c.args.asked.now.system.variables in
    let vs = variables_of c.args.asked.now.system in
    let s = c.args.store.now in
    asked n vs s s (more_calls 0 n vs s s None (omega arith) (Share-none s vs)) c.first_turn.result c.first_turn.ensures.no_budget

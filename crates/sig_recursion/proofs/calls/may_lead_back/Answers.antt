use Rattle.sig_recursion.proofs.{◌<◌, reaches_none, rises_apart, ranked_below, rank_of, interface_models}
use Rattle.sig_recursion.proofs.calls.may_lead_back.Goals as goal

pub returns-in-Some : goal.returns-in-Some
returns-in-Some c e r =
    let ranks = c.args.calls.now.ranks.items in
    let a = (rw c.deref.ensures.value at c.rank_at.ensures) in
    let b = (rw c.deref-in-Some.ensures.value at c.rank_at-in-Some.ensures) in
    let low : rank_of ranks c.in-Some.start < rank_of ranks c.args.target = ranked_below c.rank_at.result c.rank_at-in-Some.result _ _ a b e in
    rises_apart (interface_models c.args.processes.now.interfaces.items) _ ranks _ _ _ _ c.requires.calls c.args.calls.now.falling (rw c.as_bytes.ensures at c.in-Some.ensures) c.requires.target low r

pub returns-in-None : goal.returns-in-None
returns-in-None c e r = reaches_none (interface_models c.args.processes.now.interfaces.items) _ _ _ (rw c.as_bytes.ensures at c.in-None.ensures) c.requires.target r

use Rattle.sig_solve.proofs.{◌+◌, subst, sym, Holds-kept, ForgetsAllBut, variables_of, asked_stays, open_rest, rest_kept, refused}
use Rattle.sig_solve.proofs.StoreLemmas.{asked}
use Rattle.sig_solve.proofs.awaiting.is_open.Goals as goal

pub returns-in_err-with-clause-share : goal.returns-in_err-with-clause-share
returns-in_err-with-clause-share c =
    refused (c.args.asked.now.system.variables + 1) (variables_of c.args.asked.now.system) c.args.store.now c.where_present.new.store c.from_residual.result c.in_err-with.field-0.0 c.from_residual.ensures.1 c.in_err-with.ensures.share

pub overlap-requires-clause-f : goal.overlap-requires-clause-f
overlap-requires-clause-f c = c.in_ok-with.ensures.value.over.held

pub overlap-requires-clause-g : goal.overlap-requires-clause-g
overlap-requires-clause-g c = Holds-kept c.args.store.now c.where_present.new.store c.in_ok-with.ensures.kept c.args.rest c.requires.rest.holds

pub returns-clause-value : goal.returns-clause-value
returns-clause-value c =
    let old = c.args.store.now in
    let new = c.where_present.new.store in
    let of = c.args.asked.now in
    open_rest new of (asked_stays old new c.in_ok-with.ensures.kept of c.in_ok-with.ensures.store c.requires.asked) c.requires.entered.0 c.args.known.now.conditions.items c.as_slice-forgotten.result.now
    (subst (ForgetsAllBut of.system c.args.known.now.conditions.items) (sym c.as_slice-forgotten.ensures.value) c.requires.known) c.requires.entered.1 c.args.signal c.in_ok-with.with c.args.rest
    c.in_ok-with.ensures.value (rest_kept old of c.requires.asked new c.in_ok-with.ensures.kept c.args.signal c.args.rest c.requires.rest) c.overlap.result c.overlap.ensures.value

pub returns-clause-share : goal.returns-clause-share
returns-clause-share c =
    asked (c.args.asked.now.system.variables + 1) (variables_of c.args.asked.now.system) c.args.store.now c.where_present.new.store c.in_ok-with.ensures.share c.overlap.result c.overlap.ensures.no_budget

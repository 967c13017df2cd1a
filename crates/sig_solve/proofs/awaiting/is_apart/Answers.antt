use Rattle.sig_solve.proofs.{◌≡◌, ◌≢◌, ◌+◌, ◌∙◌, ℕ, Bool, List, length, ap, arith, None, truth_of, OutOfMemory, Share-none, Holds-kept, variables_of, asked_stays, apart_ok, rest_kept, tried_keeps, more_calls, out_of_memory, refused}
use Rattle.sig_solve.proofs.StoreLemmas.{asked}
use Rattle.sig_solve.proofs.awaiting.is_apart.Goals as goal

pub forgetting-requires : goal.forgetting-requires
forgetting-requires c = let lt = c.requires.variable in let same = ap length c.as_slice.ensures.value in omega (arith, lt, same)

pub returns-in_err-tried-clause-share : goal.returns-in_err-tried-clause-share
returns-in_err-tried-clause-share c =
    let n = c.args.asked.now.system.variables + 1 in
    let vs = variables_of c.args.asked.now.system in
    let s = c.args.store.now in
    refused n vs s s c.from_residual.result OutOfMemory c.from_residual.ensures.1 (out_of_memory n vs s s (more_calls 0 n vs s s None (omega arith) (Share-none s vs)))

pub returns-in_err-with-clause-share : goal.returns-in_err-with-clause-share
returns-in_err-with-clause-share c =
    refused (c.args.asked.now.system.variables + 1) (variables_of c.args.asked.now.system) c.args.store.now c.where_present.new.store c.from_residual-in_err-with.result c.in_err-with.field-0.0 c.from_residual-in_err-with.ensures.1
    c.in_err-with.ensures.share

pub overlap-requires-clause-f : goal.overlap-requires-clause-f
overlap-requires-clause-f c = c.in_ok-with.ensures.value.over.held

pub overlap-requires-clause-g : goal.overlap-requires-clause-g
overlap-requires-clause-g c = Holds-kept c.args.store.now c.where_present.new.store c.in_ok-with.ensures.kept c.args.rest c.requires.rest.holds

pub returns-clause-value : goal.returns-clause-value
returns-clause-value c =
    let old = c.args.store.now in
    let new = c.where_present.new.store in
    let of = c.args.asked.now in
    let base = c.args.guide.now.base.items in
    let tried = c.as_slice-tried.result.now in
    let same : (u : ℕ) → u ≢ c.args.v → truth_of tried u ≡ truth_of base u =
    λ u apart. ap (λ (xs : List Bool). truth_of xs u) c.as_slice-tried.ensures.value ∙ c.in_ok-tried.ensures u apart ∙ ap (λ (xs : List Bool). truth_of xs u) c.as_slice.ensures.value in
    apart_ok new of (asked_stays old new c.in_ok-with.ensures.kept of c.in_ok-with.ensures.store c.requires.asked) tried c.args.signal c.args.v c.in_ok-with.with c.args.rest c.in_ok-with.ensures.value
    (rest_kept old of c.requires.asked new c.in_ok-with.ensures.kept c.args.signal c.args.rest c.requires.rest) (tried_keeps of base tried c.args.v c.requires.guide same) c.overlap.result c.overlap.ensures.value

pub returns-clause-share : goal.returns-clause-share
returns-clause-share c =
    asked (c.args.asked.now.system.variables + 1) (variables_of c.args.asked.now.system) c.args.store.now c.where_present.new.store c.in_ok-with.ensures.share c.overlap.result c.overlap.ensures.no_budget

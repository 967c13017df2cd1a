use Rattle.sig_cells.proofs.{slice_index_or, arith, get_at, left_later, no_run}
use Rattle.sig_cells.proofs.runs.skip_of.Goals as goal

pub is_within-requires-clause-guard : goal.is_within-requires-clause-guard
is_within-requires-clause-guard c =
    let skip = c.loop-skip.skip in
    let next = slice_index_or c.args.runs.now skip no_run in
    (c.requires.runs skip next (get_at c.args.runs.now skip no_run c.loop-skip-test.true)).held

pub loop-skip-smaller : goal.loop-skip-smaller
loop-skip-smaller c =
    let skip = c.loop-skip.skip in
    let next = slice_index_or c.args.runs.now skip no_run in
    let test = c.loop-skip-test.true in
    let is = c.requires.runs skip next (get_at c.args.runs.now skip no_run test) in
    let a = is.later in let b = is.leaves in omega (arith, a, b, test)

pub loop-skip-preserved : goal.loop-skip-preserved
loop-skip-preserved c =
    let skip = c.loop-skip.skip in
    let next = slice_index_or c.args.runs.now skip no_run in
    let is = c.requires.runs skip next (get_at c.args.runs.now skip no_run c.loop-skip-test.true) in
    left_later c.args.store.now.nodes c.args.runs.now c.args._place skip c.args.run next c.loop-skip.invariant is (c.is_within.ensures c.if-not-is_within.false)

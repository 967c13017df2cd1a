use Rattle.sig_cells.proofs.{no_run, arith, slice_index_or, get_at, IsRun, passed_more}
use Rattle.sig_cells.proofs.ways.first_open.Goals as goal

pub is_off-requires-clause-guard : goal.is_off-requires-clause-guard
is_off-requires-clause-guard c =
    let place = c.loop.place in
    let run = slice_index_or c.args.runs.now place no_run in
    let within = c.if-place-runs.false in
    (c.requires.runs place run (get_at c.args.runs.now place no_run (omega (arith, within)))).held

pub loop-preserved : goal.loop-preserved
loop-preserved c =
    let place = c.loop.place in
    let run = slice_index_or c.args.runs.now place no_run in
    let within = c.if-place-runs.false in
    let is : IsRun c.args.store.now.nodes c.args.runs.now place run = c.requires.runs place run (get_at c.args.runs.now place no_run (omega (arith, within))) in
    record {
      later = let a = is.later in let b = is.leaves in let d = c.loop.invariant.later in omega (arith, a, b, d);
      within = is.within;
      passed = passed_more c.args.store.now.nodes c.args.runs.now c.args.known c.args.from place run c.loop.invariant.passed is (c.is_off.ensures c.if-not-is_off.false);
    }

use Rattle.sig_cells.proofs.{◌≡◌, Some, length, refl, sym, subst, List, slice_get, slice_get_read, AreRuns, IsRun, Run, guards_set, runs_set}
use Rattle.sig_cells.proofs.runs.leave_at.Goals as goal

pub skip_of-skip-requires-clause-runs : goal.skip_of-skip-requires-clause-runs
skip_of-skip-requires-clause-runs c = subst (AreRuns c.args.store.now.nodes) (sym c.as_slice.ensures.value) c.requires.runs

pub skip_of-skip-requires-clause-run : goal.skip_of-skip-requires-clause-run
skip_of-skip-requires-clause-run c =
    let runs = c.args.runs.now.items in
    subst (λ (rs : List Run). IsRun c.args.store.now.nodes rs c.args.place c.index-run.result.now) (sym c.as_slice.ensures.value)
    (c.requires.runs c.args.place c.index-run.result.now
    (slice_get_read runs (length runs) c.args.place c.index-run.result.now refl c.requires.place c.index-run.ensures))

pub returns : goal.returns
returns c =
    let nodes = c.args.store.now.nodes in
    let place = c.args.place in
    let runs = c.args.runs.now.items in
    let old = c.index-run.result.now in
    let run : Run = record { guard = old.guard; end = old.end; skip = c.skip_of-skip.result } in
    let here : slice_get runs place ≡ Some old = slice_get_read runs (length runs) place old refl c.requires.place c.index-run.ensures in
    let is : IsRun nodes runs place run = subst (λ (rs : List Run). IsRun nodes rs place run) c.as_slice.ensures.value c.skip_of-skip.ensures in
    record {
      guards = guards_set runs place old run here refl;
      each = runs_set nodes runs place old run here refl c.requires.runs is;
    }

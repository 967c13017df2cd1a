use Rattle.sig_cells.proofs.{◌≡◌, ◌+◌, ◌∙◌, refl, sym, Some, length, slice_get, eqb-true, arith, slice_get_read, Ref, Run, guards_set, joined, runs_set}
use Rattle.sig_cells.proofs.runs.join_next.Goals as goal

pub returns-then-eq : goal.returns-then-eq
returns-then-eq c =
    let nodes = c.args._store.now.nodes in
    let runs = c.args.runs.now.items in
    let place = c.args.place in
    let run = c.index-2.result.now in
    let next = c.index.result.now in
    let here : slice_get runs place ≡ Some run = slice_get_read runs (length runs) place run refl (omega (arith, c.requires.place)) c.index-2.ensures in
    let there : slice_get runs (place + 1) ≡ Some next = slice_get_read runs (length runs) (place + 1) next refl c.requires.place c.index.ensures in
    let numbers : run.guard.number ≡ next.guard.number = eqb-true run.guard.number next.guard.number (sym c.eq.ensures ∙ c.if-eq.true) in
    let same : run.guard ≡ next.guard = λ j. let r : Ref = record { number = numbers j } in r in
    let longer : Run = record { guard = run.guard; end = next.end; skip = next.end } in
    record {
      guards = guards_set runs place run longer here refl;
      each = runs_set nodes runs place run longer here refl c.requires.runs
          (joined nodes runs place run next (c.requires.runs place run here) (c.requires.runs (place + 1) next there) same);
    }

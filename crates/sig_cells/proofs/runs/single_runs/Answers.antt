use Rattle.sig_cells.proofs.{◌≡◌, ◌<◌, ◌+◌, ◌++◌, ◌∷◌, [], ◌∙◌, Some, ap, sym, subst, length, length-append, ℕ, arith, get_at, slice_get, slice_index_or, AreRuns, IsRun, Ref, Run, guards_of, alone, guards_push, runs_push, taken_one}
use Rattle.sig_lists.proofs.Joined.{get_last}
use Rattle.sig_cells.proofs.runs.single_runs.Goals as goal

abbrev none : Ref
none = record { number = 0 }

pub loop-place-preserved : goal.loop-place-preserved
loop-place-preserved c =
    let nodes = c.args._store.now.nodes in
    let guards = c.args.guards.now in
    let runs = c.loop-place.runs.items in
    let place = c.loop-place.place in
    let guard : Ref = slice_index_or guards place none in
    let run : Run = record { guard = guard; end = place + 1; skip = place + 1 } in
    let below : place < length guards = c.loop-place-test.true in
    let count = c.loop-place.invariant.count in
    let there : slice_get guards place ≡ Some guard = get_at guards place none below in
    let more = length-append runs (run ∷ []) in
    let is : IsRun nodes (runs ++ run ∷ []) (length runs) run =
    alone nodes (runs ++ run ∷ []) (length runs) run (get_last runs run) (omega (arith, more)) (c.requires place guard there) (omega (arith, count)) (omega (arith, count)) in
    record {
      count = ap length c.in_ok-push.ensures.items ∙ length-append runs (run ∷ []) ∙ ap (λ (n : ℕ). n + 1) count;
      guards = ap guards_of c.in_ok-push.ensures.items ∙ guards_push runs run ∙ ap (λ gs. gs ++ guard ∷ []) c.loop-place.invariant.guards ∙ sym (taken_one guards place guard there);
      each = subst (AreRuns nodes) (sym c.in_ok-push.ensures.items) (runs_push nodes runs run c.loop-place.invariant.each is);
    }

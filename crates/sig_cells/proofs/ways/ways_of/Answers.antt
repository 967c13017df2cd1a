use Rattle.sig_cells.proofs.{no_run, ◌≡◌, ◌+◌, ◌∷◌, [], ◌∙◌, ℕ, ap, sym, subst, length, length-append, slice_get, slice_index_or, Some, get_at, ArePairs, AreWaysOf, pairs_push, scope_of}
use Rattle.sig_cells.proofs.ways.ways_of.Goals as goal

pub loop-place-preserved : goal.loop-place-preserved
loop-place-preserved c =
    let scope = scope_of c.args.store.now.nodes c.args.conditions.now c.args.signals in
    let runs = c.args.runs.now in
    let ways = c.loop-place.ways.items in
    let place = c.loop-place.place in
    let one = c.ways_from.result in
    let run = slice_index_or runs place no_run in
    let at = get_at runs place no_run c.loop-place-test.true in
    record {
      count = ap length c.in_ok-push.ensures.items ∙ length-append ways (one ∷ []) ∙ ap (λ (n : ℕ). n + 1) c.loop-place.invariant.count;
      each = subst (ArePairs (AreWaysOf scope runs) runs) (sym c.in_ok-push.ensures.items)
          (pairs_push (AreWaysOf scope runs) runs ways run one c.loop-place.invariant.each (subst (λ n. slice_get runs n ≡ Some run) (sym c.loop-place.invariant.count) at) (subst (λ n. AreWaysOf scope runs n run one) (sym c.loop-place.invariant.count) (c.ways_from.ensures run at)));
    }

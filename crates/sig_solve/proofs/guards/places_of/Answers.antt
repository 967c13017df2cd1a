use Rattle.sig_solve.proofs.{◌≡◌, ◌<◌, ℕ, List, get_or, length, sym, ap, ◌∙◌, arith, Some, slice_get, SigId, SystemView, next_placed, contains_at, slice_get-get_or}
use Rattle.sig_solve.proofs.guards.places_of.Goals as goal

pub place_of-requires-clause-there : goal.place_of-requires-clause-there
place_of-requires-clause-there c =
    let d : SigId = record { 0 = 0 } in
    let items = c.as_slice-condition-items.result.now in
    let n = c.loop-number.number in
    let same : items ≡ c.args.system.now.conditions = c.as_slice-condition-items.ensures.value ∙ ap (λ (s : SystemView). s.conditions) c.system.view_is in
    c.requires.all (get_or items n d) (contains_at c.args.system.now.conditions n (get_or items n d) (ap (λ (xs : List SigId). slice_get xs n) (sym same) ∙ slice_get-get_or items n d c.loop-number-test.true))

pub loop-number-preserved : goal.loop-number-preserved
loop-number-preserved c =
    let d : SigId = record { 0 = 0 } in
    let system = c.args.system.now in
    let items = c.as_slice-condition-items.result.now in
    let proposals = c.as_slice-proposals.result.now in
    let n = c.loop-number.number in
    let same : items ≡ system.conditions = c.as_slice-condition-items.ensures.value ∙ ap (λ (s : SystemView). s.conditions) c.system.view_is in
    let same_own : proposals ≡ system.proposals = c.as_slice-proposals.ensures.value ∙ ap (λ (s : SystemView). s.proposals) c.system.view_is in
    let at : slice_get system.conditions n ≡ Some (get_or items n d) = ap (λ (xs : List SigId). slice_get xs n) (sym same) ∙ slice_get-get_or items n d c.loop-number-test.true in
    let within : n < length proposals = omega (arith, c.loop-number-test.true, ap length same, ap length same_own, c.requires.proposed.counted) in
    let own : slice_get system.proposals n ≡ Some (get_or proposals n 0) = ap (λ (xs : List ℕ). slice_get xs n) (sym same_own) ∙ slice_get-get_or proposals n 0 within in
    next_placed system c.requires.proposed c.args.conditions.now n c.loop-number.places.items c.loop-number.invariant (get_or items n d) (get_or proposals n 0) at own c.place_of.result c.place_of.ensures

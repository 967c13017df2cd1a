use Rattle.sig_solve.proofs.{◌≡◌, ◌+◌, ◌<◌, ℕ, List, get_or, length, sym, ap, ◌∙◌, subst, arith, Some, slice_get, SigId, SystemView, AreForgotten, among_is, among_not, next_known, next_other, slice_get-get_or}
use Rattle.sig_solve.proofs.known.forgotten_but.Goals.{then-is_among, else-is_among}
use Rattle.sig_solve.proofs.known.forgotten_but.Goals as goal

pub loop-place-preserved : goal.loop-place-preserved
loop-place-preserved c =
    let d : SigId = record { 0 = 0 } in
    let system = c.args.system.now in
    let items = c.as_slice-condition-items.result.now in
    let proposals = c.as_slice-proposals.result.now in
    let n = c.loop-place.place in
    let same : items ≡ system.conditions = c.as_slice-condition-items.ensures.value ∙ ap (λ (s : SystemView). s.conditions) c.system.view_is in
    let same_own : proposals ≡ system.proposals = c.as_slice-proposals.ensures.value ∙ ap (λ (s : SystemView). s.proposals) c.system.view_is in
    let at : slice_get system.conditions n ≡ Some (get_or items n d) = ap (λ (xs : List SigId). slice_get xs n) (sym same) ∙ slice_get-get_or items n d c.loop-place-test.true in
    let within : n < length proposals = omega (arith, c.loop-place-test.true, ap length same, ap length same_own, c.requires.counted) in
    let own : slice_get system.proposals n ≡ Some (get_or proposals n 0) = ap (λ (xs : List ℕ). slice_get xs n) (sym same_own) ∙ slice_get-get_or proposals n 0 within in
    elim c.if-is_among.branch [
      | then-is_among w ↦
          subst (AreForgotten system c.args.known.now (n + 1)) (sym (ap (λ v. v.items) w.forgotten-is))
          (next_known system c.requires c.args.known.now n c.loop-place.forgotten.items c.loop-place.invariant (get_or items n d) (get_or proposals n 0) at own (among_is c.args.known.now (get_or items n d) (sym c.is_among.ensures ∙ w.if-is_among.true)))
      | else-is_among w ↦
          subst (AreForgotten system c.args.known.now (n + 1)) (sym (ap (λ v. v.items) w.forgotten-is))
          (next_other system c.requires c.args.known.now n c.loop-place.forgotten.items c.loop-place.invariant (get_or items n d) (get_or proposals n 0) at own (among_not c.args.known.now (get_or items n d) (sym c.is_among.ensures ∙ w.if-is_among.false)))
    ]

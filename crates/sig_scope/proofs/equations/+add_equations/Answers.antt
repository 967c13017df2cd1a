use Rattle.sig_scope.proofs.{equations_in, equations_of, together_is, bodies_in, map, ap, sym, ◌≡◌, ◌∙◌, ◌++◌, flat_map, grown}
use Rattle.sig_scope.proofs.equations.+add_equations.Goals as goal

pub returns-after-loop-one : goal.returns-after-loop-one
returns-after-loop-one t c =
    let whole : bodies_in c.loop-one.all.items ≡ bodies_in c.args.all.now.items ++ flat_map equations_in (map equations_of c.deref-one-items.result.now) = grown equations_in equations_of (bodies_in c.args.all.now.items) _ c.deref-one-items.result.now _ c.loop-one-test.false c.loop-one.invariant in
    whole ∙ ap (λ bs. bodies_in c.args.all.now.items ++ flat_map equations_in (map equations_of bs)) c.deref-one-items.ensures.value
    ∙ ap (λ l. bodies_in c.args.all.now.items ++ l) (sym (ap (λ b. equations_in (equations_of b)) c.in-All.is ∙ together_is c.in-All.bodies))

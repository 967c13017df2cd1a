use Rattle.sig_scope.proofs.{with_inner, model_of, Process, add_is, models_in, map, ap, Bor, ◌≡◌, ◌∙◌, ◌++◌, ◌∷◌, [], map-append, flat_map, grown}
use Rattle.sig_scope.proofs.processes.+add_process.Goals as goal

pub returns : goal.returns
returns t c =
    let whole : models_in c.loop-inner.all.items ≡ models_in c.push.new.self.items ++ flat_map with_inner (map model_of c.deref-inner-items.result.now) = grown with_inner model_of (models_in c.push.new.self.items) _ c.deref-inner-items.result.now _ c.loop-inner-test.false c.loop-inner.invariant in
    let pushed : models_in c.push.new.self.items ≡ models_in c.args.all.now.items ++ model_of c.args.process.now ∷ [] = ap models_in c.in_ok-push.ensures.items ∙ map-append (λ (p : Bor Process). model_of p.now) c.args.all.now.items (c.args.process ∷ []) in
    add_is c.args.process.now (models_in c.args.all.now.items) (models_in c.loop-inner.all.items) (models_in c.push.new.self.items) c.deref-inner-items.result.now c.deref-inner-items.ensures.value pushed whole

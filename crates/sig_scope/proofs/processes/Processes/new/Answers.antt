use Rattle.sig_scope.proofs.{with_inner, model_of, models_in, map, ap, ◌≡◌, ◌∙◌, [], flat_map, grown}
use Rattle.sig_scope.proofs.processes.Processes.new.Goals as goal

pub returns : goal.returns
returns c =
    let whole : models_in c.loop-process.all.items ≡ flat_map with_inner (map model_of c.deref-process-items.result.now) = grown with_inner model_of [] _ c.deref-process-items.result.now _ c.loop-process-test.false c.loop-process.invariant in
    c.in_ok-interfaces.ensures ∙ ap models_in c.deref.ensures.value ∙ whole ∙ ap (λ ps. flat_map with_inner (map model_of ps)) c.deref-process-items.ensures.value

use Rattle.sig_scope.proofs.{name_of, model_of, Name, Process, appends, name_is, map, ap, sym, Bor, ◌∙◌, take_all, map-map}
use Rattle.sig_scope.proofs.processes.names_of.Goals as goal

pub loop-process-preserved : goal.loop-process-preserved
loop-process-preserved c = appends (λ (p : Bor Process). (name_of (model_of p.now)).text) _ _ c.as_bytes.result.now c.args.processes.now c.loop-process.process-index c.process-item.result c.process-item.is c.loop-process-test.true c.loop-process.invariant c.in_ok-add.ensures.added
    (c.as_bytes.ensures ∙ sym (ap (λ (n : Name). n.text) (name_is c.process-item.result.now)))

pub returns : goal.returns
returns c = c.loop-process.invariant ∙ ap (map (λ (p : Bor Process). (name_of (model_of p.now)).text)) (take_all _ c.args.processes.now c.loop-process-test.false)
    ∙ sym (map-map (λ p. (name_of p).text) (λ (p : Bor Process). model_of p.now) c.args.processes.now)

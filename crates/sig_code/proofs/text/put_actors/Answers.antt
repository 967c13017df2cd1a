use Rattle.sig_code.proofs.{ℕ, List, ◌++◌, ◌∙◌, ap, CodeView, actor_text, lines_more}
use Rattle.sig_code.proofs.text.put_actors.Goals as goal

pub loop-actor-preserved : goal.loop-actor-preserved
loop-actor-preserved c =
    let lines : ℕ × CodeView → List ℕ = actor_text c.args.kernel.now c.args.ops.now in
    lines_more lines c.args.text.now.items c.loop-actor.text.items c.put_actor.new.text.items c.args.codes.now c.loop-actor.actor c.index-codes-actor.result c.loop-actor-test.true c.loop-actor.invariant
    (c.in_ok-put_actor.ensures ∙ ap (λ (code : CodeView). c.loop-actor.text.items ++ lines (c.loop-actor.actor, code)) c.index-codes-actor.is)

use Rattle.sig_file.proofs.{◌≡◌, ◌∙◌, ap, ImageView, all_few, all_named, written}
use Rattle.sig_file.proofs.write.write_image.Goals as goal

pub put_signals-requires : goal.put_signals-requires
put_signals-requires c = rw c.deref.ensures.value (all_named c.image.inside.inputs c.image.inside.signals.items c.image.invariant.signals)

pub put_ops-requires : goal.put_ops-requires
put_ops-requires c = rw c.deref-5.ensures.value (all_few _ c.image.inside.ops.items c.image.invariant.ops)

pub returns-clause-bytes : goal.returns-clause-bytes
returns-clause-bytes c =
    let signals : c.deref.result.now ≡ c.args.image.now.signals = c.deref.ensures.value ∙ ap (λ (v : ImageView). v.signals) c.image.view_is in
    let conditions : c.deref-2.result.now ≡ c.args.image.now.conditions = c.deref-2.ensures.value ∙ ap (λ (v : ImageView). v.conditions) c.image.view_is in
    let memories : c.deref-3.result.now ≡ c.args.image.now.memories = c.deref-3.ensures.value ∙ ap (λ (v : ImageView). v.memories) c.image.view_is in
    let nodes : c.deref-4.result.now ≡ c.args.image.now.nodes = c.deref-4.ensures.value ∙ ap (λ (v : ImageView). v.nodes) c.image.view_is in
    let ops : c.deref-5.result.now ≡ c.args.image.now.ops = c.deref-5.ensures.value ∙ ap (λ (v : ImageView). v.ops) c.image.view_is in
    written c.args.image.now _ _ _ _ _ _ _ _ _ _ _ _ signals conditions memories nodes ops
    c.in_ok-out.ensures.items c.in_ok-put_counts.ensures c.in_ok-put_signals.ensures c.in_ok-put_conditions.ensures c.in_ok-put_memories.ensures c.in_ok-put_nodes.ensures c.in_ok-put_ops.ensures

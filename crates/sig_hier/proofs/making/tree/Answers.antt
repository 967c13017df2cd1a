use Rattle.sig_hier.proofs.{◌≡◌, ◌∙◌, List, ap, arith, length, subst, Ref, few_classes, parents_are_tree, AreParents}
use Rattle.sig_hier.proofs.making.tree.Goals as goal

pub parents-requires-clause-fits : goal.parents-requires-clause-fits
parents-requires-clause-fits c =
    let few = few_classes c.requires.0 c.args.store.now.nodes c.args.clocks.now c.requires.1 c.requires.3 in
    let same : c.as_slice.result.now ≡ c.args.clocks.now.guard = c.as_slice.ensures.value ∙ ap (λ v. v.guard) c.clocks.view_is in
    omega (arith, few, ap length same)

pub returns : goal.returns
returns c =
    let P : List Ref → Type 0 = λ guards. AreParents c.args.store.now.nodes guards (length guards) c.in_ok-parent.parent.items in
    let same : c.as_slice.result.now ≡ c.args.clocks.now.guard = c.as_slice.ensures.value ∙ ap (λ v. v.guard) c.clocks.view_is in
    parents_are_tree c.args.store.now.nodes c.args.clocks.now c.in_ok-parent.parent.items c.requires (subst P same c.in_ok-parent.ensures)

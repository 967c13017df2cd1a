use Rattle.sig_verify.proofs.{◌≡◌, Option, None, Some, false, inl, inr, refl, sym, ◌∙◌, is_some, eqb-false, ref_same, Node, constant_by, itself_by, split_by}
use Rattle.sig_verify.proofs.diagrams.Diagrams.pair_step.Goals as goal

none_of : (o : Option Node) → is_some o ≡ false → None ≡ o
none_of None e = refl
none_of (Some n) e = absurd cc

pub returns-then-eq-3-clause-step : goal.returns-then-eq-3-clause-step
returns-then-eq-3-clause-step c =
    itself_by c.args.self.now.store.nodes c.constant.ensures.store.reduced c.args.pair c.requires c.args.truth c.constant.result c.constant-else-eq.result c.constant.ensures.value c.constant-else-eq.ensures.value
    (ref_same c.args.pair.first c.args.pair.second c.if-eq-3.ensures) (eqb-false _ _ (sym c.if-eq.ensures))

pub returns-in_default-clause-step : goal.returns-in_default-clause-step
returns-in_default-clause-step c =
    constant_by c.args.self.now.store.nodes c.constant.ensures.store.reduced c.args.pair c.requires c.args.truth c.constant.result c.constant-else-eq.result c.constant.ensures.value c.constant-else-eq.ensures.value
    (inl (sym c.in_default.is ∙ c.node-first.ensures.node)) (eqb-false _ _ (sym c.if-eq.ensures)) (eqb-false _ _ (sym c.if-eq-2.ensures))

pub returns-then-is_none-clause-step : goal.returns-then-is_none-clause-step
returns-then-is_none-clause-step c =
    constant_by c.args.self.now.store.nodes c.constant.ensures.store.reduced c.args.pair c.requires c.args.truth c.constant.result c.constant-else-eq.result c.constant.ensures.value c.constant-else-eq.ensures.value
    (inr (none_of c.node-second.result c.if-is_none.ensures ∙ c.node-second.ensures.node)) (eqb-false _ _ (sym c.if-eq.ensures)) (eqb-false _ _ (sym c.if-eq-2.ensures))

pub returns-clause-step : goal.returns-clause-step
returns-clause-step c =
    let v = c.earlier-variable.result in
    split_by c.args.self.now.store.nodes c.constant.ensures.store.reduced c.args.pair c.requires c.args.truth c.in-Some.n (sym c.in-Some.is ∙ c.node-first.ensures.node)
    c.node-second.result c.node-second.ensures.node v c.earlier-variable.ensures
    (record { first = c.side.result; second = c.side-2.result }) (record { first = c.side-3.result; second = c.side-4.result })
    c.side.ensures c.side-2.ensures
    c.side-3.ensures c.side-4.ensures

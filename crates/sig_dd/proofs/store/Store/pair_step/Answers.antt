use Rattle.sig_dd.proofs.{◌≡◌, inl, inr, true, false, Some, None, sym, ◌∙◌, refl, Option, true≢false, is_some, Node, eqb-true, eqb-false, StartsFrom, diagram, ref_same, HasVariable-node, starts_own, IsEarlier, earlier_is, side_is, known_apart, known_itself, known_constant, pair_split}
use Rattle.sig_dd.proofs.store.Store.pair_step.Goals.{then-eq-via-then-eq, then-eq-via-else-eq+then-eq-2}
use Rattle.sig_dd.proofs.store.Store.pair_step.Goals as goal

none_of : (o : Option Node) → is_some o ≡ false → None ≡ o
none_of None e = refl
none_of (Some n) e = absurd (true≢false e)

pub returns-then-eq-clause-step : goal.returns-then-eq-clause-step
returns-then-eq-clause-step c =
    known_apart c.args.self.now.nodes c.operand-first.ensures.store.reduced c.args.pair c.requires c.args.truth
    (elim c.then-eq.branch [
      | then-eq-via-then-eq w ↦ inl (eqb-true _ _ (sym w.if-eq.ensures))
      | then-eq-via-else-eq+then-eq-2 w ↦ inr (eqb-true _ _ (sym w.if-eq-2.ensures) ∙ w.constant.ensures)
    ])

pub returns-then-eq-3-clause-step : goal.returns-then-eq-3-clause-step
returns-then-eq-3-clause-step c =
    known_itself c.args.self.now.nodes c.operand-first.ensures.store.reduced c.args.pair c.requires c.args.truth
    (ref_same c.args.pair.first c.args.pair.second c.if-eq-3.ensures) (eqb-false _ _ (sym c.if-eq.ensures))

pub returns-in_default-clause-step : goal.returns-in_default-clause-step
returns-in_default-clause-step c =
    known_constant c.args.self.now.nodes c.operand-first.ensures.store.reduced c.args.pair c.requires c.args.truth
    (inl (sym c.in_default.is ∙ c.operand-first.ensures.operand.node)) (eqb-false _ _ (sym c.if-eq.ensures))
    (λ e. eqb-false _ _ (sym c.if-eq-2.ensures) (e ∙ sym c.constant.ensures))

pub returns-then-is_none-clause-step : goal.returns-then-is_none-clause-step
returns-then-is_none-clause-step c =
    known_constant c.args.self.now.nodes c.operand-first.ensures.store.reduced c.args.pair c.requires c.args.truth
    (inr (none_of c.operand-second.result.node c.if-is_none.ensures ∙ c.operand-second.ensures.operand.node)) (eqb-false _ _ (sym c.if-eq.ensures))
    (λ e. eqb-false _ _ (sym c.if-eq-2.ensures) (e ∙ sym c.constant.ensures))

pub returns-clause-step : goal.returns-clause-step
returns-clause-step c =
    let nodes = c.args.self.now.nodes in
    let reduced = c.operand-first.ensures.store.reduced in
    let f = c.args.pair.first in
    let g = c.args.pair.second in
    let v = c.earlier-variable.result in
    let first_op = c.operand-first.ensures.operand in
    let second_op = c.operand-second.ensures.operand in
    let has = HasVariable-node nodes reduced f c.requires.0 c.in-Some.n (sym c.in-Some.is ∙ first_op.node) in
    let early : IsEarlier nodes reduced g c.requires.1 c.in-Some.n.variable v = earlier_is nodes reduced g c.requires.1 c.operand-second.result second_op c.in-Some.n.variable v c.earlier-variable.ensures in
    let from_f : StartsFrom v (diagram nodes f) = starts_own nodes reduced f c.requires.0 c.in-Some.n.variable has v early.at_most in
    pair_split nodes reduced c.args.pair c.pair_side.result c.pair_side-2.result c.args.truth v
    (elim early.one_of [ inl e ↦ inl (rw e has) | inr h ↦ inr h ])
    (side_is nodes reduced f c.requires.0 c.operand-first.result first_op v false from_f c.pair_side.result.first c.pair_side.ensures.first)
    (side_is nodes reduced g c.requires.1 c.operand-second.result second_op v false early.starts c.pair_side.result.second c.pair_side.ensures.second)
    (side_is nodes reduced f c.requires.0 c.operand-first.result first_op v true from_f c.pair_side-2.result.first c.pair_side-2.ensures.first)
    (side_is nodes reduced g c.requires.1 c.operand-second.result second_op v true early.starts c.pair_side-2.result.second c.pair_side-2.ensures.second)

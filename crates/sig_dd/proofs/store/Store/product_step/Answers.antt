use Rattle.sig_dd.proofs.{inl, inr, true, false, refl, sym, ◌∙◌, eqb-true, eqb-false, StartsFrom, diagram, IsEarlier, earlier_is, side_is, known_false, known_true, number_true, product_split, HasVariable-node, starts_own}
use Rattle.sig_dd.proofs.store.Store.product_step.Goals.{then-eq-via-then-eq, then-eq-via-else-eq+then-eq-2}
use Rattle.sig_dd.proofs.store.Store.product_step.Goals as goal

pub returns-then-eq-clause-step : goal.returns-then-eq-clause-step
returns-then-eq-clause-step c =
    known_false c.args.self.now.nodes c.args.pair
    (elim c.then-eq.branch [
      | then-eq-via-then-eq w ↦ inl (eqb-true _ _ (sym w.if-eq.ensures))
      | then-eq-via-else-eq+then-eq-2 w ↦ inr (eqb-true _ _ (sym w.if-eq-2.ensures))
    ]) _ refl

pub returns-in-Some-clause-step : goal.returns-in-Some-clause-step
returns-in-Some-clause-step c =
    let nodes = c.args.self.now.nodes in
    let reduced = c.operand-first.ensures.store.reduced in
    let f = c.args.pair.first in
    let g = c.args.pair.second in
    let v = c.earlier.result in
    let s = c.split_pair.result in
    let first_op = c.operand-first.ensures.operand in
    let second_op = c.operand-second.ensures.operand in
    let has = HasVariable-node nodes reduced f c.requires.0 c.in-Some.n (sym c.in-Some.is ∙ first_op.node) in
    let early : IsEarlier nodes reduced g c.requires.1 c.in-Some.n.variable v = earlier_is nodes reduced g c.requires.1 c.operand-second.result second_op c.in-Some.n.variable v c.earlier.ensures in
    let from : StartsFrom v (diagram nodes f) = starts_own nodes reduced f c.requires.0 c.in-Some.n.variable has v early.at_most in
    product_split nodes reduced c.args.pair c.requires s v c.split_pair.ensures.variable
    (elim early.one_of [ inl e ↦ inl (rw e has) | inr h ↦ inr h ])
    (side_is nodes reduced f c.requires.0 c.operand-first.result first_op v false from s.low.first c.split_pair.ensures.low_first)
    (side_is nodes reduced g c.requires.1 c.operand-second.result second_op v false early.starts s.low.second c.split_pair.ensures.low_second)
    (side_is nodes reduced f c.requires.0 c.operand-first.result first_op v true from s.high.first c.split_pair.ensures.high_first)
    (side_is nodes reduced g c.requires.1 c.operand-second.result second_op v true early.starts s.high.second c.split_pair.ensures.high_second)

pub returns-in-Some-node-clause-step : goal.returns-in-Some-node-clause-step
returns-in-Some-node-clause-step c =
    let nodes = c.args.self.now.nodes in
    let reduced = c.operand-first.ensures.store.reduced in
    let f = c.args.pair.first in
    let g = c.args.pair.second in
    let v = c.earlier-in-Some-node.result in
    let s = c.split_pair-in-Some-node.result in
    let first_op = c.operand-first.ensures.operand in
    let second_op = c.operand-second.ensures.operand in
    let has = HasVariable-node nodes reduced g c.requires.1 c.in-Some-node.n (sym c.in-Some-node.is ∙ second_op.node) in
    let early : IsEarlier nodes reduced f c.requires.0 c.in-Some-node.n.variable v = earlier_is nodes reduced f c.requires.0 c.operand-first.result first_op c.in-Some-node.n.variable v c.earlier-in-Some-node.ensures in
    let from : StartsFrom v (diagram nodes g) = starts_own nodes reduced g c.requires.1 c.in-Some-node.n.variable has v early.at_most in
    product_split nodes reduced c.args.pair c.requires s v c.split_pair-in-Some-node.ensures.variable
    (elim early.one_of [ inl e ↦ inr (rw e has) | inr h ↦ inl h ])
    (side_is nodes reduced f c.requires.0 c.operand-first.result first_op v false early.starts s.low.first c.split_pair-in-Some-node.ensures.low_first)
    (side_is nodes reduced g c.requires.1 c.operand-second.result second_op v false from s.low.second c.split_pair-in-Some-node.ensures.low_second)
    (side_is nodes reduced f c.requires.0 c.operand-first.result first_op v true early.starts s.high.first c.split_pair-in-Some-node.ensures.high_first)
    (side_is nodes reduced g c.requires.1 c.operand-second.result second_op v true from s.high.second c.split_pair-in-Some-node.ensures.high_second)

pub returns-clause-step : goal.returns-clause-step
returns-clause-step c =
    let nodes = c.args.self.now.nodes in
    let reduced = c.operand-first.ensures.store.reduced in
    known_true nodes c.args.pair
    (number_true nodes reduced c.args.pair c.requires c.args.pair.first c.requires.0 (sym c.in_default.is ∙ c.operand-first.ensures.operand.node) (eqb-false _ _ (sym c.if-eq.ensures)))
    (number_true nodes reduced c.args.pair c.requires c.args.pair.second c.requires.1 (sym c.in_default-node.is ∙ c.operand-second.ensures.operand.node) (eqb-false _ _ (sym c.if-eq-2.ensures)))
    _ refl

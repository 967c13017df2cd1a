use Rattle.sig_dd.proofs.{◌∙◌, refl, arith, truth_of, IsSide, IsSide-child, HasVariable-node, tests_own, Depends-Tests, Tests-Depends, constant_value, visited_child, visited_constant}
use Rattle.sig_dd.proofs.store.Store.eval.Given.{Over}
use Rattle.sig_dd.proofs.store.Store.eval.Goals.{After-child-r}
use Rattle.sig_dd.proofs.store.Store.eval.Goals as goal

-- the walk goes to the side that the truths tell
side : (g : Over) (c : After-child-r g) → IsSide c.args.self.now.nodes c.loop-n.r c.in-Some.n.variable (truth_of c.args.truths.now c.in-Some.n.variable) c.child-r.result
side g c =
    IsSide-child c.args.self.now.nodes c.in-Some.ensures.store.reduced c.loop-n.r c.loop-n.invariant.held c.in-Some.n c.in-Some.ensures.node
    (truth_of c.args.truths.now c.in-Some.n.variable) c.child-r.result c.child-r.ensures

pub bounds-truths-n : goal.bounds-truths-n
bounds-truths-n g c =
    let nodes = c.args.self.now.nodes in
    let reduced = c.in-Some.ensures.store.reduced in
    let held = c.loop-n.invariant.held in
    c.loop-n.invariant.told c.in-Some.n.variable
    (Depends-Tests nodes reduced c.loop-n.r held c.in-Some.n.variable
    (tests_own nodes reduced c.loop-n.r held c.in-Some.n.variable (HasVariable-node nodes reduced c.loop-n.r held c.in-Some.n c.in-Some.ensures.node)))

pub loop-n-smaller : goal.loop-n-smaller
loop-n-smaller g c =
    (side g c).smaller (HasVariable-node c.args.self.now.nodes c.in-Some.ensures.store.reduced c.loop-n.r c.loop-n.invariant.held c.in-Some.n c.in-Some.ensures.node)

pub loop-n-preserved : goal.loop-n-preserved
loop-n-preserved g c = record {
  held = (side g c).holds;
  value = (side g c).function c.args.truths.now refl ∙ c.loop-n.invariant.value;
  told = λ v depends.
      c.loop-n.invariant.told v
      (Depends-Tests c.args.self.now.nodes c.in-Some.ensures.store.reduced c.loop-n.r c.loop-n.invariant.held v
      ((side g c).tests v (Tests-Depends c.args.self.now.nodes c.in-Some.ensures.store.reduced c.child-r.result (side g c).holds v depends)));
  counted =
      let now = c.tick.ensures in
      let was = c.loop-n.invariant.counted in
      let one = visited_child c.args.self.now.nodes c.in-Some.ensures.store.reduced c.loop-n.r c.loop-n.invariant.held c.in-Some.n c.in-Some.ensures.node
      (truth_of c.args.truths.now c.in-Some.n.variable) c.child-r.result c.child-r.ensures c.args.truths.now refl in
      omega (arith, now, was, one);
}

pub returns-clause-counted : goal.returns-clause-counted
returns-clause-counted g c =
    let was = c.loop-n.invariant.counted in
    let none = visited_constant c.args.self.now.nodes c.in_default.ensures.store.reduced c.loop-n.r c.loop-n.invariant.held c.in_default.ensures.node c.args.truths.now in
    omega (arith, was, none)

pub returns-clause-value : goal.returns-clause-value
returns-clause-value g c =
    c.eq.ensures
    ∙ constant_value c.args.self.now.nodes c.in_default.ensures.store.reduced c.loop-n.r c.loop-n.invariant.held c.in_default.ensures.node c.args.truths.now
    ∙ c.loop-n.invariant.value

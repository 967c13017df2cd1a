use Rattle.sig_cells.proofs.{◌∙◌, length, sym, SigId, IsSide, HasVariable-node, IsSide-child, Depends-Tests, Tests-Depends, truths_of, registers_seen, condition_at, constant_is, truth_at, variable_within}
use Rattle.sig_cells.proofs.guard.View.holds.Goals.{After-child-r}
use Rattle.sig_cells.proofs.guard.View.holds.Goals as goal

abbrev none : SigId
none = record { 0 = 0 }

pub bounds-conditions-node : goal.bounds-conditions-node
bounds-conditions-node c =
    variable_within c.args.store.now.nodes c.in-Some.ensures.store.reduced c.loop-node.r c.loop-node.invariant.held c.in-Some.node c.in-Some.ensures.node
    (length c.args.conditions.now) c.loop-node.invariant.told

pub is_true-truth-requires-clause-within : goal.is_true-truth-requires-clause-within
is_true-truth-requires-clause-within c =
    let within = variable_within c.args.store.now.nodes c.in-Some.ensures.store.reduced c.loop-node.r c.loop-node.invariant.held c.in-Some.node c.in-Some.ensures.node
    (length c.args.conditions.now) c.loop-node.invariant.told in
    c.requires.below c.in-Some.node.variable _ (condition_at c.args.conditions.now c.in-Some.node.variable none within)

-- the walk goes to the side that the conditions tell
side : (c : After-child-r) → IsSide c.args.store.now.nodes c.loop-node.r c.in-Some.node.variable c.is_true-truth.result c.child-r.result
side c =
    IsSide-child c.args.store.now.nodes c.in-Some.ensures.store.reduced c.loop-node.r c.loop-node.invariant.held c.in-Some.node c.in-Some.ensures.node
    c.is_true-truth.result c.child-r.result c.child-r.ensures

pub loop-node-smaller : goal.loop-node-smaller
loop-node-smaller c =
    (side c).smaller (HasVariable-node c.args.store.now.nodes c.in-Some.ensures.store.reduced c.loop-node.r c.loop-node.invariant.held c.in-Some.node c.in-Some.ensures.node)

pub loop-node-preserved : goal.loop-node-preserved
loop-node-preserved c =
    let within = variable_within c.args.store.now.nodes c.in-Some.ensures.store.reduced c.loop-node.r c.loop-node.invariant.held c.in-Some.node c.in-Some.ensures.node
    (length c.args.conditions.now) c.loop-node.invariant.told in
    record {
      held = (side c).holds;
      value = (side c).function (truths_of c.args.conditions.now (registers_seen c.args.self))
          (truth_at c.args.conditions.now (registers_seen c.args.self) c.in-Some.node.variable none within ∙ sym c.is_true-truth.ensures)
          ∙ c.loop-node.invariant.value;
      told = λ v depends.
          c.loop-node.invariant.told v
          (Depends-Tests c.args.store.now.nodes c.in-Some.ensures.store.reduced c.loop-node.r c.loop-node.invariant.held v
          ((side c).tests v (Tests-Depends c.args.store.now.nodes c.in-Some.ensures.store.reduced c.child-r.result (side c).holds v depends)));
    }

pub returns : goal.returns
returns c =
    c.eq.ensures
    ∙ constant_is c.args.store.now.nodes c.in_default.ensures.store.reduced c.loop-node.r c.loop-node.invariant.held c.in_default.ensures.node
    c.constant.result c.constant.ensures.value (truths_of c.args.conditions.now (registers_seen c.args.self))
    ∙ c.loop-node.invariant.value

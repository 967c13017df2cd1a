use Rattle.sig_back.proofs.{refl, subst, [], ◌∷◌, operations, refuses, Cycle as IsCycle, operations_in}
use Rattle.sig_graph.specs.Answers.{IsRefusal}
use Rattle.sig_plan.specs.Acceptance.{Cycle}
use Rattle.sig_back.proofs.passes.order_of.Goals as goal

pub returns-in-Err-Cycle-clause-refused : goal.returns-in-Err-Cycle-clause-refused
returns-in-Err-Cycle-clause-refused c =
    let ops = operations_in c.args.store.now.nodes c.args.ops.now in
    refuses c.args.kernel.now (Cycle c.in-Err-Cycle.x) IsCycle (c.in-Err-Cycle.x ∷ []) _ (record {
      conditions = c.args.clocks.now.conditions;
      operations = ops;
      has = operations c.args.kernel.now c.args.store.now.nodes c.args.clocks.now c.args.ops.now c.requires.has_clocks c.requires.clocks c.requires.operations;
      cycle = subst (IsRefusal c.args.clocks.now.conditions ops) c.in-Err-Cycle.field-0-is c.in-Err-Cycle.ensures.cycle;
    }) refl c.told.ensures

use Rattle.sig_back.proofs.{subst, operations, operations_in, HasNoCycle, AreParts}
use Rattle.sig_back.proofs.passes.plan_of.Goals as goal

pub returns-clause-accepted : goal.returns-clause-accepted
returns-clause-accepted c =
    let conditions = c.in_ok-clocks.clocks.conditions in
    let nodes = c.operations_of.new.store.nodes in
    record {
      conditions = conditions;
      operations = operations_in nodes c.in_ok-ops.ops.items;
      has = operations c.args.kernel nodes c.in_ok-clocks.clocks c.in_ok-ops.ops.items c.in_ok-clocks.ensures.has_clocks c.in_ok-ops.ensures.clocks c.in_ok-ops.ensures.operations;
      acyclic = subst (λ items. HasNoCycle conditions (operations_in nodes items)) c.as_slice.ensures.value c.in_ok-order.ensures.no_cycle;
      parts = c.in_ok-parts.parts;
      split = subst (λ items. AreParts c.args.kernel conditions (operations_in nodes items) c.in_ok-parts.parts) c.as_slice-2.ensures.value c.in_ok-parts.ensures.parts;
      few = c.in_ok-parts.ensures.few;
    }

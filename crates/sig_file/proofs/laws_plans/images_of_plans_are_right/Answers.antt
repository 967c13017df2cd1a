use Rattle.sig_file.specs.PlanImages.{image_of}
use Rattle.sig_file.proofs.{arith, length, length-image, signals_right, conditions_few, conditions_right, nodes_right, operations_right, node_has_bytes, memories_few, ops_few, memories_right, form_fits, form_within, Equation, at_each}
use Rattle.sig_file.proofs.laws_plans.images_of_plans_are_right.Goals as goal

pub returns : goal.returns
returns c = λ plan accepted names places few.
    let parts = accepted.valid.parts in
    let long = length-image plan.kernel.signals in
    let order = accepted.clocks.conditions in
    let within = at_each (λ (d : Equation). form_within (length plan.kernel.signals) d.form) plan.kernel.equations accepted.valid.equations.within in
    let fits = at_each (λ (d : Equation). form_fits plan.kernel.signals d.form) plan.kernel.equations accepted.valid.equations.fit in
    record {
      signals_few = omega (arith, long, parts.signals);
      interface = omega (arith, long, parts.interface, parts.declared);
      conditions_few = omega (arith, conditions_few plan.kernel plan.clocks.conditions order, parts.signals);
      memories_few = omega (arith, memories_few plan.kernel accepted.valid within, parts.signals);
      nodes_few = omega (arith, few, node_has_bytes (image_of plan));
      ops_few = omega (arith, ops_few plan accepted within, parts.signals);
      signals = signals_right plan.kernel.inputs plan.kernel.signals accepted.valid.names names;
      conditions = conditions_right plan.kernel plan.clocks.conditions order;
      memories = memories_right plan.kernel.signals plan.kernel.equations fits;
      nodes = nodes_right plan accepted;
      ops = operations_right plan accepted places;
    }

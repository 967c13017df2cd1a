use Rattle.sig_code.proofs.{ℕ, [], ◌++◌, ap, sym, length-map, empty_code, adds_then, CodeView, at_end, over_order, operation_in, operations_in, numbers_of}
use Rattle.sig_code.proofs.steps.Source.code_of.Goals as goal

pub returns : goal.returns
returns c =
    let nodes = c.args.self.now.store.now.nodes in
    let none : CodeView = record { steps = c.new.result.items; slots = c.new-2.result.items } in
    let source = c.args.self.now in
    let operations = operations_in nodes source.ops.now in
    (adds_then nodes _ _ _ none c.add_places.new.code c.add_end.new.code
    (ap (λ (n : ℕ). over_order operations (numbers_of source.order.now) source.links.now c.args.actor ++ at_end source.links.now source.clusters n c.args.actor)
    (sym (length-map source.ops.now (operation_in nodes))))
    c.in_ok-add_places.ensures c.in_ok-add_end.ensures).goes_on [] (empty_code nodes none c.new.ensures.items c.new-2.ensures.items)

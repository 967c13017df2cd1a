use Rattle.sig_code.proofs.{◌≡◌, ◌∙◌, ◌+◌, ◌<◌, All, List, ap, length, subst, sym, OpId, Op, AreCodesOf, parts_of, are_codes, no_cycle, order_within, instructions_of, operations_in, PartsView, numbers_of}
use Rattle.sig_code.proofs.coding.code.Goals as goal

pub codes_of-requires-clause-within : goal.codes_of-requires-clause-within
codes_of-requires-clause-within c =
    let within = order_within c.args.store.nodes c.args.clocks.conditions c.args.ops.items c.args.order.items c.requires.order in
    subst (λ (order : List OpId). All (λ op. op.0 < length c.as_slice.result.now) order) (sym c.as_slice-2.ensures.value)
    (subst (λ (ops : List Op). All (λ op. op.0 < length ops) c.args.order.items) (sym c.as_slice.ensures.value) within)

pub invariant_of-result : goal.invariant_of-result
invariant_of-result c =
    let operations = operations_in c.args.store.nodes c.args.ops.items in
    record {
      valid = c.requires.valid;
      store = c.in_ok-codes.ensures.store;
      has_clocks = c.requires.has_clocks;
      clocks = c.requires.clocks;
      operations = c.requires.operations;
      no_cycle = no_cycle c.args.clocks.conditions operations (numbers_of c.args.order.items) c.requires.order;
      order = c.requires.order;
      parts = c.args.parts;
      split = c.requires.parts;
      links = ap (λ (parts : PartsView). parts.links) (sym c.parts.view_is);
      codes =
          let nodes = c.args.store.nodes in
          let P : List Op → List OpId → PartsView → Type 0 =
          λ ops order parts. AreCodesOf nodes (instructions_of (operations_in nodes ops) (numbers_of order) (parts_of parts.clusters parts.links)) (parts.clusters + 1) c.in_ok-codes.codes.items in
          let seen : PartsView = record { clusters = c.parts.inside.clusters; links = c.as_slice-3.result.now; imports = c.parts.inside.imports.items } in
          let same : seen ≡ c.args.parts =
          (λ j. record { clusters = c.parts.inside.clusters; links = c.as_slice-3.ensures.value j; imports = c.parts.inside.imports.items }) ∙ c.parts.view_is in
          let codes : P c.as_slice.result.now c.as_slice-2.result.now seen = c.in_ok-codes.ensures.codes in
          are_codes nodes operations (numbers_of c.args.order.items) c.args.parts c.in_ok-codes.codes.items
          (subst (λ (parts : PartsView). P c.args.ops.items c.args.order.items parts) same
          (subst (λ (order : List OpId). P c.args.ops.items order seen) c.as_slice-2.ensures.value
          (subst (λ (ops : List Op). P ops c.as_slice-2.result.now seen) c.as_slice.ensures.value codes)));
    }

use Rattle.sig_rel.proofs.{◌+◌, ◌*◌, length, arith, subst, sym, range_with_len, on_ok_weaker, allowance, IsOrderOfWriting, Makes, triangular_share_of, IsPartlyWritten, SpanColumns, no_ref, steps, adds_err, adds_makes, adds_more, adds_then, within_triangular_share, are_filled, condition_within, proposed_count, proposed_hold, proposed_plain, proposed_span, conditions_within, few_steps, triangle_orders}
use Rattle.sig_rel.proofs.substitution.Columns.fill.Goals as goal

pub propose-requires-clause-few : goal.propose-requires-clause-few
propose-requires-clause-few c =
    let few = conditions_within c.args.kernel.now in
    let limit = c.requires.valid.parts.signals in
    let count = c.requires.conditions.count in
    omega (arith, few, limit, count)

pub propose-requires-clause-within : goal.propose-requires-clause-within
propose-requires-clause-within c i condition at =
    let lt = condition_within c.args.kernel.now c.args.conditions.now c.requires.conditions i condition at in
    let long = c.requires.fresh.rows in
    omega (arith, lt, long)

pub returns-in_err-propose-clause-adds : goal.returns-in_err-propose-clause-adds
returns-in_err-propose-clause-adds c =
    let k = length c.args.conditions.now in
    let s = steps c.args.triangle.now.rules c.args.triangle.now.list.items in
    let enough = within_triangular_share c.args.kernel.now k s c.requires.conditions.count
    (few_steps c.args.kernel.now c.args.triangle.now.rules c.args.triangle.now.list.items
    (triangle_orders c.args.kernel.now c.requires.valid c.args.triangle.now.rules c.requires.triangle.are_rules c.args.triangle.now.list.items c.requires.triangle.is_triangle)) in
    adds_err k (triangular_share_of c.args.kernel.now) c.args.store.now c.propose.new.store c.in_err-propose.field-0.0 c.from_residual.result c.in_err-propose.ensures.adds (omega (arith, enough)) c.from_residual.ensures.1

pub write_all-requires-clause-order : goal.write_all-requires-clause-order
write_all-requires-clause-order c =
    subst (IsOrderOfWriting c.args.kernel.now c.args.triangle.now.rules) (sym c.as_slice.ensures.value)
    (triangle_orders c.args.kernel.now c.requires.valid c.args.triangle.now.rules c.requires.triangle.are_rules c.args.triangle.now.list.items c.requires.triangle.is_triangle)

pub write_all-requires-clause-hold : goal.write_all-requires-clause-hold
write_all-requires-clause-hold c =
    proposed_hold c.args.kernel.now c.args.conditions.now c.requires.conditions c.args.store.now c.propose.new.store c.in_ok-propose.ensures.adds.kept c.args.self.now c.propose.new.self c.requires.fresh c.in_ok-propose.ensures.proposed

pub write_all-requires-clause-count : goal.write_all-requires-clause-count
write_all-requires-clause-count c =
    proposed_count c.args.kernel.now c.args.conditions.now c.requires.conditions c.args.store.now c.propose.new.store c.in_ok-propose.ensures.adds.kept c.args.self.now c.propose.new.self c.requires.fresh c.in_ok-propose.ensures.proposed

pub write_all-requires-clause-plain : goal.write_all-requires-clause-plain
write_all-requires-clause-plain c =
    proposed_plain c.args.kernel.now c.args.conditions.now c.requires.conditions c.args.store.now c.propose.new.store c.in_ok-propose.ensures.adds.kept c.args.self.now c.propose.new.self c.requires.fresh c.in_ok-propose.ensures.proposed

pub returns-clause-adds : goal.returns-clause-adds
returns-clause-adds c =
    let kernel = c.args.kernel.now in
    let k = length c.args.conditions.now in
    let s = steps c.args.triangle.now.rules c.args.triangle.now.list.items in
    let vs = range_with_len 0 k in
    let enough = within_triangular_share kernel k s c.requires.conditions.count
    (few_steps kernel c.args.triangle.now.rules c.args.triangle.now.list.items
    (triangle_orders kernel c.requires.valid c.args.triangle.now.rules c.requires.triangle.are_rules c.args.triangle.now.list.items c.requires.triangle.is_triangle)) in
    adds_more (k + 3 * s * allowance vs) (triangular_share_of kernel) c.args.store.now c.write_all.new.store c.write_all.result
    (adds_then k (3 * s * allowance vs) c.args.store.now c.propose.new.store c.write_all.new.store c.write_all.result c.in_ok-propose.ensures.adds
    (adds_makes (3 * s) (SpanColumns c.propose.new.store.nodes c.propose.new.self) c.propose.new.store c.write_all.new.store vs
    (proposed_span kernel c.args.conditions.now c.requires.conditions c.args.store.now c.propose.new.store c.in_ok-propose.ensures.adds.kept c.args.self.now c.propose.new.self c.requires.fresh c.in_ok-propose.ensures.proposed)
    c.write_all.result (subst (λ list. Makes (3 * steps c.args.triangle.now.rules list) (SpanColumns c.propose.new.store.nodes c.propose.new.self) c.propose.new.store c.write_all.new.store no_ref c.write_all.result) c.as_slice.ensures.value c.write_all.ensures.made))) enough

pub returns-clause-filled : goal.returns-clause-filled
returns-clause-filled c =
    on_ok_weaker c.write_all.result
    (λ written. are_filled c.args.kernel.now c.args.conditions.now c.requires.conditions c.args.store.now c.propose.new.store c.in_ok-propose.ensures.adds.kept c.args.self.now c.propose.new.self c.requires.fresh c.in_ok-propose.ensures.proposed
    c.requires.valid c.args.triangle.now c.requires.triangle c.write_all.new.store c.write_all.ensures.made.kept c.write_all.new.self
    (subst (IsPartlyWritten c.args.kernel.now c.args.triangle.now.rules c.propose.new.store.nodes c.write_all.new.store.nodes c.propose.new.self c.write_all.new.self) c.as_slice.ensures.value written)) c.write_all.ensures.written

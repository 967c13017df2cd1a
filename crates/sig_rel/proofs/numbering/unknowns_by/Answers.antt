use Rattle.sig_rel.proofs.{ap, length, arith, conditions_within}
use Rattle.sig_rel.proofs.numbering.unknowns_by.Goals as goal

pub overflow_cast-first : goal.overflow_cast-first
overflow_cast-first c =
    let few = conditions_within c.args.kernel.now in
    let limit = c.requires.parts.signals in
    let are = ap length c.in_ok-conditions.ensures in
    let len = c.len-first.ensures in
    omega (arith, few, limit, are, len, c.in_ok-conditions.conditions.ok.0)

use Rattle.sig_rel.proofs.{arith, is_free_system, is_system, conditions_within}
use Rattle.sig_rel.proofs.free.substituted.Goals as goal

pub system_of-requires : goal.system_of-requires
system_of-requires c =
    let few = conditions_within c.args.kernel.now in
    let limit = c.requires.valid.parts.signals in
    let count = c.requires.conditions.count in
    omega (arith, few, limit, count)

pub returns-clause-system : goal.returns-clause-system
returns-clause-system c =
    let kernel = c.args.kernel.now in
    let conditions = c.args.conditions.now in
    let rules = c.args.triangle.now.rules in
    let list = c.args.triangle.now.list.items in
    let triangle = c.requires.triangle in
    let nodes = c.fill.new.store.nodes in
    let columns = c.fill.new.self in
    let filled = c.in_ok-fill.ensures.filled in
    let system = c.in_ok-system_of.field-0 in
    let is = c.in_ok-system_of.ensures in (
      is.listed,
      is_system kernel c.requires.valid conditions c.requires.conditions rules triangle.are_rules list triangle.is_triangle nodes columns filled.held filled.span filled.always (filled.keeps triangle.is_triangle) system is,
      is_free_system kernel c.requires.valid conditions c.requires.conditions rules triangle.are_rules list triangle.is_triangle nodes columns filled.held filled.span filled.always (filled.keeps triangle.is_triangle) system is,
    )

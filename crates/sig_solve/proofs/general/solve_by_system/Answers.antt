use Rattle.sig_solve.proofs.{◌+◌, ◌∙◌, subst, sym, Keeps-trans, AreConditions, rest_of_share, share_of, conditions_by_number, halves, within_equal, within_relation, within_then}
use Rattle.sig_solve.proofs.general.solve_by_system.Goals as goal

pub system-requires-clause-conditions : goal.system-requires-clause-conditions
system-requires-clause-conditions c = subst (AreConditions c.args.kernel.now) (sym (c.as_slice-conditions.ensures.value ∙ c.in_ok-conditions.ensures)) (conditions_by_number c.args.kernel.now)

pub returns-in_err-system-clause-share : goal.returns-in_err-system-clause-share
returns-in_err-system-clause-share c u count =
    within_equal (rest_of_share c.args.kernel.now u + rest_of_share c.args.kernel.now u) (share_of c.args.kernel.now u) c.args.store.now c.system.new.store c.from_residual-in_err-system.result (halves c.args.kernel.now u)
    (within_relation (rest_of_share c.args.kernel.now u) (rest_of_share c.args.kernel.now u) c.args.store.now c.system.new.store c.from_residual-in_err-system.result c.in_err-system.field-0.0
    (c.in_err-system.ensures.share.added u count) (c.in_err-system.ensures.share.refused u count) c.from_residual-in_err-system.ensures.1)

pub returns-clause-kept : goal.returns-clause-kept
returns-clause-kept c = Keeps-trans c.args.store.now c.system.new.store c.solve_system.new.store c.in_ok-system.ensures.kept c.solve_system.ensures.kept

pub returns-clause-share : goal.returns-clause-share
returns-clause-share c u count =
    within_equal (rest_of_share c.args.kernel.now u + rest_of_share c.args.kernel.now u) (share_of c.args.kernel.now u) c.args.store.now c.solve_system.new.store c.solve_system.result (halves c.args.kernel.now u)
    (within_then (rest_of_share c.args.kernel.now u) (rest_of_share c.args.kernel.now u) c.args.store.now c.system.new.store c.solve_system.new.store c.solve_system.result (c.in_ok-system.ensures.share.added u count) (c.solve_system.ensures.share u count))

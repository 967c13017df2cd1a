use Rattle.sig_solve.proofs.{◌+◌, inl, inr, refl, rest_of_share, share_of, triangular_share_of as system_share_of, halves, within_equal, two_systems, within_more}
use Rattle.sig_solve.specs.Refusals.{triangular_share_of}
use Rattle.sig_solve.proofs.solving.solve.Goals as goal

pub returns-in-Some-clause-share : goal.returns-in-Some-clause-share
returns-in-Some-clause-share c u count =
    within_equal (rest_of_share c.args.kernel.now u + rest_of_share c.args.kernel.now u) (share_of c.args.kernel.now u) c.args.store.now c.solve_triangular.new.store c.solve_triangular.result (halves c.args.kernel.now u)
    (c.solve_triangular.ensures.share (rest_of_share c.args.kernel.now u) (inl (u, count, refl)))

pub returns-in-Some-clause-triangular : goal.returns-in-Some-clause-triangular
returns-in-Some-clause-triangular c is =
    within_more (system_share_of c.args.kernel.now + system_share_of c.args.kernel.now) (triangular_share_of c.args.kernel.now) c.args.store.now c.solve_triangular.new.store c.solve_triangular.result (two_systems c.args.kernel.now)
    (c.solve_triangular.ensures.share (system_share_of c.args.kernel.now) (inr refl))

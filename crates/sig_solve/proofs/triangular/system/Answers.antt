use Rattle.sig_solve.proofs.{Ok, keeps_passed, keeps_to_both}
use Rattle.sig_solve.proofs.triangular.system.Goals as goal

pub returns-in_err-system-clause-share : goal.returns-in_err-system-clause-share
returns-in_err-system-clause-share c =
    keeps_passed c.args.kernel.now c.args.store.now c.free_system.new.store c.from_residual.result c.in_err-system.field-0.0 c.from_residual.ensures.1 c.requires.triangular c.in_err-system.ensures.share

pub returns-clause-share : goal.returns-clause-share
returns-clause-share c =
    keeps_to_both c.args.kernel.now c.args.store.now c.free_system.new.store (Ok c.in-Some.system) c.requires.triangular (record { added = c.in_ok-system.ensures.share.added; refused = λ is. tt })

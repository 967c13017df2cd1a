use Rattle.sig_parse.proofs.{raised, optional_refused, init_settles}
use Rattle.sig_parse.proofs.constant.optional_init.Goals as goal

pub returns-in_err-init-clause-refuses : goal.returns-in_err-init-clause-refuses
returns-in_err-init-clause-refuses c = raised c.from_residual.result _ c.from_residual.ensures (λ cause after r. optional_refused cause _ after (rw c.if-is.true at c.is.ensures) r) c.in_err-init.ensures.refuses

pub returns-in_ok-init-clause-settles : goal.returns-in_ok-init-clause-settles
returns-in_ok-init-clause-settles c = let r = c.in_ok-init.ensures.reads in
    record { passed = r.front; split = r.split; alone = init_settles c.in_ok-init.field-0 r.front c.init.new.parser.leaves r.is }

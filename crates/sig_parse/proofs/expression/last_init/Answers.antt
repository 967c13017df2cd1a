use Rattle.sig_parse.proofs.{inl, inr, handed}
use Rattle.sig_parse.proofs.expression.last_init.Goals as goal

pub returns-in_err-constant-clause-refuses : goal.returns-in_err-constant-clause-refuses
returns-in_err-constant-clause-refuses c = handed _ _ _ c.from_residual.ensures (λ text. inl (c.in_err-constant.ensures.refuses text))

pub returns-in_err-nothing_tighter-clause-refuses : goal.returns-in_err-nothing_tighter-clause-refuses
returns-in_err-nothing_tighter-clause-refuses c = handed _ _ _ c.from_residual-in_err-nothing_tighter.ensures
    (λ text. inr (c.in_ok-constant.constant, c.in_ok-constant.ensures.reads, c.in_err-nothing_tighter.ensures.refused.0, c.in_err-nothing_tighter.ensures.refused.1))

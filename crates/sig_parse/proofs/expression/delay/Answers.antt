use Rattle.sig_parse.proofs.{ap, refl, expression_of, Delay as DelayOp, at_delay, handed, wrong, delay_reads, delay_lifts, delay_wrong}
use Rattle.sig_parse.proofs.expression.delay.Goals as goal

pub returns-clause-completes : goal.returns-clause-completes
returns-clause-completes c = λ depth. at_delay DelayOp (expression_of c.args.left) _ c.in_ok-constant.constant c.args.at depth refl (ap expression_of c.in_ok-new.ensures.ok) c.take_one.ensures.reads c.in_ok-constant.ensures.reads

pub returns-clause-step : goal.returns-clause-step
returns-clause-step c = λ depth. delay_reads DelayOp c.args.at depth c.in_ok-constant.constant refl c.take_one.ensures.reads c.in_ok-constant.ensures.reads

pub returns-in_err-constant-clause-refuses : goal.returns-in_err-constant-clause-refuses
returns-in_err-constant-clause-refuses c = handed _ _ _ c.from_residual.ensures (λ depth used counts few text.
    delay_lifts DelayOp c.args.at depth used refl counts few c.take_one.ensures.reads c.take_one.ensures.settles _ _ (c.in_err-constant.ensures.refuses text))

pub returns-in_err-nothing_tighter-clause-refuses : goal.returns-in_err-nothing_tighter-clause-refuses
returns-in_err-nothing_tighter-clause-refuses c = handed _ _ _ c.from_residual-in_err-nothing_tighter.ensures (λ depth used counts few text.
    wrong c.in_err-nothing_tighter.field-0.0 c.in_err-nothing_tighter.ensures.refused.0
    (delay_wrong DelayOp c.args.at depth used c.in_ok-constant.constant refl counts few c.take_one.ensures.reads c.take_one.ensures.settles
    c.in_ok-constant.ensures.reads c.in_ok-constant.ensures.settles c.in_err-nothing_tighter.ensures.refused.1))

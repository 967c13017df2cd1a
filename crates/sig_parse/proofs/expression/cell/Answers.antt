use Rattle.sig_parse.proofs.{handed}
use Rattle.sig_parse.proofs.expression.cell.Goals as goal

pub returns-in_err-constant-clause-refuses : goal.returns-in_err-constant-clause-refuses
returns-in_err-constant-clause-refuses c = handed _ _ _ c.from_residual.ensures c.in_err-constant.ensures.refuses

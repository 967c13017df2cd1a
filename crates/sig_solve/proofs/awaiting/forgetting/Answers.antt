use Rattle.sig_solve.proofs.{◌∙◌, Bool, List, true, false, set, ap, get_or-set_other, truth_of}
use Rattle.sig_solve.proofs.awaiting.forgetting.Goals as goal

pub returns : goal.returns
returns c u apart = ap (λ (xs : List Bool). truth_of (set xs c.args.v true) u) c.in_ok-more.ensures.items ∙ get_or-set_other c.args.forgotten.now c.args.v u true false apart

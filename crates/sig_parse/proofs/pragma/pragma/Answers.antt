use Rattle.sig_parse.proofs.{placement, handed, covered, pragma_first, pragma_names, pragma_label}
use Rattle.sig_parse.proofs.pragma.pragma.Goals as goal

pub returns-clause-reads : goal.returns-clause-reads
returns-clause-reads c = placement c.in_ok-names.names.items c.in_ok-label.label c.in_ok-at.at c.in_ok-label._at c.in_ok-at.ensures.reads c.in_ok-names.ensures.reads c.in_ok-label.ensures.reads

pub returns-in_err-at-clause-refuses : goal.returns-in_err-at-clause-refuses
returns-in_err-at-clause-refuses c = handed _ _ _ c.from_residual.ensures (λ text. pragma_first (c.in_err-at.ensures.refuses text))

pub returns-in_err-names-clause-refuses : goal.returns-in_err-names-clause-refuses
returns-in_err-names-clause-refuses c = handed _ _ _ c.from_residual-in_err-names.ensures (λ text. pragma_names c.in_ok-at.at (covered c.in_ok-at.ensures.reads) (c.in_err-names.ensures.refuses text))

pub returns-in_err-label-clause-refuses : goal.returns-in_err-label-clause-refuses
returns-in_err-label-clause-refuses c = handed _ _ _ c.from_residual-in_err-label.ensures (λ text. pragma_label c.in_ok-at.at c.in_ok-names.names.items (covered c.in_ok-at.ensures.reads) (covered c.in_ok-names.ensures.reads) (c.in_err-label.ensures.refuses text))

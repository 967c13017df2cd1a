use Rattle.sig_parse.proofs.{title, handed, covered, title_begun, title_name, title_equals}
use Rattle.sig_parse.proofs.process.title.Goals as goal

pub returns-clause-reads : goal.returns-clause-reads
returns-clause-reads c = title c.in_ok-name.name c.in_ok-_begun._begun c.in_ok-_equals._equals c.in_ok-_begun.ensures.reads c.in_ok-name.ensures.reads c.in_ok-_equals.ensures.reads

pub returns-in_err-_begun-clause-refuses : goal.returns-in_err-_begun-clause-refuses
returns-in_err-_begun-clause-refuses c = handed _ _ _ c.from_residual.ensures (λ text. title_begun (c.in_err-_begun.ensures.refuses text))

pub returns-in_err-name-clause-refuses : goal.returns-in_err-name-clause-refuses
returns-in_err-name-clause-refuses c = handed _ _ _ c.from_residual-in_err-name.ensures (λ text. title_name c.in_ok-_begun._begun (covered c.in_ok-_begun.ensures.reads) (c.in_err-name.ensures.refuses text))

pub returns-in_err-_equals-clause-refuses : goal.returns-in_err-_equals-clause-refuses
returns-in_err-_equals-clause-refuses c = handed _ _ _ c.from_residual-in_err-_equals.ensures (λ text. title_equals c.in_ok-_begun._begun c.in_ok-name.name (covered c.in_ok-_begun.ensures.reads) (covered c.in_ok-name.ensures.reads) (c.in_err-_equals.ensures.refuses text))

use Rattle.sig_parse.proofs.{map, declared_of, interface, handed, covered, interface_open, interface_asked, interface_inputs, interface_outputs}
use Rattle.sig_parse.proofs.process.inputs_and_outputs.Goals as goal

pub returns-clause-reads : goal.returns-clause-reads
returns-clause-reads c = interface (map declared_of c.in_ok-inputs.inputs.items) (map declared_of c.in_ok-outputs.outputs.items)
    c.in_ok-_opened._opened c.in_ok-_asked._asked c.in_ok-_answered._answered c.in_ok-_closed._closed
    c.in_ok-_opened.ensures.reads c.in_ok-_asked.ensures.reads c.in_ok-inputs.ensures.reads c.in_ok-_answered.ensures.reads c.in_ok-outputs.ensures.reads c.in_ok-_closed.ensures.reads

pub returns-in_err-_opened-clause-refuses : goal.returns-in_err-_opened-clause-refuses
returns-in_err-_opened-clause-refuses c = handed _ _ _ c.from_residual.ensures (λ text. interface_open (c.in_err-_opened.ensures.refuses text))

pub returns-in_err-_asked-clause-refuses : goal.returns-in_err-_asked-clause-refuses
returns-in_err-_asked-clause-refuses c = handed _ _ _ c.from_residual-in_err-_asked.ensures (λ text. interface_asked c.in_ok-_opened._opened (covered c.in_ok-_opened.ensures.reads) (c.in_err-_asked.ensures.refuses text))

pub returns-in_err-inputs-clause-refuses : goal.returns-in_err-inputs-clause-refuses
returns-in_err-inputs-clause-refuses c = handed _ _ _ c.from_residual-in_err-inputs.ensures (λ text. interface_inputs c.in_ok-_opened._opened (covered c.in_ok-_opened.ensures.reads) c.in_ok-_asked._asked (covered c.in_ok-_asked.ensures.reads) (c.in_err-inputs.ensures.refuses text))

pub returns-in_err-_answered-clause-refuses : goal.returns-in_err-_answered-clause-refuses
returns-in_err-_answered-clause-refuses c = handed _ _ _ c.from_residual-in_err-_answered.ensures (λ text. interface_inputs c.in_ok-_opened._opened (covered c.in_ok-_opened.ensures.reads) c.in_ok-_asked._asked (covered c.in_ok-_asked.ensures.reads) (c.in_ok-inputs.ensures.closes _ _ (c.in_err-_answered.ensures.refuses text)))

pub returns-in_err-outputs-clause-refuses : goal.returns-in_err-outputs-clause-refuses
returns-in_err-outputs-clause-refuses c = handed _ _ _ c.from_residual-in_err-outputs.ensures (λ text. interface_outputs c.in_ok-_opened._opened (covered c.in_ok-_opened.ensures.reads) c.in_ok-_asked._asked (covered c.in_ok-_asked.ensures.reads) (map declared_of c.in_ok-inputs.inputs.items) c.in_ok-_answered._answered (covered c.in_ok-inputs.ensures.reads) (covered c.in_ok-_answered.ensures.reads) (c.in_err-outputs.ensures.refuses text))

pub returns-in_err-_closed-clause-refuses : goal.returns-in_err-_closed-clause-refuses
returns-in_err-_closed-clause-refuses c = handed _ _ _ c.from_residual-in_err-_closed.ensures (λ text. interface_outputs c.in_ok-_opened._opened (covered c.in_ok-_opened.ensures.reads) c.in_ok-_asked._asked (covered c.in_ok-_asked.ensures.reads) (map declared_of c.in_ok-inputs.inputs.items) c.in_ok-_answered._answered (covered c.in_ok-inputs.ensures.reads) (covered c.in_ok-_answered.ensures.reads) (c.in_ok-outputs.ensures.closes _ _ (c.in_err-_closed.ensures.refuses text)))

use Rattle.sig_call.proofs.{named_body, nameable_text}
use Rattle.sig_call.proofs.signal_names.signals_have_names.Goals as goal

pub returns-clause-signals : goal.returns-clause-signals
returns-clause-signals c = λ text program flat is well expands short few.
    let words = c.each_token.ensures.words text is.0 is.1 in
    (named_body program flat (c.trees_of_texts.ensures.tree text program is) well
    (nameable_text text is.0 words.0 program words.1 words.2 (c.slices_in_order.ensures.order text is.0 is.1) is.2 short) expands few).signals

pub returns-clause-operators : goal.returns-clause-operators
returns-clause-operators c = λ text program flat is well expands short few.
    let words = c.each_token.ensures.words text is.0 is.1 in
    (named_body program flat (c.trees_of_texts.ensures.tree text program is) well
    (nameable_text text is.0 words.0 program words.1 words.2 (c.slices_in_order.ensures.order text is.0 is.1) is.2 short) expands few).operators

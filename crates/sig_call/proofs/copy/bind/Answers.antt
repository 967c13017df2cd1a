use Rattle.sig_call.proofs.{◌≡◌, ◌+◌, ◌∙◌, ap, sym, length, length-map, declarations_in, declaration_in, bindings_in, bound_whole, model_of}
use Rattle.sig_call.proofs.copy.bind.Goals as goal

pub returns : goal.returns
returns c =
    let p = model_of c.args.interface.now.process.now in
    let inputs : c.len.result ≡ length (declarations_in c.deref-2.result.now) = c.len.ensures ∙ c.args.interface.now.inputs.ok.0 ∙ ap length (sym c.deref-2.ensures.value) ∙ sym (length-map c.deref-2.result.now declaration_in) in
    let outputs : c.len-2.result ≡ length (declarations_in c.deref-3.result.now) = c.len-2.ensures ∙ c.args.interface.now.outputs.ok.0 ∙ ap length (sym c.deref-3.ensures.value) ∙ sym (length-map c.deref-3.result.now declaration_in) in
    let whole = bound_whole p c.args.first (c.args.first + c.len.result) (c.args.first + c.len.result + c.len-2.result) c.args.constants.now (bindings_in c.new-bound.result.items) (bindings_in c.bind_constants.new.bound.items) (bindings_in c.bind_signals.new.bound.items) (bindings_in c.bind_signals-2.new.bound.items) (bindings_in c.bind_signals-3.new.bound.items)
    (declarations_in c.deref.result.now) (declarations_in c.deref-2.result.now) (declarations_in c.deref-3.result.now) (declarations_in c.deref-4.result.now)
    (ap bindings_in c.new-bound.ensures.items) (ap declarations_in c.deref.ensures.value ∙ c.args.interface.now.params_are) (ap declarations_in c.deref-2.ensures.value ∙ c.args.interface.now.inputs_are)
    (ap declarations_in c.deref-3.ensures.value ∙ c.args.interface.now.outputs_are) (ap declarations_in c.deref-4.ensures.value ∙ c.args.interface.now.locals_are)
    (ap (λ n. c.args.first + n) inputs) (ap (λ n. c.args.first + c.len.result + n) outputs) c.in_ok-bind_constants.ensures c.in_ok-bind_signals.ensures c.in_ok-bind_signals-2.ensures c.in_ok-bind_signals-3.ensures in
    rw (← whole) c.of.ensures

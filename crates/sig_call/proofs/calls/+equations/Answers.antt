use Rattle.sig_call.proofs.{◌≡◌, ◌+◌, ◌*◌, ◌-◌, ◌<◌, ◌≤◌, ◌++◌, ◌∷◌, [], length, map, drop, take, sym, ap, subst, ◌∙◌, arith, Some, Bor, suc, AllByRecursion, length-map, err_from_is_err_and, Body, model_of, expression_of, equations_of, right_side_of, Equations, Defines, Equal, inputs_of, process_of, equations_of_model, with_copy, declaration_in, interface_models, bodies_in, body_is, copy_in, made_of, Made, Advances, NeedsMore, IsReady, needs_entering, needs_inside, needs_later, advances_called, advances_by, leads_equated, advances_defined, call_adds, call_numbers, call_room, refused_by, all_mapped, split_at}
use Rattle.sig_call.proofs.calls.+equations.Goals as goal

pub expand-expand_equation-requires : goal.expand-expand_equation-requires
expand-expand_equation-requires t c =
    let start : 4 * (513 - length c.args.expansion.now.signals.items) + 3 ≡ t = c.decreases in
    let grows : length c.args.expansion.now.signals.items ≤ length c.loop-equation.expansion.signals.items = c.loop-equation.invariant.grows in
    let falls : 4 * (513 - length c.loop-equation.expansion.signals.items) + 2 < t = omega arith in
    (falls, (c.requires.every, all_mapped (IsReady (interface_models c.args.processes.now.interfaces.items)) (λ (b : Bor Body). equations_of b.now) c.args.equations.now c.loop-equation.equation-index c.equation-item.result c.requires.ready c.loop-equation-test.true c.equation-item.is))

pub expand-returns-in_err-expand_equation-clause-refused : goal.expand-returns-in_err-expand_equation-clause-refused
expand-returns-in_err-expand_equation-clause-refused t c =
    let p = err_from_is_err_and c.from_residual.result c.from_residual.ensures.1 in
    let whole : bodies_in c.args.equations.now ≡ bodies_in (take c.loop-equation.equation-index c.args.equations.now) ++ equations_of c.equation-item.result.now ∷ bodies_in (drop (suc c.loop-equation.equation-index) c.args.equations.now) =
    split_at (λ (b : Bor Body). equations_of b.now) c.args.equations.now c.loop-equation.equation-index c.equation-item.result c.loop-equation-test.true c.equation-item.is in
    refused_by c.from_residual.result _ c.in_err-expand_equation.field-0.0 p.1 p.2 c.in_err-expand_equation.ensures.refused
    (λ needs. subst (λ es. NeedsMore (interface_models c.args.processes.now.interfaces.items) (copy_in c.args.copy.now) es (made_of c.args.expansion.now).progress) (sym whole)
    (needs_later (equations_of c.equation-item.result.now) (bodies_in (drop (suc c.loop-equation.equation-index) c.args.equations.now)) c.loop-equation.invariant.leads needs))

pub expand_call-enter-requires-clause-labels : goal.expand_call-enter-requires-clause-labels
expand_call-enter-requires-clause-labels t c =
    let found : process_of (interface_models c.args.processes.now.interfaces.items) c.args.call.process.now.text ≡ Some (model_of c.in-Some.called.now.process.now) = ap (process_of (interface_models c.args.processes.now.interfaces.items)) (sym c.as_bytes.ensures) ∙ sym c.in-Some.ensures in
    (c.requires.every c.args.call.process.now.text (model_of c.in-Some.called.now.process.now) found).labels

pub expand_call-returns-in_err-inner-clause-refused : goal.expand_call-returns-in_err-inner-clause-refused
expand_call-returns-in_err-inner-clause-refused t c =
    let p = err_from_is_err_and c.from_residual.result c.from_residual.ensures.1 in
    let found : process_of (interface_models c.args.processes.now.interfaces.items) c.args.call.process.now.text ≡ Some (model_of c.in-Some.called.now.process.now) = ap (process_of (interface_models c.args.processes.now.interfaces.items)) (sym c.as_bytes.ensures) ∙ sym c.in-Some.ensures in
    refused_by c.from_residual.result _ c.in_err-inner.field-0.0 p.1 p.2 c.in_err-inner.ensures.refused
    (λ more. needs_entering (model_of c.in-Some.called.now.process.now) found more)

pub expand_call-define_inputs-requires-clause-fits : goal.expand_call-define_inputs-requires-clause-fits
expand_call-define_inputs-requires-clause-fits t c =
    let found : process_of (interface_models c.args.processes.now.interfaces.items) c.args.call.process.now.text ≡ Some (model_of c.in-Some.called.now.process.now) = ap (process_of (interface_models c.args.processes.now.interfaces.items)) (sym c.as_bytes.ensures) ∙ sym c.in-Some.ensures in
    let entered : length c.enter.new.expansion.signals.items ≡ length (with_copy (copy_in c.args.copy.now) (made_of c.args.expansion.now).progress c.args.call.names.now c.args.call.process.now (model_of c.in-Some.called.now.process.now)).signals = ap (λ (m : Made). length m.progress.signals) c.in_ok-inner.ensures.added in
    let few : length (with_copy (copy_in c.args.copy.now) (made_of c.args.expansion.now).progress c.args.call.names.now c.args.call.process.now (model_of c.in-Some.called.now.process.now)).signals ≤ 512 = omega (arith, c.in_ok-inner.ensures.few) in
    let room : length c.args.expansion.now.signals.items + (length (map expression_of c.args.call.arguments.now) + length c.args.call.names.now) ≤ 512 =
    call_room (interface_models c.args.processes.now.interfaces.items) (copy_in c.args.copy.now) (made_of c.args.expansion.now).progress c.args.call.names.now c.args.call.process.now c.args.call.constants.now (map expression_of c.args.call.arguments.now) (model_of c.in-Some.called.now.process.now) c.requires.ready found few in
    let first : c.len-first.result ≡ length c.args.expansion.now.signals.items = c.len-first.ensures.is in
    let size : length (map expression_of c.args.call.arguments.now) ≡ length c.args.call.arguments.now = length-map c.args.call.arguments.now expression_of in
    omega arith

pub expand_call-expand-requires : goal.expand_call-expand-requires
expand_call-expand-requires t c =
    let found : process_of (interface_models c.args.processes.now.interfaces.items) c.args.call.process.now.text ≡ Some (model_of c.in-Some.called.now.process.now) = ap (process_of (interface_models c.args.processes.now.interfaces.items)) (sym c.as_bytes.ensures) ∙ sym c.in-Some.ensures in
    let body : bodies_in c.deref.result.now ≡ equations_of_model (model_of c.in-Some.called.now.process.now) = ap bodies_in c.deref.ensures.value ∙ c.in_ok-equations.ensures ∙ sym (body_is c.in-Some.called.now.process.now) in
    let start : 4 * (513 - length c.args.expansion.now.signals.items) ≡ t = c.decreases in
    let adds : length c.args.expansion.now.signals.items < length (with_copy (copy_in c.args.copy.now) (made_of c.args.expansion.now).progress c.args.call.names.now c.args.call.process.now (model_of c.in-Some.called.now.process.now)).signals =
    call_adds (interface_models c.args.processes.now.interfaces.items) (copy_in c.args.copy.now) (made_of c.args.expansion.now).progress c.args.call.names.now c.args.call.process.now c.args.call.constants.now (map expression_of c.args.call.arguments.now) (model_of c.in-Some.called.now.process.now) c.requires.ready found in
    let entered : length c.enter.new.expansion.signals.items ≡ length (with_copy (copy_in c.args.copy.now) (made_of c.args.expansion.now).progress c.args.call.names.now c.args.call.process.now (model_of c.in-Some.called.now.process.now)).signals = ap (λ (m : Made). length m.progress.signals) c.in_ok-inner.ensures.added in
    let same : length c.define_inputs.new.self.signals.items ≡ length c.enter.new.expansion.signals.items = ap (λ (m : Made). length m.progress.signals) c.in_ok-define_inputs.ensures in
    let few : length c.enter.new.expansion.signals.items ≤ 512 = c.in_ok-inner.ensures.few in
    let falls : 4 * (513 - length c.define_inputs.new.self.signals.items) + 3 < t = omega arith in
    let ready : AllByRecursion (IsReady (interface_models c.args.processes.now.interfaces.items)) (bodies_in c.deref.result.now) = subst (λ es. AllByRecursion (IsReady (interface_models c.args.processes.now.interfaces.items)) es) (sym body) (c.requires.every c.args.call.process.now.text (model_of c.in-Some.called.now.process.now) found).equations in
    (falls, (c.requires.every, ready))

pub expand_call-returns-in_err-expand-clause-refused : goal.expand_call-returns-in_err-expand-clause-refused
expand_call-returns-in_err-expand-clause-refused t c =
    let p = err_from_is_err_and c.from_residual-in_err-expand.result c.from_residual-in_err-expand.ensures.1 in
    let found : process_of (interface_models c.args.processes.now.interfaces.items) c.args.call.process.now.text ≡ Some (model_of c.in-Some.called.now.process.now) = ap (process_of (interface_models c.args.processes.now.interfaces.items)) (sym c.as_bytes.ensures) ∙ sym c.in-Some.ensures in
    let body : bodies_in c.deref.result.now ≡ equations_of_model (model_of c.in-Some.called.now.process.now) = ap bodies_in c.deref.ensures.value ∙ c.in_ok-equations.ensures ∙ sym (body_is c.in-Some.called.now.process.now) in
    let from : (made_of c.define_inputs.new.self).progress ≡ with_copy (copy_in c.args.copy.now) (made_of c.args.expansion.now).progress c.args.call.names.now c.args.call.process.now (model_of c.in-Some.called.now.process.now) =
    ap (λ (m : Made). m.progress) c.in_ok-define_inputs.ensures ∙ ap (λ (m : Made). m.progress) c.in_ok-inner.ensures.added in
    refused_by c.from_residual-in_err-expand.result _ c.in_err-expand.field-0.0 p.1 p.2 c.in_err-expand.ensures.refused
    (λ more. needs_inside (model_of c.in-Some.called.now.process.now) found c.in_ok-inner.ensures.copied body from more)

pub expand_call-overflow_cast-outputs : goal.expand_call-overflow_cast-outputs
expand_call-overflow_cast-outputs t c =
    let found : process_of (interface_models c.args.processes.now.interfaces.items) c.args.call.process.now.text ≡ Some (model_of c.in-Some.called.now.process.now) = ap (process_of (interface_models c.args.processes.now.interfaces.items)) (sym c.as_bytes.ensures) ∙ sym c.in-Some.ensures in
    let entered : length c.enter.new.expansion.signals.items ≡ length (with_copy (copy_in c.args.copy.now) (made_of c.args.expansion.now).progress c.args.call.names.now c.args.call.process.now (model_of c.in-Some.called.now.process.now)).signals = ap (λ (m : Made). length m.progress.signals) c.in_ok-inner.ensures.added in
    let few : length (with_copy (copy_in c.args.copy.now) (made_of c.args.expansion.now).progress c.args.call.names.now c.args.call.process.now (model_of c.in-Some.called.now.process.now)).signals ≤ 512 = omega (arith, c.in_ok-inner.ensures.few) in
    let room : length c.args.expansion.now.signals.items + (length (map expression_of c.args.call.arguments.now) + length c.args.call.names.now) ≤ 512 =
    call_room (interface_models c.args.processes.now.interfaces.items) (copy_in c.args.copy.now) (made_of c.args.expansion.now).progress c.args.call.names.now c.args.call.process.now c.args.call.constants.now (map expression_of c.args.call.arguments.now) (model_of c.in-Some.called.now.process.now) c.requires.ready found few in
    let first : c.len-first.result ≡ length c.args.expansion.now.signals.items = c.len-first.ensures.is in
    let inputs : c.len.result ≡ length (inputs_of (model_of c.in-Some.called.now.process.now)) = c.len.ensures ∙ c.in-Some.called.now.inputs.ok.0 ∙ sym (length-map c.in-Some.called.now.inputs.items declaration_in) ∙ ap length c.in-Some.called.now.inputs_are in
    let numbers : length (map expression_of c.args.call.arguments.now) ≡ length (inputs_of (model_of c.in-Some.called.now.process.now)) =
    (call_numbers (interface_models c.args.processes.now.interfaces.items) c.args.call.names.now c.args.call.process.now c.args.call.constants.now (map expression_of c.args.call.arguments.now) (model_of c.in-Some.called.now.process.now) c.requires.ready found).inputs in
    omega arith

pub expand_call-overflow_add-outputs : goal.expand_call-overflow_add-outputs
expand_call-overflow_add-outputs t c =
    let found : process_of (interface_models c.args.processes.now.interfaces.items) c.args.call.process.now.text ≡ Some (model_of c.in-Some.called.now.process.now) = ap (process_of (interface_models c.args.processes.now.interfaces.items)) (sym c.as_bytes.ensures) ∙ sym c.in-Some.ensures in
    let entered : length c.enter.new.expansion.signals.items ≡ length (with_copy (copy_in c.args.copy.now) (made_of c.args.expansion.now).progress c.args.call.names.now c.args.call.process.now (model_of c.in-Some.called.now.process.now)).signals = ap (λ (m : Made). length m.progress.signals) c.in_ok-inner.ensures.added in
    let few : length (with_copy (copy_in c.args.copy.now) (made_of c.args.expansion.now).progress c.args.call.names.now c.args.call.process.now (model_of c.in-Some.called.now.process.now)).signals ≤ 512 = omega (arith, c.in_ok-inner.ensures.few) in
    let room : length c.args.expansion.now.signals.items + (length (map expression_of c.args.call.arguments.now) + length c.args.call.names.now) ≤ 512 =
    call_room (interface_models c.args.processes.now.interfaces.items) (copy_in c.args.copy.now) (made_of c.args.expansion.now).progress c.args.call.names.now c.args.call.process.now c.args.call.constants.now (map expression_of c.args.call.arguments.now) (model_of c.in-Some.called.now.process.now) c.requires.ready found few in
    let first : c.len-first.result ≡ length c.args.expansion.now.signals.items = c.len-first.ensures.is in
    let inputs : c.len.result ≡ length (inputs_of (model_of c.in-Some.called.now.process.now)) = c.len.ensures ∙ c.in-Some.called.now.inputs.ok.0 ∙ sym (length-map c.in-Some.called.now.inputs.items declaration_in) ∙ ap length c.in-Some.called.now.inputs_are in
    let numbers : length (map expression_of c.args.call.arguments.now) ≡ length (inputs_of (model_of c.in-Some.called.now.process.now)) =
    (call_numbers (interface_models c.args.processes.now.interfaces.items) c.args.call.names.now c.args.call.process.now c.args.call.constants.now (map expression_of c.args.call.arguments.now) (model_of c.in-Some.called.now.process.now) c.requires.ready found).inputs in
    omega arith

pub expand_call-define_outputs-requires : goal.expand_call-define_outputs-requires
expand_call-define_outputs-requires t c =
    let found : process_of (interface_models c.args.processes.now.interfaces.items) c.args.call.process.now.text ≡ Some (model_of c.in-Some.called.now.process.now) = ap (process_of (interface_models c.args.processes.now.interfaces.items)) (sym c.as_bytes.ensures) ∙ sym c.in-Some.ensures in
    let entered : length c.enter.new.expansion.signals.items ≡ length (with_copy (copy_in c.args.copy.now) (made_of c.args.expansion.now).progress c.args.call.names.now c.args.call.process.now (model_of c.in-Some.called.now.process.now)).signals = ap (λ (m : Made). length m.progress.signals) c.in_ok-inner.ensures.added in
    let few : length (with_copy (copy_in c.args.copy.now) (made_of c.args.expansion.now).progress c.args.call.names.now c.args.call.process.now (model_of c.in-Some.called.now.process.now)).signals ≤ 512 = omega (arith, c.in_ok-inner.ensures.few) in
    let room : length c.args.expansion.now.signals.items + (length (map expression_of c.args.call.arguments.now) + length c.args.call.names.now) ≤ 512 =
    call_room (interface_models c.args.processes.now.interfaces.items) (copy_in c.args.copy.now) (made_of c.args.expansion.now).progress c.args.call.names.now c.args.call.process.now c.args.call.constants.now (map expression_of c.args.call.arguments.now) (model_of c.in-Some.called.now.process.now) c.requires.ready found few in
    let first : c.len-first.result ≡ length c.args.expansion.now.signals.items = c.len-first.ensures.is in
    let inputs : c.len.result ≡ length (inputs_of (model_of c.in-Some.called.now.process.now)) = c.len.ensures ∙ c.in-Some.called.now.inputs.ok.0 ∙ sym (length-map c.in-Some.called.now.inputs.items declaration_in) ∙ ap length c.in-Some.called.now.inputs_are in
    let numbers : length (map expression_of c.args.call.arguments.now) ≡ length (inputs_of (model_of c.in-Some.called.now.process.now)) =
    (call_numbers (interface_models c.args.processes.now.interfaces.items) c.args.call.names.now c.args.call.process.now c.args.call.constants.now (map expression_of c.args.call.arguments.now) (model_of c.in-Some.called.now.process.now) c.requires.ready found).inputs in
    omega arith

pub expand_call-returns-clause-advanced : goal.expand_call-returns-clause-advanced
expand_call-returns-clause-advanced t c =
    let found : process_of (interface_models c.args.processes.now.interfaces.items) c.args.call.process.now.text ≡ Some (model_of c.in-Some.called.now.process.now) = ap (process_of (interface_models c.args.processes.now.interfaces.items)) (sym c.as_bytes.ensures) ∙ sym c.in-Some.ensures in
    let inputs : c.len.result ≡ length (inputs_of (model_of c.in-Some.called.now.process.now)) = c.len.ensures ∙ c.in-Some.called.now.inputs.ok.0 ∙ sym (length-map c.in-Some.called.now.inputs.items declaration_in) ∙ ap length c.in-Some.called.now.inputs_are in
    let numbers : length (map expression_of c.args.call.arguments.now) ≡ length (inputs_of (model_of c.in-Some.called.now.process.now)) =
    (call_numbers (interface_models c.args.processes.now.interfaces.items) c.args.call.names.now c.args.call.process.now c.args.call.constants.now (map expression_of c.args.call.arguments.now) (model_of c.in-Some.called.now.process.now) c.requires.ready found).inputs in
    let body : bodies_in c.deref.result.now ≡ equations_of_model (model_of c.in-Some.called.now.process.now) = ap bodies_in c.deref.ensures.value ∙ c.in_ok-equations.ensures ∙ sym (body_is c.in-Some.called.now.process.now) in
    advances_called (map expression_of c.args.call.arguments.now) (model_of c.in-Some.called.now.process.now) c.len-first.result (c.len-first.result + c.len.result)
    found c.in_ok-inner.ensures.copied body c.len-first.ensures.is (ap (λ n. c.len-first.result + n) inputs) c.in_ok-inner.ensures.added c.in_ok-define_inputs.ensures c.in_ok-expand.ensures.advanced c.in_ok-define_outputs.ensures

pub expand_definition-returns-in_ok-define-in-Value-clause-advanced : goal.expand_definition-returns-in_ok-define-in-Value-clause-advanced
expand_definition-returns-in_ok-define-in-Value-clause-advanced t c =
    advances_defined (interface_models c.args.processes.now.interfaces.items) (copy_in c.args.copy.now) (made_of c.args.expansion.now) (made_of c.define.new.self) (Defines c.args.names.now (right_side_of c.args.right.now)) c.args.names.now (expression_of c.in-Value.e) c.index-names-0.result
    (ap (λ r. Defines c.args.names.now (right_side_of r)) c.in-Value.is) c.requires.ready c.index-names-0.is c.in_ok-define-in-Value.ensures

pub expand_equation-returns-in_ok-equate-in-Same-clause-advanced : goal.expand_equation-returns-in_ok-equate-in-Same-clause-advanced
expand_equation-returns-in_ok-equate-in-Same-clause-advanced t c =
    let same : equations_of c.args.equation.now ≡ Equal (map expression_of c.deref-in-Same.result.now) = ap equations_of c.in-Same.is ∙ ap (λ es. Equal (map expression_of es)) (sym c.deref-in-Same.ensures.value) in
    subst (λ (q : Equations). Advances (interface_models c.args.processes.now.interfaces.items) (copy_in c.args.copy.now) (q ∷ []) (made_of c.args.expansion.now) (made_of c.equate.new.self)) (sym same)
    (advances_by _ (leads_equated (interface_models c.args.processes.now.interfaces.items) (copy_in c.args.copy.now) (made_of c.args.expansion.now).progress (map expression_of c.deref-in-Same.result.now)) c.in_ok-equate-in-Same.ensures)

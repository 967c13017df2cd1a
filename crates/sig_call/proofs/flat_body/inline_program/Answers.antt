use Rattle.sig_call.proofs.{◌≡◌, ◌∙◌, ◌≤◌, ◌+◌, [], ap, sym, subst, length, arith, List, Some, AllByRecursion, length-map, err_from_is_err_and, model_of, program_of, ProcessModel, name_of, inputs_of, outputs_of, locals_of, all_processes, equations_of_model, process_of, Progress, copy_of, copied_signals, first_copy, first_progress, flat_body_of, declaration_in, interface_models, bodies_in, body_is, copy_in, made_of, Made, with_signals, IsReady, AreExpandable, some_body, expandable, refused_by, copied_length, head_is, some_interface, first_found, too_many_declared, too_many_inside, whole_body}
use Rattle.sig_call.proofs.flat_body.inline_program.Goals as goal

pub unreachable-requires : goal.unreachable-requires
unreachable-requires c =
    let all : interface_models c.as_slice.result.now ≡ all_processes (program_of c.args.program.now) = ap interface_models c.as_slice.ensures ∙ c.in_ok-processes.ensures in
    some_interface (program_of c.args.program.now) c.as_slice.result.now all c.requires.tree.some c.in_default.ensures.item.3

pub add_signals-requires : goal.add_signals-requires
add_signals-requires c =
    let all : interface_models c.as_slice.result.now ≡ all_processes (program_of c.args.program.now) = ap interface_models c.as_slice.ensures ∙ c.in_ok-processes.ensures in
    let item = c.in-Some.ensures.item in
    let head = head_is (program_of c.args.program.now) c.as_slice.result.now c.in-Some.first.now all item.3.0 item.1 in
    let found : process_of (all_processes (program_of c.args.program.now)) (name_of (model_of c.in-Some.first.now.process.now)).text ≡ Some (model_of c.in-Some.first.now.process.now) = ap (λ ps. process_of (all_processes ps) (name_of (model_of c.in-Some.first.now.process.now)).text) head.1 ∙ first_found (model_of c.in-Some.first.now.process.now) head.0 in
    let expands = expandable (program_of c.args.program.now) c.requires.tree c.requires.well_formed (name_of (model_of c.in-Some.first.now.process.now)).text (model_of c.in-Some.first.now.process.now) found in
    expands.labels

pub returns-in_err-add_signals-clause-refused : goal.returns-in_err-add_signals-clause-refused
returns-in_err-add_signals-clause-refused c =
    let p = err_from_is_err_and c.from_residual-in_err-add_signals.result c.from_residual-in_err-add_signals.ensures.1 in
    let all : interface_models c.as_slice.result.now ≡ all_processes (program_of c.args.program.now) = ap interface_models c.as_slice.ensures ∙ c.in_ok-processes.ensures in
    let item = c.in-Some.ensures.item in
    let head = head_is (program_of c.args.program.now) c.as_slice.result.now c.in-Some.first.now all item.3.0 item.1 in
    let none : length c.new-expansion.result.signals.items ≡ 0 = ap (λ (m : Made). length m.progress.signals) c.new-expansion.ensures in
    refused_by c.from_residual-in_err-add_signals.result _ c.in_err-add_signals.field-0.0 p.1 p.2 c.in_err-add_signals.ensures.refused
    (λ more. too_many_declared (program_of c.args.program.now) (model_of c.in-Some.first.now.process.now) head.0 (some_body (program_of c.args.program.now) c.requires.tree c.requires.well_formed) head.1 (omega (arith, more)))

pub expand-requires-clause-every : goal.expand-requires-clause-every
expand-requires-clause-every c = subst (λ (qs : List ProcessModel). AreExpandable qs) (sym c.in_ok-processes.ensures) (expandable (program_of c.args.program.now) c.requires.tree c.requires.well_formed)

pub expand-requires-clause-ready : goal.expand-requires-clause-ready
expand-requires-clause-ready c =
    let all : interface_models c.as_slice.result.now ≡ all_processes (program_of c.args.program.now) = ap interface_models c.as_slice.ensures ∙ c.in_ok-processes.ensures in
    let item = c.in-Some.ensures.item in
    let head = head_is (program_of c.args.program.now) c.as_slice.result.now c.in-Some.first.now all item.3.0 item.1 in
    let found : process_of (all_processes (program_of c.args.program.now)) (name_of (model_of c.in-Some.first.now.process.now)).text ≡ Some (model_of c.in-Some.first.now.process.now) = ap (λ ps. process_of (all_processes ps) (name_of (model_of c.in-Some.first.now.process.now)).text) head.1 ∙ first_found (model_of c.in-Some.first.now.process.now) head.0 in
    let expands = expandable (program_of c.args.program.now) c.requires.tree c.requires.well_formed (name_of (model_of c.in-Some.first.now.process.now)).text (model_of c.in-Some.first.now.process.now) found in
    let body : bodies_in c.deref.result.now ≡ equations_of_model (model_of c.in-Some.first.now.process.now) = ap bodies_in c.deref.ensures.value ∙ c.in_ok-equations.ensures ∙ sym (body_is c.in-Some.first.now.process.now) in
    subst (λ (qs : List ProcessModel). AllByRecursion (IsReady qs) (bodies_in c.deref.result.now)) (sym c.in_ok-processes.ensures)
    (subst (λ es. AllByRecursion (IsReady (all_processes (program_of c.args.program.now))) es) (sym body) expands.equations)

pub returns-in_err-expand-clause-refused : goal.returns-in_err-expand-clause-refused
returns-in_err-expand-clause-refused c =
    let p = err_from_is_err_and c.from_residual-in_err-expand.result c.from_residual-in_err-expand.ensures.1 in
    let all : interface_models c.as_slice.result.now ≡ all_processes (program_of c.args.program.now) = ap interface_models c.as_slice.ensures ∙ c.in_ok-processes.ensures in
    let item = c.in-Some.ensures.item in
    let head = head_is (program_of c.args.program.now) c.as_slice.result.now c.in-Some.first.now all item.3.0 item.1 in
    let body : bodies_in c.deref.result.now ≡ equations_of_model (model_of c.in-Some.first.now.process.now) = ap bodies_in c.deref.ensures.value ∙ c.in_ok-equations.ensures ∙ sym (body_is c.in-Some.first.now.process.now) in
    let progress : (made_of c.add_signals.new.self).progress ≡ first_progress (model_of c.in-Some.first.now.process.now) = ap (λ (m : Made). m.progress) (c.in_ok-add_signals.ensures.added ∙ ap (λ (m : Made). with_signals m (copied_signals [] 0 (model_of c.in-Some.first.now.process.now))) c.new-expansion.ensures) in
    let copy : copy_in c.in_ok-copy.copy ≡ first_copy (model_of c.in-Some.first.now.process.now) = c.in_ok-copy.ensures ∙ ap (λ prefix. copy_of prefix 0 [] (model_of c.in-Some.first.now.process.now)) c.in_ok-from_bytes.ensures in
    refused_by c.from_residual-in_err-expand.result _ c.in_err-expand.field-0.0 p.1 p.2 c.in_err-expand.ensures.refused
    (λ more. too_many_inside (program_of c.args.program.now) (interface_models c.in_ok-processes.processes.interfaces.items) (model_of c.in-Some.first.now.process.now) head.0 (copy_in c.in_ok-copy.copy) (bodies_in c.deref.result.now) (made_of c.add_signals.new.self).progress (some_body (program_of c.args.program.now) c.requires.tree c.requires.well_formed) head.1 c.in_ok-processes.ensures copy body progress more)

pub overflow_cast-len : goal.overflow_cast-len
overflow_cast-len c =
    let progress : (made_of c.add_signals.new.self).progress ≡ first_progress (model_of c.in-Some.first.now.process.now) = ap (λ (m : Made). m.progress) (c.in_ok-add_signals.ensures.added ∙ ap (λ (m : Made). with_signals m (copied_signals [] 0 (model_of c.in-Some.first.now.process.now))) c.new-expansion.ensures) in
    let few : length c.add_signals.new.self.signals.items ≤ 512 = c.add_signals.new.self.few in
    let size : length c.add_signals.new.self.signals.items ≡ length (inputs_of (model_of c.in-Some.first.now.process.now)) + (length (outputs_of (model_of c.in-Some.first.now.process.now)) + length (locals_of (model_of c.in-Some.first.now.process.now))) = ap (λ (q : Progress). length q.signals) progress ∙ copied_length [] 0 (model_of c.in-Some.first.now.process.now) in
    let inputs : c.len.result ≡ length (inputs_of (model_of c.in-Some.first.now.process.now)) = c.len.ensures ∙ c.in-Some.first.now.inputs.ok.0 ∙ sym (length-map c.in-Some.first.now.inputs.items declaration_in) ∙ ap length c.in-Some.first.now.inputs_are in
    omega arith

pub overflow_cast-len-2 : goal.overflow_cast-len-2
overflow_cast-len-2 c =
    let progress : (made_of c.add_signals.new.self).progress ≡ first_progress (model_of c.in-Some.first.now.process.now) = ap (λ (m : Made). m.progress) (c.in_ok-add_signals.ensures.added ∙ ap (λ (m : Made). with_signals m (copied_signals [] 0 (model_of c.in-Some.first.now.process.now))) c.new-expansion.ensures) in
    let few : length c.add_signals.new.self.signals.items ≤ 512 = c.add_signals.new.self.few in
    let size : length c.add_signals.new.self.signals.items ≡ length (inputs_of (model_of c.in-Some.first.now.process.now)) + (length (outputs_of (model_of c.in-Some.first.now.process.now)) + length (locals_of (model_of c.in-Some.first.now.process.now))) = ap (λ (q : Progress). length q.signals) progress ∙ copied_length [] 0 (model_of c.in-Some.first.now.process.now) in
    let inputs : c.len.result ≡ length (inputs_of (model_of c.in-Some.first.now.process.now)) = c.len.ensures ∙ c.in-Some.first.now.inputs.ok.0 ∙ sym (length-map c.in-Some.first.now.inputs.items declaration_in) ∙ ap length c.in-Some.first.now.inputs_are in
    let outputs : c.len-2.result ≡ length (outputs_of (model_of c.in-Some.first.now.process.now)) = c.len-2.ensures ∙ c.in-Some.first.now.outputs.ok.0 ∙ sym (length-map c.in-Some.first.now.outputs.items declaration_in) ∙ ap length c.in-Some.first.now.outputs_are in
    omega arith

pub returns-clause-flat : goal.returns-clause-flat
returns-clause-flat c =
    let all : interface_models c.as_slice.result.now ≡ all_processes (program_of c.args.program.now) = ap interface_models c.as_slice.ensures ∙ c.in_ok-processes.ensures in
    let item = c.in-Some.ensures.item in
    let head = head_is (program_of c.args.program.now) c.as_slice.result.now c.in-Some.first.now all item.3.0 item.1 in
    let body : bodies_in c.deref.result.now ≡ equations_of_model (model_of c.in-Some.first.now.process.now) = ap bodies_in c.deref.ensures.value ∙ c.in_ok-equations.ensures ∙ sym (body_is c.in-Some.first.now.process.now) in
    let progress : (made_of c.add_signals.new.self).progress ≡ first_progress (model_of c.in-Some.first.now.process.now) = ap (λ (m : Made). m.progress) (c.in_ok-add_signals.ensures.added ∙ ap (λ (m : Made). with_signals m (copied_signals [] 0 (model_of c.in-Some.first.now.process.now))) c.new-expansion.ensures) in
    let few : length c.add_signals.new.self.signals.items ≤ 512 = c.add_signals.new.self.few in
    let size : length c.add_signals.new.self.signals.items ≡ length (inputs_of (model_of c.in-Some.first.now.process.now)) + (length (outputs_of (model_of c.in-Some.first.now.process.now)) + length (locals_of (model_of c.in-Some.first.now.process.now))) = ap (λ (q : Progress). length q.signals) progress ∙ copied_length [] 0 (model_of c.in-Some.first.now.process.now) in
    let inputs : c.len.result ≡ length (inputs_of (model_of c.in-Some.first.now.process.now)) = c.len.ensures ∙ c.in-Some.first.now.inputs.ok.0 ∙ sym (length-map c.in-Some.first.now.inputs.items declaration_in) ∙ ap length c.in-Some.first.now.inputs_are in
    let outputs : c.len-2.result ≡ length (outputs_of (model_of c.in-Some.first.now.process.now)) = c.len-2.ensures ∙ c.in-Some.first.now.outputs.ok.0 ∙ sym (length-map c.in-Some.first.now.outputs.items declaration_in) ∙ ap length c.in-Some.first.now.outputs_are in
    let copy : copy_in c.in_ok-copy.copy ≡ first_copy (model_of c.in-Some.first.now.process.now) = c.in_ok-copy.ensures ∙ ap (λ prefix. copy_of prefix 0 [] (model_of c.in-Some.first.now.process.now)) c.in_ok-from_bytes.ensures in
    let made : made_of c.add_signals.new.self ≡ record { progress = first_progress (model_of c.in-Some.first.now.process.now); equations = [] } = c.in_ok-add_signals.ensures.added ∙ ap (λ (m : Made). with_signals m (copied_signals [] 0 (model_of c.in-Some.first.now.process.now))) c.new-expansion.ensures in
    whole_body (program_of c.args.program.now) (interface_models c.in_ok-processes.processes.interfaces.items) (model_of c.in-Some.first.now.process.now) head.0 (copy_in c.in_ok-copy.copy) (bodies_in c.deref.result.now) (made_of c.add_signals.new.self) (made_of c.expand.new.expansion) (flat_body_of c.finish.result) c.len.result c.len-2.result
    head.1 c.in_ok-processes.ensures copy body made inputs outputs c.in_ok-expand.ensures.advanced c.finish.ensures.is

use Rattle.sig_type.proofs.{model_of, Name, name_is, calls_join, first_same, has_place, declarations_in, bodies_in, names_in, interface_models, ap, sym, ◌∙◌, take}
use Rattle.sig_type.proofs.well_formed.calls_of.Goals as goal

pub recursive_calls-requires-clause-target : goal.recursive_calls-requires-clause-target
recursive_calls-requires-clause-target c = rw c.as_bytes.ensures at c.in-Some.ensures

pub returns-in-Some : goal.returns-in-Some
returns-in-Some c =
    let all = interface_models c.args.processes.now.interfaces.items in
    calls_join all (take c.args.place all) (model_of c.args.interface.now.process.now) _ c.is_first_with_params.result (bodies_in c.args.body.now) (names_in c.deref.result.now) (declarations_in c.args.interface.now.params.items)
    (sym (name_is c.args.interface.now.process.now)) (ap names_in c.deref.ensures.value ∙ c.in_ok-names.ensures) c.args.interface.now.params_are (first_same all c.args.place (model_of c.args.interface.now.process.now) c.requires.here) c.is_first_with_params.ensures c.ask.ensures c.bad_calls.ensures c.in_ok-recursive_calls-in-Some.ensures

pub returns : goal.returns
returns c =
    let all = interface_models c.args.processes.now.interfaces.items in
    absurd (has_place all c.args.place (model_of c.args.interface.now.process.now) _ c.requires.here (c.as_bytes.ensures ∙ sym (ap (λ (n : Name). n.text) (name_is c.args.interface.now.process.now))) c.in-None.ensures)

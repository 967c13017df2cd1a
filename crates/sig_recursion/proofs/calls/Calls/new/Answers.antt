use Rattle.sig_recursion.proofs.{called_in, called_by, model_of, ProcessModel, body_is, places_called, bodies_in, names_in, process_texts, interface_models, Interface, ℕ, [], ap, sym, ◌∙◌, map, take_all, map-map, Vec, flat_map, lengthens}
use Rattle.sig_recursion.proofs.calls.Calls.new.Goals as goal

pub loop-interface-preserved : goal.loop-interface-preserved
loop-interface-preserved c =
    let ts = process_texts (interface_models c.args.processes.now.interfaces.items) in
    rw c.in_ok-push.ensures.items (lengthens (λ (i : Interface). places_called ts (called_by (model_of i.process.now))) (λ (v : Vec ℕ). v.items) [] _ c.in_ok-places.places c.as_slice-interface-items.result.now c.loop-interface.interface-index c.interface-item.result c.interface-item.is c.loop-interface-test.true c.loop-interface.invariant
    (c.in_ok-places.ensures ∙ ap (λ ns. places_called ts (names_in ns)) c.deref-in-loop-interface.ensures.value ∙ ap (places_called ts) (c.in_ok-names.ensures ∙ ap (λ bs. flat_map called_in (bodies_in bs)) c.deref.ensures.value
    ∙ ap (flat_map called_in) (c.in_ok-body.ensures ∙ sym (body_is c.interface-item.result.process.now)))))

pub returns : goal.returns
returns c =
    let ts = process_texts (interface_models c.args.processes.now.interfaces.items) in
    c.loop-interface.invariant ∙ ap (map (λ (i : Interface). places_called ts (called_by (model_of i.process.now)))) (take_all _ c.as_slice-interface-items.result.now c.loop-interface-test.false ∙ c.as_slice-interface-items.ensures)
    ∙ sym (map-map (λ (p : ProcessModel). places_called ts (called_by p)) (λ (i : Interface). model_of i.process.now) c.args.processes.now.interfaces.items)

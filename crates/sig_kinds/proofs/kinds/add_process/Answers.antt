use Rattle.sig_kinds.proofs.{map, ap, ◌∙◌, sym, ◌++◌, flat_map, equations_of_model, model_of, body_is, known, kinds_in, expressions_of, bodies_in}
use Rattle.sig_kinds.proofs.kinds.add_process.Goals as goal

pub returns : goal.returns
returns c =
    let start = c.args.all.now.items in
    c.in_ok-add_equations.ensures
    ∙ ap (λ bs. start ++ map known (kinds_in c.in_ok-scope.scope (flat_map expressions_of (bodies_in bs)))) c.deref.ensures.value
    ∙ ap (λ eqs. start ++ map known (kinds_in c.in_ok-scope.scope (flat_map expressions_of eqs))) (c.in_ok-body.ensures ∙ sym (body_is c.args.interface.now.process.now))
    ∙ ap (λ scope. start ++ map known (kinds_in scope (flat_map expressions_of (equations_of_model (model_of c.args.interface.now.process.now))))) c.in_ok-scope.ensures

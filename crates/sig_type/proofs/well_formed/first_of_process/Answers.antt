use Rattle.sig_type.proofs.{candidate, DeclaredTwice, Declaration, name_of, texts, model_of, Name, finds_as, finds_same, finds_then, name_is, body_is, pragmas_are, joined, repeated, declarations_in, bodies_in, interface_models, ap, sym, ◌∙◌, map, take, ◌∷◌, [], Contains}
use Rattle.sig_type.proofs.well_formed.first_of_process.Goals as goal

pub returns : goal.returns
returns c =
    let all = interface_models c.args.processes.now.interfaces.items in
    let before = take c.args.place all in
    let p = model_of c.args.interface.now.process.now in
    joined all before p c.in_ok-scope.scope (declarations_in c.args.interface.now.outputs.items) (bodies_in c.in_ok-body.body.items) (declarations_in c.args.interface.now.locals.items) _
    c.in_ok-scope.ensures c.args.interface.now.outputs_are (c.in_ok-body.ensures ∙ sym (body_is c.args.interface.now.process.now)) c.args.interface.now.locals_are (sym (pragmas_are c.args.interface.now.process.now))
    (finds_then (rw c.deref.ensures.value at c.unknown_names.ensures)
    (finds_then (finds_then (finds_as (ap (λ (n : Name). candidate (DeclaredTwice n) (Contains (texts (map name_of before)) (name_of p).text) ∷ []) (sym (name_is c.args.interface.now.process.now))) (finds_same _ c.requires.again c.ask.ensures))
    (finds_as (ap (λ ds. repeated DeclaredTwice (map (λ (d : Declaration). d.name) ds)) c.as_slice.ensures) c.in_ok-declared_twice.ensures))
    (finds_then (rw c.deref-2.ensures.value at c.in_ok-definitions.ensures)
    (finds_then (rw c.deref-3.ensures.value at c.clashes.ensures)
    (finds_then (rw c.deref-4.ensures.value at c.bare_constants.ensures)
    (finds_then (rw c.deref-5.ensures.value at c.in_ok-calls_of.ensures)
    (finds_then (rw c.deref-6.ensures.value at c.in_ok-bad_pragmas.ensures) (rw c.deref-7.ensures.value at c.missing_inits.ensures))))))))

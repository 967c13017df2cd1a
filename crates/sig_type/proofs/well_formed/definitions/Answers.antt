use Rattle.sig_type.proofs.{definitions_join, declarations_in, bodies_in, names_in, ap, ◌∙◌}
use Rattle.sig_type.proofs.well_formed.definitions.Goals as goal

pub returns : goal.returns
returns c = definitions_join c.args.scope.now (declarations_in c.args.interface.now.outputs.items) (declarations_in c.args.interface.now.locals.items) (bodies_in c.args.body.now) (names_in c.deref.result.now) (names_in c.deref-2.result.now) c.in_ok-defined.defined _ _
    (ap names_in c.deref.ensures.value ∙ c.in_ok-left_sides.ensures) (ap names_in c.deref-2.ensures.value ∙ c.in_ok-left_sides.ensures) c.in_ok-defined.ensures.texts (ap declarations_in c.deref-3.ensures.value) (ap declarations_in c.deref-4.ensures.value)
    c.inputs_defined.ensures c.in_ok-defined.ensures.twice c.undefined.ensures c.undefined-2.ensures

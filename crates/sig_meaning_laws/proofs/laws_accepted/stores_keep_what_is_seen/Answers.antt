use Rattle.sig_meaning_laws.proofs.{ap, ◌∙◌, Some, operations_in, numbers_of, compiled, stored, form_in}
use Rattle.sig_meaning_laws.proofs.laws_accepted.stores_keep_what_is_seen.Goals as goal

pub returns : goal.returns
returns c = λ plan accepted memory next instant is number p at done e y x initial equation kind there form.
    stored plan.kernel plan.clocks.conditions (operations_in plan.store.nodes plan.ops) (numbers_of plan.order) (compiled plan accepted) memory next instant is number p at done e y x initial kind (ap form_in there ∙ ap Some form)

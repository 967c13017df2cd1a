use Rattle.sig_front.proofs.{few_equations, is_valid, traces, places}
use Rattle.sig_front.proofs.Kernels.{names}
use Rattle.sig_front.proofs.laws.kernels_of_texts.Goals as goal

pub returns-clause-traces : goal.returns-clause-traces
returns-clause-traces c =
    traces c.trees_of_texts.ensures.tree c.trees_of_texts.ensures.bounded c.flat_bodies_are_well_made.ensures
    c.kernel_traces_are_process_traces.ensures.restricted c.kernel_traces_are_process_traces.ensures.extended c.kernel_traces_are_process_traces.ensures.one

pub returns-clause-valid : goal.returns-clause-valid
returns-clause-valid c = λ text kernel short is.
    is_valid c.trees_of_texts.ensures.tree c.trees_of_texts.ensures.bounded c.flat_bodies_are_well_made.ensures
    c.kernels_are_valid.ensures c.names_of_flat_bodies.ensures.differ text kernel is
    (few_equations c.trees_of_texts.ensures.tree c.trees_of_texts.ensures.sized c.size_of_flat_bodies.ensures.weights c.kernels_have_few_equations.ensures
    text kernel short is)

pub returns-clause-small : goal.returns-clause-small
returns-clause-small c =
    few_equations c.trees_of_texts.ensures.tree c.trees_of_texts.ensures.sized c.size_of_flat_bodies.ensures.weights c.kernels_have_few_equations.ensures

pub returns-clause-names : goal.returns-clause-names
returns-clause-names c = names c.signals_have_names.ensures.signals c.signals_have_names.ensures.operators c.kernels_name_signals.ensures

pub returns-clause-places : goal.returns-clause-places
returns-clause-places c = places c.places_of_flat_bodies.ensures c.kernels_keep_places.ensures

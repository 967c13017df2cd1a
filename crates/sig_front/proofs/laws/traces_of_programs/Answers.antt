use Rattle.sig_front.proofs.{Bounded, longest_of_program, front_of_program, silence_of_program}
use Rattle.sig_front.proofs.laws.traces_of_programs.Goals as goal

pub returns-clause-longest : goal.returns-clause-longest
returns-clause-longest c =
    longest_of_program c.trees_of_texts.ensures.tree c.trees_of_texts.ensures.bounded c.flat_bodies_are_well_made.ensures
    c.longest_traces_are_longest_process_traces.ensures.restricted

pub returns-clause-front : goal.returns-clause-front
returns-clause-front c =
    front_of_program c.trees_of_texts.ensures.tree c.trees_of_texts.ensures.bounded c.flat_bodies_are_well_made.ensures
    c.kernel_traces_are_process_traces.ensures.restricted c.kernel_traces_are_process_traces.ensures.extended
    (λ kernel. c.beginnings_are_traces.ensures.front Bounded kernel)

pub returns-clause-silence : goal.returns-clause-silence
returns-clause-silence c =
    silence_of_program c.trees_of_texts.ensures.tree c.trees_of_texts.ensures.bounded c.flat_bodies_are_well_made.ensures
    c.restricted_traces_keep_silence.ensures

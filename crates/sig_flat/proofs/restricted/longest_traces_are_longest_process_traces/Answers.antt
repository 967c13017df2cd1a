use Rattle.sig_flat.proofs.{Bounded, IsWellMade, kernel_of, FlatBody, Known, longest_extended, longest_restricted}
use Rattle.sig_flat.proofs.restricted.longest_traces_are_longest_process_traces.Goals as goal

known : (c : goal.After-kernel_traces_are_process_traces) → (flat : FlatBody) → IsWellMade flat → Known flat
known c flat made = record {
  signals = c.kernels_keep_signals.ensures.signals flat;
  restricts = λ trace. c.kernel_traces_are_process_traces.ensures.restricted flat trace made;
  extends = λ trace. c.kernel_traces_are_process_traces.ensures.extended flat trace made;
  once = λ a b. c.kernel_traces_are_process_traces.ensures.one flat a b made;
  begins = c.beginnings_are_traces.ensures.front Bounded (kernel_of flat);
  reduces = c.silent_instants_make_no_difference.ensures.taken_out Bounded (kernel_of flat);
  goes_on = c.silent_instants_make_no_difference.ensures.put_in Bounded (kernel_of flat);
}

pub returns-clause-restricted : goal.returns-clause-restricted
returns-clause-restricted c = λ flat flows limit trace made. longest_restricted flat (known c flat made) flows limit trace

pub returns-clause-extended : goal.returns-clause-extended
returns-clause-extended c = λ flat flows limit trace made. longest_extended flat (known c flat made) flows limit trace

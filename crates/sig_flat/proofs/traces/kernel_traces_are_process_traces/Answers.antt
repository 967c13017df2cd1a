use Rattle.sig_flat.proofs.{process_trace, kernel_trace, one_kernel_trace, ReadByInstants}
use Rattle.sig_flat.proofs.traces.kernel_traces_are_process_traces.Goals as goal

read : goal.After-equations_step → ReadByInstants
read c = record {
  one = c.expressions_step.ensures.one;
  first = c.equations_step.ensures.first;
  holds = c.equations_step.ensures.holds;
  behind = c.equations_step.ensures.behind;
  whole = c.equations_step.ensures.whole;
}

pub returns-clause-restricted : goal.returns-clause-restricted
returns-clause-restricted c = process_trace (read c)

pub returns-clause-extended : goal.returns-clause-extended
returns-clause-extended c = kernel_trace (read c)

pub returns-clause-one : goal.returns-clause-one
returns-clause-one c = one_kernel_trace (read c)

use Rattle.sig_kernel.proofs.{wide_reaction, wide_trace}
use Rattle.sig_kernel.proofs.laws.bounded_traces_are_unbounded.Goals as goal

pub returns-clause-instant : goal.returns-clause-instant
returns-clause-instant c = wide_reaction c.functions_give_values_without_bounds.ensures.bounded

pub returns-clause-trace : goal.returns-clause-trace
returns-clause-trace c = wide_trace c.functions_give_values_without_bounds.ensures.bounded

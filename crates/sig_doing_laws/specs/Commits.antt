-- The instants that a run has committed.
use Rattle.sig_doing_laws.specs.Prelude.{ℤ, List, Fits, NoneSilent, Trace, IsKernelTrace, Kernel}

-- A trace that is committed: it is one of the kernel, fits the flows, and none of its instants is silent.
pub record IsCommitted (kernel : Kernel) (flows : List (List ℤ)) (trace : Trace) : Type 0 where
  pub is : IsKernelTrace kernel trace
  pub fits : Fits flows trace
  pub speaks : NoneSilent trace

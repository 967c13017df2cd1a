-- What the kernel of a plan does over flows.
use Rattle.sig_back.specs.Prelude.{ℕ, ℤ, List, IsLongest, Trace, IsKernelTrace, AreFlowsFor, Kernel}

-- for all flows that fit and every limit of instants a kernel has a longest trace
abbrev pub HasLongestTraces : Kernel → Type 0
HasLongestTraces kernel = (flows : List (List ℤ)) → AreFlowsFor kernel flows → (limit : ℕ) → (trace : Trace) × IsLongest (IsKernelTrace kernel) flows limit trace

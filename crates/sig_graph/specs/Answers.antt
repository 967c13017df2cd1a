-- Why operations have no order.
use Rattle.sig_graph.specs.Prelude.{List, SigId, Operation, IsCycle}
use Rattle.sig_graph.specs.declared.answer.GraphAnswer.{GraphAnswer}
use Rattle.sig_graph.specs.declared.answer.GraphAnswer.TheVariants.{Cycle, OutOfMemory}

-- operations are refused for a cycle, or for want of memory
abbrev pub IsRefusal : List SigId → List Operation → GraphAnswer → Type 0
IsRefusal conditions operations (Cycle x) = IsCycle conditions operations x.0
IsRefusal conditions operations OutOfMemory = Unit {0}

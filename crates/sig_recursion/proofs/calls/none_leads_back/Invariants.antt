use Rattle.sig_recursion.proofs.{take, AllByRecursion, Reaches, interface_models, names_in}
use Rattle.sig_recursion.proofs.calls.none_leads_back.Given as goal

abbrev pub invariant-loop-name : goal.invariant-loop-name
invariant-loop-name l = AllByRecursion (λ name. Reaches (interface_models l.processes.interfaces.items) name.text l.back.text → ⊥) (names_in (take l.name-index l.names))

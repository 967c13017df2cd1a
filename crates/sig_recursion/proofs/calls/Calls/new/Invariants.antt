use Rattle.sig_recursion.proofs.{called_by, model_of, graph_in, places_called, process_texts, interface_models, map, take, ◌≡◌}
use Rattle.sig_recursion.proofs.calls.Calls.new.Given as goal

abbrev pub invariant-loop-interface : goal.invariant-loop-interface
invariant-loop-interface l = graph_in l.callees.items ≡ map (λ i. places_called (process_texts (interface_models l.processes.interfaces.items)) (called_by (model_of i.process.now))) (take l.interface-index l.interface-items)

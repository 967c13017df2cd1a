use Rattle.sig_recursion.proofs.{list_of, place_of, process_texts, interface_models, take, ◌≡◌, flat_map}
use Rattle.sig_recursion.proofs.calls.places_of.Given as goal

abbrev pub invariant-loop-name : goal.invariant-loop-name
invariant-loop-name l = l.all.items ≡ flat_map (λ n. list_of (place_of (process_texts (interface_models l.processes.interfaces.items)) n.now.text)) (take l.name-index l.names)

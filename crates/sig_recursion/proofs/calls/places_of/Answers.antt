use Rattle.sig_recursion.proofs.{Name, list_of, place_of, process_texts, interface_models, [], Bor, grown}
use Rattle.sig_recursion.proofs.calls.places_of.Goals as goal

pub returns : goal.returns
returns c = grown (λ (n : Name). list_of (place_of (process_texts (interface_models c.args.processes.now.interfaces.items)) n.text)) (λ (n : Bor Name). n.now) [] _ c.args.names.now _ c.loop-name-test.false c.loop-name.invariant

use Rattle.sig_recursion.proofs.{name_of, ProcessModel, graph_is, found_same, reaches_none, calls_size, within, IsGraph, interface_models, process_texts, ℕ, List, subst, sym, refl, ◌<◌, length, arith}
use Rattle.sig_recursion.proofs.calls.is_recursive.Goals as goal

pub reaches-requires-clause-graph : goal.reaches-requires-clause-graph
reaches-requires-clause-graph c = let P : List (List ℕ) → Type 0 = λ g. IsGraph g in subst P (sym c.requires.calls) (graph_is (interface_models c.args.processes.now.interfaces.items))

pub reaches-requires-clause-start : goal.reaches-requires-clause-start
reaches-requires-clause-start c =
    let all = interface_models c.args.processes.now.interfaces.items in
    let inside : c.in-Some.start < length all = within (λ (p : ProcessModel). (name_of p).text) (process_texts all) all _ c.in-Some.start refl c.in-Some.ensures in
    let same = calls_size c.args.calls.now.callees.items all c.requires.calls in
    omega arith

pub returns-in-None-clause-found : goal.returns-in-None-clause-found
returns-in-None-clause-found c = (λ e. absurd cc, λ r. absurd (reaches_none (interface_models c.args.processes.now.interfaces.items) _ _ _ (rw c.as_bytes.ensures at c.in-None.ensures) c.requires.target r))

pub returns-in_ok-found-in-Some-clause-found : goal.returns-in_ok-found-in-Some-clause-found
returns-in_ok-found-in-Some-clause-found c = found_same (interface_models c.args.processes.now.interfaces.items) _ _ _ _ _ _ c.requires.calls (rw c.as_bytes.ensures at c.in-Some.ensures) c.requires.target c.in_ok-found-in-Some.ensures.found

use Rattle.sig_type.proofs.{names_of_init, uses_of_equation, Declaration, signals_used, finds_signals, uses_both, declarations_in, bodies_in, interface_models, ◌++◌, flat_map}
use Rattle.sig_type.proofs.names.unknown_names.Goals as goal

pub returns : goal.returns
returns c = rw (← c.deref.ensures.value, ← c.deref-2.ensures.value) (uses_both (interface_models c.args.processes.now.interfaces.items) c.args.scope.now (signals_used (flat_map (λ (d : Declaration). names_of_init d.init) (declarations_in c.deref.result.now))) ((flat_map uses_of_equation (bodies_in c.args.body.now)) ++ signals_used (flat_map (λ (d : Declaration). names_of_init d.init) (declarations_in c.deref-2.result.now))) (finds_signals (interface_models c.args.processes.now.interfaces.items) c.args.scope.now (flat_map (λ (d : Declaration). names_of_init d.init) (declarations_in c.deref.result.now)) c.inits.ensures)
    (uses_both (interface_models c.args.processes.now.interfaces.items) c.args.scope.now (flat_map uses_of_equation (bodies_in c.args.body.now)) (signals_used (flat_map (λ (d : Declaration). names_of_init d.init) (declarations_in c.deref-2.result.now))) c.equations.ensures (finds_signals (interface_models c.args.processes.now.interfaces.items) c.args.scope.now (flat_map (λ (d : Declaration). names_of_init d.init) (declarations_in c.deref-2.result.now)) c.inits-2.ensures)))

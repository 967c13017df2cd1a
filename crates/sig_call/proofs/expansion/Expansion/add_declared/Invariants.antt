use Rattle.sig_call.proofs.{◌≡◌, take, model_of, declarations_in, made_of, with_signals, signals_copied}
use Rattle.sig_call.proofs.expansion.Expansion.add_declared.Given as goal

abbrev pub invariant-loop-one : goal.invariant-loop-one
invariant-loop-one l = made_of l.self ≡ with_signals (made_of l.initial.self) (signals_copied l.prefix l.cluster (model_of l.process) (declarations_in (take l.one-index l.declared)))

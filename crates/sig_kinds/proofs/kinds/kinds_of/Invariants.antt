use Rattle.sig_kinds.proofs.{◌≡◌, map, take, flat_map, model_of, known, kinds_of_model}
use Rattle.sig_kinds.proofs.kinds.kinds_of.Given as goal

abbrev pub invariant-loop-interface : goal.invariant-loop-interface
invariant-loop-interface l = l.all.items ≡ flat_map (λ i. map known (kinds_of_model (model_of i.process.now))) (take l.interface-index l.interface-items)

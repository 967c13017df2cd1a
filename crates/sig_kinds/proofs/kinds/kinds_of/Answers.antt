use Rattle.sig_kinds.proofs.{map, ap, ◌∙◌, [], flat_map, all_processes, ProcessModel, model_of, program_of, pieces, known, kinds_of_model, interface_models, Interface, grown, grows}
use Rattle.sig_kinds.proofs.kinds.kinds_of.Goals as goal

pub loop-interface-preserved : goal.loop-interface-preserved
loop-interface-preserved c = grows (λ (i : Interface). map known (kinds_of_model (model_of i.process.now))) [] _ _ c.as_slice-interface-items.result.now c.loop-interface.interface-index c.interface-item.result c.interface-item.is c.loop-interface-test.true c.loop-interface.invariant c.in_ok-add_process.ensures

pub returns : goal.returns
returns c =
    grown (λ (p : ProcessModel). map known (kinds_of_model p)) (λ (i : Interface). model_of i.process.now) [] _ c.as_slice-interface-items.result.now _ c.loop-interface-test.false c.loop-interface.invariant
    ∙ ap (λ is. flat_map (λ p. map known (kinds_of_model p)) (interface_models is)) c.as_slice-interface-items.ensures
    ∙ ap (flat_map (λ p. map known (kinds_of_model p))) c.in_ok-processes.ensures
    ∙ pieces known kinds_of_model (all_processes (program_of c.args.program.now))

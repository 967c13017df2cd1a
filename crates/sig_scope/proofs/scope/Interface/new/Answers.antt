use Rattle.sig_scope.proofs.{params_are, inputs_are, outputs_are, locals_are}
use Rattle.sig_scope.proofs.scope.Interface.new.Goals as goal

pub invariant_of-result : goal.invariant_of-result
invariant_of-result c = record {
  params_are = rw (params_are c.args.process.now, ← c.deref.ensures.value) c.in_ok-params.ensures;
  inputs_are = rw (inputs_are c.args.process.now, ← c.deref-2.ensures.value) c.in_ok-inputs.ensures;
  outputs_are = rw (outputs_are c.args.process.now, ← c.deref-3.ensures.value) c.in_ok-outputs.ensures;
  locals_are = rw (locals_are c.args.process.now, ← c.deref-4.ensures.value) c.in_ok-locals.ensures;
}

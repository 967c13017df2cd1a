use Rattle.sig_call.proofs.{length, zip_end, bindings_in, constants_end}
use Rattle.sig_call.proofs.binding.bind_constants.Goals as goal

pub returns : goal.returns
returns c =
    constants_end c.args.params.now c.args.constants.now _ (bindings_in c.loop-param.bound.items) (length c.loop-param.yielded)
    (zip_end c.args.params.now c.args.constants.now c.loop-param.yielded c.into_iter-param-iterator.result c.loop-param.param-iterator c.next.new.self c.next.result (cc) (cc) c.loop-param.yielded_by c.in-None.is c.next.ensures.steps)
    c.loop-param.invariant

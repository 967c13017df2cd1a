use Rattle.sig_type.proofs.{finds_then, finds_same, finds_later}
use Rattle.sig_type.proofs.clashes.call.Goals as goal

pub returns : goal.returns
returns c = rw (← c.args.called.now.outputs_are, ← c.args.called.now.inputs_are, ← c.args.called.now.params_are, ← c.deref.ensures.value, ← c.deref-2.ensures.value, ← c.deref-3.ensures.value)
    (finds_then c.results.ensures (finds_then (finds_same _ c.arguments-unfit.ensures.unfit c.ask.ensures) (finds_then c.constants.ensures (finds_later c.new-inside.ensures c.arguments-unfit.ensures.clashes c.append.ensures))))

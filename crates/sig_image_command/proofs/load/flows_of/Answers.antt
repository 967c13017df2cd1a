use Rattle.sig_image_command.proofs.{flows_fit, inputs_differ}
use Rattle.sig_image_command.proofs.load.flows_of.Goals as goal

pub read_named-requires : goal.read_named-requires
read_named-requires c = record { differ = rw (c.deref.ensures.value, c.in-Ok.ensures.inputs) (inputs_differ c.args.image.now c.in-Ok.ensures.right) }

pub returns-in-Ok-read_named-clause-fit : goal.returns-in-Ok-read_named-clause-fit
returns-in-Ok-read_named-clause-fit c =
    flows_fit c.args.image.now c.in-Ok.ensures.right c.args.bytes.now c.in-Ok-read_named.flows (rw (c.deref.ensures.value, c.in-Ok.ensures.inputs) at c.in-Ok-read_named.ensures.flows)

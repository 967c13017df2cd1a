-- the inputs so far are those of the signals so far
use Rattle.sig_image_command.proofs.{◌≡◌, map, take, input_of}
use Rattle.sig_image_command.proofs.load.inputs_of.Given as goal

abbrev pub invariant-loop-signal : goal.invariant-loop-signal
invariant-loop-signal l = record {
  made : l.inputs.items ≡ map input_of (take l.signal-index l.signal-items);
}
